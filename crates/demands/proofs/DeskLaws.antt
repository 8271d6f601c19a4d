-- Demands 2 and 3 hold at the entries. Assumes nothing.
use mathlib.Core.Path.{◌≡◌, refl, sym, ap, ◌∙◌}
use mathlib.Core.Logic.{◌↔◌}
use mathlib.Core.Bool.{Bool, true, false}
use mathlib.Core.List.{List, [], ◌∷◌, ◌++◌}
use Prim.Native.Nat.{ℕ, ◌+◌, ◌*◌, ◌/◌, ◌%◌, ◌≤◌}
use native.Mathlib.Omega.{arith}
use lib.ListN.{length, length-append, length-map, length-take}
use lib.Seq.{take_all, ext_get_or}
use borrow.Author.Tests.{le-leb, lt-leb, ne_eqb}
use Rattle.std.specs.Prelude.{Ok, Err, Result, ⊤, ℤ}
use Rattle.ledger.specs.Refusals.{without_text, require}
use Rattle.ledger.specs.declared.Row.{Row}
use Rattle.ledger.specs.declared.Reason.TheVariants.{BadWord, NoRoom}
use Rattle.ledger.specs.declared.Refusal.{Refusal}
use Rattle.ledger.specs.Limits.{text_limit, block_limit, largest_number}
use Rattle.ledger.specs.Reasons.{reason_number}
use Rattle.text.specs.declared.Class.TheVariants.{Line}
use Rattle.text.specs.Scan.{run}
use Rattle.text.specs.Pieces.{line_of}
use Rattle.text.specs.Parts.{part_bytes}
use Rattle.text.proofs.Laws.{either}
use Rattle.numbers.specs.Ranges.{Between, between_none, between_more}
use Rattle.writing.specs.Answers.{room_answer}
use Rattle.writing.specs.Digits.{digits}
use Rattle.blocks.specs.Rows.{targets_of, queries_of, sizes_of}
use Rattle.bed.specs.declared.Bed.{Bed}
use Rattle.bed.specs.Records.{bed_targets, bed_queries, bed_sizes}
use Rattle.bed.specs.Write.{bed_text, bed_write}
use Rattle.psl.specs.declared.Psl.{Psl}
use Rattle.psl.specs.Records.{psl_targets, psl_queries, psl_sizes}
use Rattle.psl.specs.Write.{psl_text, psl_write}
use Rattle.chain.specs.declared.Chain.{Chain}
use Rattle.text.specs.Checks.{refused}
use Rattle.chain.specs.Read.{chain_check}
use Rattle.chain.specs.Rules.{named}
use Rattle.chain.specs.Write.{chain_text, chain_write}
use Rattle.chain_laws.proofs.RuleLaws.{rules_of}
use Rattle.number_line.specs.Numbers.{largest_listed, numbers_in, numbers_check}
use Rattle.number_line.specs.Rules.{NumbersText}
use Rattle.number_line.proofs.LineLaws.{numbers_of, numbers_is}
use Rattle.lift.specs.Accepted.{accepted}
use Rattle.lift.specs.Positions.{lift_position}
use Rattle.lift.proofs.AcceptLaws.{accepted_rules}
use Rattle.region.specs.Regions.{lift_region}
use Rattle.turn.specs.Turns.{turned, turned_rows}
use Rattle.turn.proofs.TurnLaws.{turns, counted_lem, turned_accepted}
use Rattle.table_bed.proofs.RowLaws.{bed_reads}
use Rattle.table_psl.proofs.RowLaws.{psl_reads}
use Rattle.table_chain.proofs.RowLaws.{chain_reads}
use Rattle.binary.specs.Bytes.{word_size, words_bytes, low_at}
use Rattle.binary.proofs.BackLaws.{rows_length, words_length, words_back}
use Rattle.answers.specs.Answers.{most_told, told, Outcome, gives, refuses, refusal_code, Answered, roomed, numbered, record_numbers, recorded, no_room_at}
use Rattle.answers.proofs.AnswerLaws.{told_itself, refused_reason}
use Rattle.entries.specs.Records.{bed_numbers, psl_numbers, chain_numbers}
use Rattle.entries.specs.Entries.{by_kind, written, name_bytes, bed_written, psl_written, chain_written, checked_bed, checked_psl, checked_chain, checked, parsed_bed, parsed_psl, parsed_chain, parsed, formatted_bed, formatted_psl, formatted_chain, formatted, of_numbers, numbers_given, in_word, of_position, position_lifted, of_region, region_lifted, turn_written, turned_text, tally_in, tallied, on_check, batch_lifted, tally_after, BatchTold}
use Rattle.demands.specs.Formats.{Names, Format}
use Rattle.demands.specs.Demand2.{Demand2}
use Rattle.demands.specs.Bed.{BedSpells, bed_names, bed}
use Rattle.demands.specs.Psl.{PslSpells, psl_names, psl}
use Rattle.demands.specs.Chain.{ChainSpells, chain_names, ChainValid, chain}
use Rattle.demands.specs.Desk.{RefusedBy, Gives, GivenRoom, Refuses, SpellsOne, AtDesk, SpellsNumbers, NumbersAtDesk, PositionTold, RegionTold, turned_in, ChainsAtDesk, Desk}
use Rattle.demands.proofs.RowLaws.{read_flat, refused_of}
use Rattle.demands.proofs.PlaceLaws.{words_few}
use Rattle.demands.proofs.TextPlaceLaws.{bed_in, bed_long, psl_in, psl_long, numbers_in_lem, numbers_long, chain_in, chain_long_lem}
use Rattle.demands.proofs.BedDemand2 as ofBed
use Rattle.demands.proofs.PslDemand2 as ofPsl
use Rattle.demands.proofs.ChainDemand2 as ofChain
use Rattle.demands.proofs.RefusalLaws.{position_at, region_at}
use Rattle.demands.proofs.Demand1Laws.{thirteen}
use Rattle.demands.proofs.CallLaws.{tally_told, batch_given, batch_kept}
use Rattle.region.specs.Batches.{answer_rows, region_size, regions_in, rows_bytes, room_in_bytes, sent_text, text_batch_check}
use Rattle.region.proofs.ByteLaws.{regions_length}
use Rattle.region.specs.declared.Region.{Region}
use Rattle.demands.proofs.Demand3Laws.{spelled_accepted}

-- ---- outcomes, as an answer and the lent bytes
module _ (b b' : List ℕ) (a : ℕ) where
  refused_by : (x : Refusal) → x.place ≤ most_told → Answered (refuses x) b b' a → RefusedBy x b b' a
  refused_by x h k = record { code = k.is ∙ ap (λ (n : ℕ). n + reason_number x.reason) (sym (told_itself x.place h)); left = k.left }

  given : (n : ℕ) (bytes : List ℕ) → n ≤ most_told → Answered (gives n bytes) b b' a → Gives n bytes b b' a
  given n bytes h k = record { code = k.is ∙ sym (told_itself n h); left = k.left }

  numbers_given_lem : (end : ℕ) (vs : List ℕ) → end ≤ most_told → length vs ≤ most_told → Answered (numbered (no_room_at end) (length b) vs) b b' a → GivenRoom end (length vs) (words_bytes vs) b b' a
  unfolding numbered roomed
  numbers_given_lem end vs h l k = record {
    enough = λ m. given (length vs) (words_bytes vs) l (rw (le-leb (length (words_bytes vs)) (length b) m) at k);
    short = λ m. refused_by (no_room_at end) h (rw (lt-leb (length (words_bytes vs)) (length b) m) at k);
  }

  text_given : (end : ℕ) (text : List ℕ) → end ≤ most_told → length text ≤ text_limit → Answered (written end (room_answer (length text) (length b)) text) b b' a → GivenRoom end (length text) text b b' a
  unfolding room_answer
  text_given end text h l k = record {
    enough = λ m. given (length text) text (omega arith) (rw (le-leb (length text) text_limit l, le-leb (length text) (length b) m) at k);
    short = λ m. refused_by (no_room_at end) h (rw (le-leb (length text) text_limit l, lt-leb (length text) (length b) m) at k);
  }

-- ---- what the three formats share: the outcomes of a text that spells a record, and of one that is refused
record Entries (f : Format) : Type 1 where
  checked_as : (s : List ℕ) (r : f.Record) (rows : List Row) → f.Spells s r rows → checked f.kind s ≡ gives (f.blocks r) []
  parsed_as : (s : List ℕ) (r : f.Record) (rows : List Row) → f.Spells s r rows → (room : ℕ) → parsed f.kind s room ≡ recorded (no_room_at (length s)) room (f.numbers r) rows
  formatted_as : (s : List ℕ) (r : f.Record) (rows : List Row) → f.Spells s r rows → (room : ℕ)
      → formatted f.kind s room ≡ written (length s) (room_answer (length (f.text r (f.names s r) rows)) room) (f.text r (f.names s r) rows)
  few_blocks : (s : List ℕ) (r : f.Record) (rows : List Row) → f.Spells s r rows → f.blocks r ≤ block_limit
  few_numbers : (r : f.Record) → length (f.numbers r) ≤ 20
  short_text : (s : List ℕ) (r : f.Record) (rows : List Row) → f.Spells s r rows → length s ≤ text_limit
  valid : (s : List ℕ) (r : f.Record) (rows : List Row) → f.Spells s r rows → f.Valid r (f.names s r) rows
  refused_as : (s : List ℕ) (x : Refusal) → Refuses f s x → (checked f.kind s ≡ refuses x) × ((room : ℕ) → parsed f.kind s room ≡ refuses x) × ((room : ℕ) → formatted f.kind s room ≡ refuses x)
  low_place : (s : List ℕ) (x : Refusal) → Refuses f s x → x.place ≤ text_limit
  decided : (s : List ℕ) (P : Type 0) → (SpellsOne f s → P)
      → ((x : Refusal) → checked f.kind s ≡ refuses x → ((room : ℕ) → parsed f.kind s room ≡ refuses x) → ((room : ℕ) → formatted f.kind s room ≡ refuses x) → P) → P

-- what a refusal answers is no count
no_count : (x : Refusal) (a : ℕ) → a ≡ refusal_code x → a % 16 ≡ 0 → ⊥
no_count x a e z =
    let n : a % 16 ≡ reason_number x.reason = ap (λ (k : ℕ). k % 16) e ∙ refused_reason x in
    omega (arith, (thirteen x.reason).0)

module _ (f : Format) (d : Demand2 f) (e : Entries f) where
  all_numbers : (s : List ℕ) (r : f.Record) (rows : List Row) → f.Spells s r rows → length (record_numbers (f.numbers r) rows) ≤ most_told
  all_numbers s r rows p = rw length-append (omega (arith, rows_length rows, d.all_blocks s r rows p, e.few_blocks s r rows p, e.few_numbers r))

  parses : (s : List ℕ) (r : f.Record) (rows : List Row) → f.Spells s r rows → (b b' : List ℕ) (a : ℕ) → Answered (parsed f.kind s (length b)) b b' a
      → GivenRoom (length s) (length (record_numbers (f.numbers r) rows)) (words_bytes (record_numbers (f.numbers r) rows)) b b' a
  unfolding recorded
  parses s r rows p b b' a h =
      numbers_given_lem b b' a (length s) (record_numbers (f.numbers r) rows) (omega (arith, e.short_text s r rows p)) (all_numbers s r rows p) (rw (e.parsed_as s r rows p (length b)) at h)

  at_desk : AtDesk f
  at_desk = record {
    checks = λ s r rows p a h. h ∙ ap (λ (o : Outcome). o.answer) (e.checked_as s r rows p) ∙ sym (told_itself (f.blocks r) (omega (arith, e.few_blocks s r rows p)));
    parses = parses;
    formats = λ s r rows p b b' a h. text_given b b' a (length s) (f.text r (f.names s r) rows) (omega (arith, e.short_text s r rows p)) (d.keeps_limit r (f.names s r) rows (e.valid s r rows p))
        (rw (e.formatted_as s r rows p (length b)) at h);
    check_only = λ s a h z. e.decided s _ (λ y. y) (λ x c p g. absurd (no_count x a (h ∙ ap (λ (o : Outcome). o.answer) c) z));
    parse_only = λ s b b' a h z. e.decided s _ (λ y. y) (λ x c p g. absurd (no_count x a (h.is ∙ ap (λ (o : Outcome). o.answer) (p (length b))) z));
    format_only = λ s b b' a h z. e.decided s _ (λ y. y) (λ x c p g. absurd (no_count x a (h.is ∙ ap (λ (o : Outcome). o.answer) (g (length b))) z));
    check_refused = λ s x w a h.
        h ∙ ap (λ (o : Outcome). o.answer) (e.refused_as s x w).0 ∙ ap (λ (n : ℕ). n + reason_number x.reason) (sym (told_itself x.place (omega (arith, e.low_place s x w))));
    parse_refused = λ s x w b b' a h. refused_by b b' a x (omega (arith, e.low_place s x w)) (rw ((e.refused_as s x w).1 (length b)) at h);
    format_refused = λ s x w b b' a h. refused_by b b' a x (omega (arith, e.low_place s x w)) (rw ((e.refused_as s x w).2 (length b)) at h);
  }

abbrev first : Names → List ℕ
first ns = ns.first

abbrev second : Names → List ℕ
second ns = ns.second

-- a writer's outcome is that of the same names and columns
same_outcome : {X : Type 0} (g : List ℕ → List ℕ → List ℕ → List ℕ → List ℕ → X) (c c' n n' ts ts' qs qs' zs zs' : List ℕ) → c ≡ c' → n ≡ n' → ts ≡ ts' → qs ≡ qs' → zs ≡ zs'
    → g c n ts qs zs ≡ g c' n' ts' qs' zs'
same_outcome g c c' n n' ts ts' qs qs' zs zs' ec en et eq ez = λ i. g (ec i) (en i) (et i) (eq i) (ez i)

-- ---- BED
module _ (s : List ℕ) (r : Bed) (rows : List Row) (p : BedSpells s r rows) where
  bed_format : (room : ℕ) → bed_written s r (bed_targets s r) (bed_queries s r) (bed_sizes s r) room
      ≡ written (length s) (room_answer (length (bed_text r (part_bytes s r.chrom) (part_bytes s r.name) (targets_of rows) (sizes_of rows))) room)
      (bed_text r (part_bytes s r.chrom) (part_bytes s r.name) (targets_of rows) (sizes_of rows))
  unfolding bed_written
  bed_format room =
      let w = read_flat (bed_reads s) r (ofBed.spelt_check s r rows p) in
      let e = ofBed.spelt_rows s r rows p in
      let handed = (ofBed.names_said s r rows p).1 in
      same_outcome (λ c n ts qs zs. written (length s) (bed_write r c n ts qs zs room) (bed_text r c n ts zs)) _ _ _ _ _ _ _ _ _ _
      (ap first handed) (ap second handed) (sym (ap targets_of e ∙ w.targets)) (sym (ap queries_of e ∙ w.queries)) (sym (ap sizes_of e ∙ w.sizes))
      ∙ ap (λ y. written (length s) y (bed_text r (part_bytes s r.chrom) (part_bytes s r.name) (targets_of rows) (sizes_of rows)))
      (ofBed.writes_as r (bed_names s r) rows (ofBed.spelt_valid s r rows p) room)

bed_entries : Entries bed
unfolding bed checked checked_bed parsed parsed_bed formatted formatted_bed by_kind bed_numbers
bed_entries = record {
  checked_as = λ s r rows p. rw (ofBed.spelt_check s r rows p);
  parsed_as = λ s r rows p room. rw (ofBed.spelt_check s r rows p, ← ofBed.spelt_rows s r rows p);
  formatted_as = λ s r rows p room. rw (ofBed.spelt_check s r rows p) (bed_format s r rows p room);
  few_blocks = λ s r rows p. (bed_reads s).few r (ofBed.spelt_check s r rows p);
  few_numbers = λ r. omega arith;
  short_text = λ s r rows p. p.line.short;
  valid = ofBed.spelt_valid;
  refused_as = λ s x w. let k = refused_of (bed_reads s) (length w.before) x w.wide w.reads.is in (rw k, λ room. rw k, λ room. rw k);
  low_place = λ s x w.
      let k = refused_of (bed_reads s) (length w.before) x w.wide w.reads.is in
      let q : x.place ≤ length s = rw k at (bed_in s) in
      either (length s) text_limit _ (λ h. omega arith) (λ h. let z : x.place ≡ 0 = rw k at (bed_long s h) in omega arith);
  decided = λ s P f g. (bed_reads s).cases _ P (λ r e. f (record { one = r; rows = _; spells = ofBed.spelt_of s r e })) (λ x e. g x (rw e) (λ room. rw e) (λ room. rw e));
}

-- ---- PSL
module _ (s : List ℕ) (r : Psl) (rows : List Row) (p : PslSpells s r rows) where
  abbrev psl_standard : List ℕ
  psl_standard = psl_text r (part_bytes s r.query.name) (part_bytes s r.target.name) (targets_of rows) (queries_of rows) (sizes_of rows)

  psl_format : (room : ℕ) → psl_written s r (psl_targets s) (psl_queries s) (psl_sizes s) room ≡ written (length s) (room_answer (length psl_standard) room) psl_standard
  unfolding psl_written
  psl_format room =
      let w = read_flat (psl_reads s) r (ofPsl.spelt_check s r rows p) in
      let e = ofPsl.spelt_rows s r rows p in
      let handed = (ofPsl.names_said s r rows p).1 in
      same_outcome (λ q t ts qs zs. written (length s) (psl_write r q t ts qs zs room) (psl_text r q t ts qs zs)) _ _ _ _ _ _ _ _ _ _
      (ap first handed) (ap second handed)
      (sym (ap targets_of e ∙ w.targets)) (sym (ap queries_of e ∙ w.queries)) (sym (ap sizes_of e ∙ w.sizes))
      ∙ ap (λ y. written (length s) y psl_standard) (ofPsl.writes_as r (psl_names s r) rows (ofPsl.spelt_valid s r rows p) room)

psl_entries : Entries psl
unfolding psl checked checked_psl parsed parsed_psl formatted formatted_psl by_kind psl_numbers
psl_entries = record {
  checked_as = λ s r rows p. rw (ofPsl.spelt_check s r rows p);
  parsed_as = λ s r rows p room. rw (ofPsl.spelt_check s r rows p, ← ofPsl.spelt_rows s r rows p);
  formatted_as = λ s r rows p room. rw (ofPsl.spelt_check s r rows p) (psl_format s r rows p room);
  few_blocks = λ s r rows p. (psl_reads s).few r (ofPsl.spelt_check s r rows p);
  few_numbers = λ r. omega arith;
  short_text = λ s r rows p. p.line.line.short;
  valid = ofPsl.spelt_valid;
  refused_as = λ s x w. let k = refused_of (psl_reads s) (length w.before) x w.wide w.reads.is in (rw k, λ room. rw k, λ room. rw k);
  low_place = λ s x w.
      let k = refused_of (psl_reads s) (length w.before) x w.wide w.reads.is in
      let q : x.place ≤ length s = rw k at (psl_in s) in
      either (length s) text_limit _ (λ h. omega arith) (λ h. let z : x.place ≡ 0 = rw k at (psl_long s h) in omega arith);
  decided = λ s P f g. (psl_reads s).cases _ P (λ r e. f (record { one = r; rows = _; spells = ofPsl.spelt_of s r e })) (λ x e. g x (rw e) (λ room. rw e) (λ room. rw e));
}

-- ---- chains: a record with names that stand in the text, whichever side they are on
module _ (s : List ℕ) (d : Chain) (table : List Row) (valid : ChainValid d (chain_names s d) table) (target : name_bytes s d.tName ≡ part_bytes s d.tName) (query : name_bytes s d.qName ≡ part_bytes s d.qName) where
  abbrev chain_standard : List ℕ
  chain_standard = chain_text d (part_bytes s d.tName) (part_bytes s d.qName) (targets_of table) (queries_of table) (sizes_of table)

  chain_format : (ts qs zs : List ℕ) (room : ℕ) → ts ≡ targets_of table → qs ≡ queries_of table → zs ≡ sizes_of table
      → chain_written s d ts qs zs room ≡ written (length s) (room_answer (length chain_standard) room) chain_standard
  unfolding chain_written
  chain_format ts qs zs room et eq ez =
      same_outcome (λ t q ts qs zs. written (length s) (chain_write d t q ts qs zs room) (chain_text d t q ts qs zs)) _ _ _ _ _ _ _ _ _ _ target query et eq ez
      ∙ ap (λ y. written (length s) y chain_standard) (ofChain.writes_as d (chain_names s d) table valid room)

module _ (s : List ℕ) (c : Chain) (rows : List Row) (p : ChainSpells s c rows) where
  target_bytes : name_bytes s c.tName ≡ part_bytes s c.tName
  target_bytes = ap first (ofChain.names_said s c rows p).1

  query_bytes : name_bytes s c.qName ≡ part_bytes s c.qName
  query_bytes = ap second (ofChain.names_said s c rows p).1

  end_low : length s ≤ most_told
  end_low = omega (arith, p.text.short)

  -- the turned chain with its rows is valid too
  turned_valid : ChainValid (turned c) (chain_names s (turned c)) (turned_rows c rows)
  unfolding turned accepted
  turned_valid =
      let ok = ofChain.spelt_check s c rows p in
      let good = spelled_accepted s c rows p in
      let n = counted_lem c rows good in
      let new = turned_rows c rows in
      let wide : c.blockCount ≤ length new = omega arith in
      let all = take_all c.blockCount new (omega arith) in
      let t = ofChain.target_shows s c ok in
      let q = ofChain.query_shows s c ok in
      record {
        rules = rules_of (named (turned c) (part_bytes s c.qName) (part_bytes s c.tName)) _ _ _
            (ofChain.valid_named (turned c) (chain_names s (turned c)) _ _ _ q.1 t.1 (turned_accepted c rows good new wide all));
        target_shows = q.0;
        query_shows = t.0;
      }

  turned_as : (room : ℕ) → turned_text s room ≡ written (length s) (room_answer (length (turned_in s c rows)) room) (turned_in s c rows)
  unfolding turned_text turn_written turned
  turned_as room =
      let good = spelled_accepted s c rows p in
      rw (ofChain.spelt_check s c rows p, ← ofChain.spelt_rows s c rows p, turns c rows block_limit good (accepted_rules c rows good).few_blocks)
      (chain_format s (turned c) (turned_rows c rows) turned_valid query_bytes target_bytes _ _ _ room refl refl refl)

chain_entries : Entries chain
unfolding chain checked checked_chain parsed parsed_chain formatted formatted_chain by_kind chain_numbers
chain_entries = record {
  checked_as = λ s r rows p. rw (ofChain.spelt_check s r rows p);
  parsed_as = λ s r rows p room. rw (ofChain.spelt_check s r rows p, ← ofChain.spelt_rows s r rows p);
  formatted_as = λ s r rows p room.
      let w = read_flat (chain_reads s) r (ofChain.spelt_check s r rows p) in
      let e = ofChain.spelt_rows s r rows p in
      rw (ofChain.spelt_check s r rows p)
      (chain_format s r rows (ofChain.spelt_valid s r rows p) (target_bytes s r rows p) (query_bytes s r rows p) _ _ _ room
      (sym (ap targets_of e ∙ w.targets)) (sym (ap queries_of e ∙ w.queries)) (sym (ap sizes_of e ∙ w.sizes)));
  few_blocks = λ s r rows p. (chain_reads s).few r (ofChain.spelt_check s r rows p);
  few_numbers = λ r. omega arith;
  short_text = λ s r rows p. p.text.short;
  valid = ofChain.spelt_valid;
  refused_as = λ s x w. let k = refused_of (chain_reads s) (length w.before) x w.wide w.reads.is in (rw k, λ room. rw k, λ room. rw k);
  low_place = λ s x w.
      let k = refused_of (chain_reads s) (length w.before) x w.wide w.reads.is in
      let q : x.place ≤ length s = rw k at (chain_in s) in
      either (length s) text_limit _ (λ h. omega arith) (λ h. let z : x.place ≡ 0 = rw k at (chain_long_lem s h) in omega arith);
  decided = λ s P f g. (chain_reads s).cases _ P (λ r e. f (record { one = r; rows = _; spells = ofChain.spelt_of s r e })) (λ x e. g x (rw e) (λ room. rw e) (λ room. rw e));
}

-- ---- a line of numbers
module _ (s vs : List ℕ) (t : NumbersText s vs) where
  few_numbers : length vs ≤ length s + 1
  unfolding line_of
  few_numbers = let e = ap length t.words ∙ length-map vs digits in omega (arith, e, words_few (line_of s), length-take (run Line s) s)

  numbers_told : (b b' : List ℕ) (a : ℕ) → Answered (numbers_given s (length b)) b b' a → GivenRoom (length s) (length vs) (words_bytes vs) b b' a
  unfolding numbers_given
  numbers_told b b' a h =
      let k = numbers_is s vs t in
      numbers_given_lem b b' a (length s) vs (omega (arith, t.short)) (omega (arith, few_numbers, t.short)) (rw (k.0, ← k.1) at h)

numbers_only : (s b b' : List ℕ) (a : ℕ) → Answered (numbers_given s (length b)) b b' a → a % 16 ≡ 0 → SpellsNumbers s
unfolding numbers_given
numbers_only s b b' a h z = go (numbers_check s) _ refl h.is
  where
    go : (x : Result ℕ Refusal) (rest : Outcome) → numbers_check s ≡ x → a ≡ (of_numbers x rest).answer → SpellsNumbers s
    go (Ok n) rest e q = record { numbers = numbers_in s; spells = (numbers_of s n e).0 }
    go (Err x) rest e q = absurd (no_count x a q z)

-- bytes at the front tell their numbers
same_numbers : (vs ws x y : List ℕ) → Between 0 largest_number vs → Between 0 largest_number ws → length vs ≡ length ws → words_bytes vs ++ x ≡ words_bytes ws ++ y → vs ≡ ws
same_numbers vs ws x y p q n e =
    ext_get_or 0 vs ws n (λ i h. sym (words_back vs x i p h) ∙ ap (λ (l : List ℕ). low_at word_size l (word_size * i)) e ∙ words_back ws y i q (omega arith))

in_words : {vs : List ℕ} → Between 0 largest_listed vs → Between 0 largest_number vs
in_words between_none = between_none
in_words (between_more low high b) = between_more low (omega arith) (in_words b)

numbers_exactly : (s vs : List ℕ) → Between 0 largest_number vs → (b b' : List ℕ) (a : ℕ) → Answered (numbers_given s (length b)) b b' a
    → Gives (length vs) (words_bytes vs) b b' a ↔ (NumbersText s vs × (word_size * length vs ≤ length b))
numbers_exactly s vs p b b' a h = (
  λ g.
      let one = numbers_only s b b' a h (omega (arith, g.code)) in
      let ws = one.numbers in
      let room = numbers_told s ws one.spells b b' a h in
      either (length (words_bytes ws)) (length b) _
      (λ m.
      let k = room.enough m in
      let n : length vs ≡ length ws = omega (arith, g.code, k.code) in
      let e = same_numbers vs ws _ _ p (in_words one.spells.range) n (sym g.left ∙ k.left) in
      (rw e one.spells, omega (arith, words_length ws)))
      (λ m. absurd (omega (arith, g.code, (room.short m).code, (thirteen NoRoom).0, (thirteen NoRoom).1))),
  λ t. (numbers_told s vs t.0 b b' a h).enough (omega (arith, words_length vs, t.1)),
)

numbers_low : (s : List ℕ) (x : Refusal) → Err x ≡ numbers_check s → x.place ≤ most_told
numbers_low s x e =
    let q : x.place ≤ length s = rw (← e) at (numbers_in_lem s) in
    either (length s) text_limit _ (λ h. omega arith) (λ h. let z : x.place ≡ 0 = rw (← e) at (numbers_long s h) in omega arith)

numbers_calls : NumbersAtDesk
unfolding numbers_given
numbers_calls = record {
  gives = numbers_told;
  gives_only = numbers_only;
  gives_exactly = numbers_exactly;
  one_list = λ s vs ws t u. (numbers_is s vs t).1 ∙ sym (numbers_is s ws u).1;
  gives_refused = λ s x e b b' a h. refused_by b b' a x (numbers_low s x e) (rw (← e) at h);
}

-- ---- lifts and turns of a chain's text
spelt_or : (s : List ℕ) (P : Type 0) → (SpellsOne chain s → P) → ((x : Refusal) → chain_check s ≡ Err x → P) → P
unfolding chain
spelt_or s P f g = (chain_reads s).cases (chain_check s) P (λ r e. f (record { one = r; rows = _; spells = ofChain.spelt_of s r e })) g

position_told : (y : Result (ℕ × ℤ) Refusal) (end : ℕ) (b b' : List ℕ) (a : ℕ) → end ≤ most_told → ((x : Refusal) → y ≡ Err x → x.place ≡ 0) → Answered (of_position y end (length b)) b b' a → PositionTold y end b b' a
position_told (Ok (q, d)) end b b' a h f k = numbers_given_lem b b' a end (q ∷ in_word d ∷ []) h (omega arith) k
position_told (Err x) end b b' a h f k = refused_by b b' a x (omega (arith, f x refl)) k

region_told : (y : Result Region Refusal) (end : ℕ) (b b' : List ℕ) (a : ℕ) → end ≤ most_told → ((x : Refusal) → y ≡ Err x → x.place ≡ 0) → Answered (of_region y end (length b)) b b' a → RegionTold y end b b' a
region_told (Ok r) end b b' a h f k = numbers_given_lem b b' a end (r.kept ∷ r.dropped ∷ r.start ∷ r.end ∷ []) h (omega arith) k
region_told (Err x) end b b' a h f k = refused_by b b' a x (omega (arith, f x refl)) k

-- a batch
check_none : (c : Result ⊤ Refusal) (bytes lent : List ℕ) (n : ℕ) (x : Refusal) → c ≡ Err x → x.place ≤ most_told → (b b' lent' kept : List ℕ) (a : ℕ) → Answered (on_check c refuses (gives n bytes)) b b' a
    → lent' ≡ on_check c (λ _. lent) kept → RefusedBy x b b' a × (lent' ≡ lent)
check_none c bytes lent n x e h b b' lent' kept a k l = (refused_by b b' a x h (rw e at k), rw e at l)

batch_only : (s regions lent lent' b b' : List ℕ) (a : ℕ) → BatchTold s regions lent lent' b b' a → a % 16 ≡ 0 → SpellsOne chain s
unfolding batch_lifted text_batch_check
batch_only s regions lent lent' b b' a h z = spelt_or s _ (λ y. y) (λ x e. absurd (go (room_in_bytes regions (length b)) x (rw e at h.rows_told.is)))
  where
    go : (v : Bool) (x : Refusal) → a ≡ (on_check (require v (refused NoRoom) (Err x)) refuses (gives (length regions / region_size) (rows_bytes (answer_rows (tally_in lent) (sent_text s regions (length b)))))).answer → ⊥
    go true x e = no_count x a e z
    go false x e = no_count (without_text NoRoom) a e z

chain_calls : ChainsAtDesk
unfolding chain position_lifted region_lifted turned_text tallied turned batch_lifted tally_after text_batch_check
chain_calls =
    let refused : (s : List ℕ) (x : Refusal) → Refuses chain s x → chain_check s ≡ Err x = λ s x w. refused_of (chain_reads s) (length w.before) x w.wide w.reads.is in
    let low : (s : List ℕ) (x : Refusal) → Refuses chain s x → x.place ≤ most_told = λ s x w. omega (arith, chain_entries.low_place s x w) in
    record {
      positions = λ s c rows p q b b' a h.
          position_told (lift_position c rows q) (length s) b b' a (end_low s c rows p) (position_at c rows q) (rw (ofChain.spelt_check s c rows p, ← ofChain.spelt_rows s c rows p) at h);
      regions = λ s c rows p start end b b' a h.
          region_told (lift_region c rows start end) (length s) b b' a (end_low s c rows p) (region_at c rows start end) (rw (ofChain.spelt_check s c rows p, ← ofChain.spelt_rows s c rows p) at h);
      turns = λ s c rows p b b' a h.
          text_given b b' a (length s) (turned_in s c rows) (end_low s c rows p) (ofChain.short (turned c) (chain_names s (turned c)) (turned_rows c rows) (turned_valid s c rows p)) (rw (turned_as s c rows p (length b)) at h);
      tallies = tally_told;
      batches = λ s c rows p t u regions lentRows leftRows d e g l rest lent' b b' a h fits. (
        given b b' a (length (regions_in regions)) (rows_bytes leftRows) (omega (arith, regions_length (length regions / region_size) regions 0))
            (rw (batch_given s c rows p regions (length b) fits t u lentRows leftRows d e g rest) at h.rows_told),
        h.tally_left ∙ batch_kept s c rows p regions (length b) fits t u lentRows leftRows d e g rest,
      );
      batch_no_room = λ s regions lent lent' b b' a h fits.
          check_none (text_batch_check s regions (length b)) _ lent _ (without_text NoRoom) (rw fits) (omega arith) b b' lent' _ a h.rows_told h.tally_left;
      position_only = λ s q b b' a h z. spelt_or s _ (λ y. y) (λ x e. absurd (no_count x a (rw e at h.is) z));
      region_only = λ s start end b b' a h z. spelt_or s _ (λ y. y) (λ x e. absurd (no_count x a (rw e at h.is) z));
      turn_only = λ s b b' a h z. spelt_or s _ (λ y. y) (λ x e. absurd (no_count x a (rw e at h.is) z));
      tally_only = λ s start end b b' a h z. spelt_or s _ (λ y. y) (λ x e. absurd (no_count x a (rw e at h.is) z));
      batch_only = batch_only;
      position_refused = λ s x w q b b' a h. refused_by b b' a x (low s x w) (rw (refused s x w) at h);
      region_refused = λ s x w start end b b' a h. refused_by b b' a x (low s x w) (rw (refused s x w) at h);
      turn_refused = λ s x w b b' a h. refused_by b b' a x (low s x w) (rw (refused s x w) at h);
      tally_refused = λ s x w start end b b' a h. refused_by b b' a x (low s x w) (rw (refused s x w) at h);
      batch_refused = λ s x w regions lent lent' b b' a h fits.
          check_none (text_batch_check s regions (length b)) _ lent _ x (rw (fits, refused s x w)) (low s x w) b b' lent' _ a h.rows_told h.tally_left;
    }

-- ---- THE DESK
pub desk : Desk
unfolding checked parsed formatted by_kind
desk = record {
  beds = at_desk bed ofBed.bed_demand2 bed_entries;
  psls = at_desk psl ofPsl.psl_demand2 psl_entries;
  chains = at_desk chain ofChain.chain_demand2 chain_entries;
  numbers = numbers_calls;
  chain_calls = chain_calls;
  other_kind = λ kind s f g h b b' a.
      let other : Refusal = without_text BadWord in (
        λ e. e ∙ rw (ne_eqb kind 1 f, ne_eqb kind 2 g, ne_eqb kind 3 h) (unfold told in refl),
        λ k. refused_by b b' a other (omega arith) (rw (ne_eqb kind 1 f, ne_eqb kind 2 g, ne_eqb kind 3 h) at k),
        λ k. refused_by b b' a other (omega arith) (rw (ne_eqb kind 1 f, ne_eqb kind 2 g, ne_eqb kind 3 h) at k),
      );
}
