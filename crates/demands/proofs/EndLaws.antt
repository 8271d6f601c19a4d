-- Every entry ends with a count, or with a number of the ledger and a place in the text. Assumes nothing.
use mathlib.Core.Path.{◌≡◌, refl}
use mathlib.Core.Bool.{Bool, true, false, ◌&&◌, cond}
use mathlib.Core.List.{List, [], ◌∷◌}
use Prim.Native.Nat.{ℕ, ◌+◌, ◌-◌, ◌/◌, ◌≤◌, min, zero-le}
use native.Mathlib.Omega.{arith}
use native.Mathlib.Nat.{le_refl}
use lib.ListN.{length, take}
use lib.Dec.{leb, ltb, eqb}
use Rattle.std.specs.Prelude.{Ok, Err, Some, None, Result, Option, ⊤}
use Rattle.ledger.specs.Refusals.{without_text, require}
use Rattle.ledger.specs.declared.Row.{Row}
use Rattle.ledger.specs.declared.Reason.{Reason}
use Rattle.ledger.specs.declared.Reason.TheVariants.{NumberOutOfRange, BadWord, SpanDisagrees, BlockRules, CountsDisagree, NoRoom, NoPair, OutsideTarget, TextTooLong}
use Rattle.ledger.specs.declared.Refusal.{Refusal}
use Rattle.ledger.specs.Limits.{block_limit, text_limit, tally_limit, in_coordinates}
use Rattle.ledger.specs.Reasons.{reason_number}
use Rattle.ledger.specs.Strands.{is_told}
use Rattle.text.specs.Checks.{refused}
use Rattle.writing.specs.Answers.{room_answer}
use Rattle.writing.specs.Answers as answers
use Rattle.columns.specs.Lines.{then_write}
use Rattle.blocks.specs.Blocks.{count_fits, rows_of, row_numbers_fit}
use Rattle.bed.specs.declared.Bed.{Bed}
use Rattle.bed.specs.Read.{bed_check}
use Rattle.bed.specs.Tests as bedTests
use Rattle.bed.specs.Write as bed
use Rattle.psl.specs.declared.Psl.{Psl}
use Rattle.psl.specs.Read.{psl_check}
use Rattle.psl.specs.Rows.{rows_fit, counts_fit}
use Rattle.psl.specs.Tests as pslTests
use Rattle.psl.specs.Write as psl
use Rattle.chain.specs.declared.Chain.{Chain}
use Rattle.chain.specs.Records.{chain_rows}
use Rattle.chain.specs.Read.{chain_check}
use Rattle.chain.specs.Tests as chainTests
use Rattle.chain.specs.Write as chain
use Rattle.number_line.specs.Numbers.{numbers_in, numbers_check}
use Rattle.lift.specs.Accepted.{accepted}
use Rattle.lift.specs.Conversion.{not_converted, other_strand, converted}
use Rattle.lift.specs.Pairs.{pairs, partner_of}
use Rattle.lift.specs.Positions as positions
use Rattle.region.specs.declared.Region.{Region}
use Rattle.region.specs.declared.Tally.{Tally}
use Rattle.region.specs.declared.Tallied.{Tallied}
use Rattle.region.specs.Regions as regions
use Rattle.region.specs.Tallies as tallies
use Rattle.region.specs.Batches.{answer_rows, region_size, rows_bytes, room_in_bytes, sent_text, text_batch_check}
use Rattle.lift.specs.Texts.{of_checked}
use Rattle.turn.specs.Turns as turns
use Rattle.binary.specs.Bytes.{words_bytes}
use Rattle.answers.specs.Answers.{most_told, told, Outcome, gives, refuses, refusal_code, Answered, roomed, numbered, recorded, no_room_at}
use Rattle.entries.specs.Entries.{by_kind, of_bed, of_psl, of_chain, of_numbers, of_span, of_position, of_region, of_turn, of_tallied, at_end, name_bytes, written, bed_written, psl_written, chain_written, checked_bed, checked_psl, checked_chain, checked, parsed_bed, parsed_psl, parsed_chain, parsed, formatted_bed, formatted_psl, formatted_chain, formatted, numbers_given, converted_numbers, position_lifted, region_lifted, turn_written, turned_text, tally_in, tally_bytes, tallied, on_check, batch_lifted, BatchTold}
use Rattle.demands.specs.Demand1.{Ended, with_count, with_place}
use Rattle.demands.proofs.PlaceLaws.{place_of_lem, demanded}
use Rattle.demands.proofs.TextPlaceLaws.{bed_place, bed_in, psl_place, psl_in, numbers_place, numbers_in_lem, chain_place, chain_in}

-- an outcome that ends so
abbrev Ends : ℕ → Outcome → Type 0
Ends end o = Ended end o.answer

gives_ends : (end n : ℕ) (bytes : List ℕ) → Ends end (gives n bytes)
unfolding told
gives_ends end n bytes = with_count (min n most_told) refl

code_ends : (end : ℕ) (x : Refusal) → x.place ≤ end → Ended end (refusal_code x)
unfolding told
code_ends end x h = with_place x.reason (min x.place most_told) (omega arith) refl

pick_ends : (end : ℕ) (t : Bool) (a b : Outcome) → Ends end a → Ends end b → Ends end (cond t a b)
pick_ends end true a b p q = p
pick_ends end false a b p q = q

numbered_ends : (end room : ℕ) (vs : List ℕ) → Ends end (numbered (no_room_at end) room vs)
unfolding numbered roomed
numbered_ends end room vs = pick_ends end (leb (length (words_bytes vs)) room) _ _ (gives_ends end (length vs) (words_bytes vs)) (code_ends end (no_room_at end) (le_refl end))

kind_ends : (end kind : ℕ) (x y z : Outcome) → Ends end x → Ends end y → Ends end z → Ends end (by_kind kind x y z)
unfolding by_kind
kind_ends end kind x y z p q r =
    pick_ends end (eqb kind 1) x _ p (pick_ends end (eqb kind 2) y _ q (pick_ends end (eqb kind 3) z _ r (code_ends end (without_text BadWord) zero-le)))

-- a text of a format
bed_ends : (end : ℕ) (a : Result Bed Refusal) (rest : Bed → Outcome) → bed_place a ≤ end → ((r : Bed) → Ends end (rest r)) → Ends end (of_bed a rest)
bed_ends end (Ok r) rest h f = f r
bed_ends end (Err x) rest h f = code_ends end x h

psl_ends : (end : ℕ) (a : Result Psl Refusal) (rest : Psl → Outcome) → psl_place a ≤ end → ((r : Psl) → Ends end (rest r)) → Ends end (of_psl a rest)
psl_ends end (Ok r) rest h f = f r
psl_ends end (Err x) rest h f = code_ends end x h

chain_ends : (end : ℕ) (a : Result Chain Refusal) (rest : Chain → Outcome) → chain_place a ≤ end → ((r : Chain) → Ends end (rest r)) → Ends end (of_chain a rest)
chain_ends end (Ok r) rest h f = f r
chain_ends end (Err x) rest h f = code_ends end x h

listed_ends : (end : ℕ) (a : Result ℕ Refusal) (rest : Outcome) → numbers_place a ≤ end → Ends end rest → Ends end (of_numbers a rest)
listed_ends end (Ok n) rest h f = f
listed_ends end (Err x) rest h f = code_ends end x h

-- ---- writers refuse at place 0, which their entry tells at the text's end for want of room
writing_ends : (end : ℕ) (c : Result ⊤ Refusal) (n room : ℕ) (bytes : List ℕ) → place_of_lem c ≤ 0 → Ends end (written end (then_write c (room_answer n room)) bytes)
unfolding room_answer
writing_ends end (Err x) n room bytes h = code_ends end (at_end end x) (go (eqb (reason_number x.reason) (reason_number NoRoom)))
  where
    go : (t : Bool) → (cond t (no_room_at end) x).place ≤ end
    go true = le_refl end
    go false = omega arith
writing_ends end (Ok tt) n room bytes h = go (leb n text_limit) (leb n room)
  where
    go : (t u : Bool) → Ends end (written end (require t (answers.unwritten TextTooLong) (require u (answers.unwritten NoRoom) (Ok n))) bytes)
    go true true = gives_ends end n bytes
    go true false = code_ends end (no_room_at end) (le_refl end)
    go false u = code_ends end (without_text TextTooLong) zero-le

write_place : (c : Result ⊤ Refusal) (n room : ℕ) (x : Refusal) → place_of_lem c ≤ 0 → Err x ≡ then_write c (room_answer n room) → x.place ≡ 0
unfolding room_answer
write_place (Err y) n room x h e = let q : x ≡ y = cc in rw q (omega arith)
write_place (Ok tt) n room x h e = go (leb n text_limit) (leb n room) e
  where
    go : (t u : Bool) → Err x ≡ require t (answers.unwritten TextTooLong) (require u (answers.unwritten NoRoom) (Ok n)) → x.place ≡ 0
    go true true k = absurd (let z : ◌≡◌ {A = ℕ} 0 1 = cc in omega arith)
    go true false k = cc
    go false u k = cc

bed_place_lem : (r : Bed) (chrom name ts qs zs : List ℕ) → place_of_lem (bed.write_check r chrom name ts qs zs) ≤ 0
unfolding bed.write_check
bed_place_lem r chrom name ts qs zs =
    let n = r.blockCount in
    demanded (count_fits n (rows_of ts qs zs)) BlockRules _
    (demanded (bed.names_show r chrom name && bedTests.strand_fits r) BadWord _
    (demanded (bedTests.fields_fit r && row_numbers_fit (take n ts) (take n qs) (take n zs)) NumberOutOfRange _
    (demanded (bedTests.spans_fit r) SpanDisagrees _
    (demanded (bedTests.rows_fit r (take n ts) (take n qs) (take n zs)) BlockRules (Ok tt) zero-le))))

psl_place_lem : (r : Psl) (query target ts qs zs : List ℕ) → place_of_lem (psl.write_check r query target ts qs zs) ≤ 0
unfolding psl.write_check
psl_place_lem r query target ts qs zs =
    let n = r.blockCount in
    demanded (count_fits n (rows_of ts qs zs)) BlockRules _
    (demanded (psl.words_show r query target) BadWord _
    (demanded (pslTests.fields_fit r && row_numbers_fit (take n ts) (take n qs) (take n zs)) NumberOutOfRange _
    (demanded (pslTests.spans_fit r) SpanDisagrees _
    (demanded (rows_fit r (take n ts) (take n qs) (take n zs)) BlockRules _
    (demanded (counts_fit r.counts (take n ts) (take n qs) (take n zs)) CountsDisagree (Ok tt) zero-le)))))

chain_place_lem : (r : Chain) (target query ts qs zs : List ℕ) → place_of_lem (chain.write_check r target query ts qs zs) ≤ 0
unfolding chain.write_check
chain_place_lem r target query ts qs zs =
    let n = r.blockCount in
    demanded (count_fits n (rows_of ts qs zs)) BlockRules _
    (demanded (chain.names_show target query && is_told r.qStrand) BadWord _
    (demanded (chainTests.fields_fit r && row_numbers_fit (take n ts) (take n qs) (take n zs)) NumberOutOfRange _
    (demanded (chainTests.spans_fit r) SpanDisagrees _
    (demanded (chainTests.rows_fit r (take n ts) (take n qs) (take n zs)) BlockRules (Ok tt) zero-le))))

-- so a refused writer is at place 0
module _ (ts qs zs : List ℕ) (room : ℕ) (x : Refusal) where
  pub bed_write_at : (r : Bed) (chrom name : List ℕ) → Err x ≡ bed.bed_write r chrom name ts qs zs room → x.place ≡ 0
  unfolding bed.bed_write
  bed_write_at r chrom name e = write_place (bed.write_check r chrom name ts qs zs) (length (bed.bed_text r chrom name ts zs)) room x (bed_place_lem r chrom name ts qs zs) e

  pub psl_write_at : (r : Psl) (query target : List ℕ) → Err x ≡ psl.psl_write r query target ts qs zs room → x.place ≡ 0
  unfolding psl.psl_write
  psl_write_at r query target e = write_place (psl.write_check r query target ts qs zs) (length (psl.psl_text r query target ts qs zs)) room x (psl_place_lem r query target ts qs zs) e

  pub chain_write_at : (r : Chain) (target query : List ℕ) → Err x ≡ chain.chain_write r target query ts qs zs room → x.place ≡ 0
  unfolding chain.chain_write
  chain_write_at r target query e = write_place (chain.write_check r target query ts qs zs) (length (chain.chain_text r target query ts qs zs)) room x (chain_place_lem r target query ts qs zs) e

module _ (s : List ℕ) (ts qs zs : List ℕ) (room : ℕ) where
  bed_written_lem : (r : Bed) → Ends (length s) (bed_written s r ts qs zs room)
  unfolding bed_written bed.bed_write
  bed_written_lem r = let c = name_bytes s r.chrom in let n = name_bytes s r.name in writing_ends (length s) (bed.write_check r c n ts qs zs) (length (bed.bed_text r c n ts zs)) room _ (bed_place_lem r c n ts qs zs)

  psl_written_lem : (r : Psl) → Ends (length s) (psl_written s r ts qs zs room)
  unfolding psl_written psl.psl_write
  psl_written_lem r = let q = name_bytes s r.query.name in let t = name_bytes s r.target.name in writing_ends (length s) (psl.write_check r q t ts qs zs) (length (psl.psl_text r q t ts qs zs)) room _ (psl_place_lem r q t ts qs zs)

  chain_written_lem : (r : Chain) → Ends (length s) (chain_written s r ts qs zs room)
  unfolding chain_written chain.chain_write
  chain_written_lem r = let t = name_bytes s r.tName in let q = name_bytes s r.qName in writing_ends (length s) (chain.write_check r t q ts qs zs) (length (chain.chain_text r t q ts qs zs)) room _ (chain_place_lem r t q ts qs zs)

-- ---- lifts, turns and tallies refuse at place 0
refused_ends : (end : ℕ) (why : Reason) → Ended end (refusal_code (without_text why))
refused_ends end why = code_ends end (without_text why) zero-le

position_ends : (c : Chain) (rows : List Row) (p end room : ℕ) → Ends end (of_position (positions.lift_position c rows p) end room)
unfolding positions.lift_position
position_ends c rows p end room = go (accepted c rows) (ltb p c.tSize) (partner_of p (pairs c rows))
  where
    go : (t u : Bool) (x : Option ℕ) → Ends end (of_position (require t (positions.not_lifted BlockRules) (require u (positions.not_lifted OutsideTarget) (positions.at_partner p x))) end room)
    go false u x = refused_ends end BlockRules
    go true false x = refused_ends end OutsideTarget
    go true true None = refused_ends end NoPair
    go true true (Some q) = numbered_ends end room _

region_ends : (c : Chain) (rows : List Row) (a e end room : ℕ) → Ends end (of_region (regions.lift_region c rows a e) end room)
unfolding regions.lift_region regions.carried
region_ends c rows a e end room = go (accepted c rows) (regions.inside c a e) (leb 1 (regions.kept (pairs c rows) a e)) _
  where
    go : (t u v : Bool) (r : Region) → Ends end (of_region (require t (regions.not_lifted BlockRules) (require u (regions.not_lifted OutsideTarget) (require v (regions.not_lifted NoPair) (Ok r)))) end room)
    go false u v r = refused_ends end BlockRules
    go true false v r = refused_ends end OutsideTarget
    go true true false r = refused_ends end NoPair
    go true true true r = numbered_ends end room _

span_ends : (start end size room : ℕ) → Ends 0 (of_span (converted start end size) (λ x. numbered (without_text NoRoom) room (x.start ∷ x.end ∷ [])))
unfolding converted
span_ends start end size room = go (in_coordinates start && (in_coordinates end && in_coordinates size)) (ltb start end && leb end size)
  where
    go : (t u : Bool) → Ends 0 (of_span (require t (not_converted NumberOutOfRange) (require u (not_converted SpanDisagrees) (Ok (other_strand start end size)))) (λ x. numbered (without_text NoRoom) room (x.start ∷ x.end ∷ [])))
    go false u = refused_ends 0 NumberOutOfRange
    go true false = refused_ends 0 SpanDisagrees
    go true true = numbered_ends 0 room _

turn_ends : (s : List ℕ) (c : Chain) (rows : List Row) (room : ℕ) → Ends (length s) (turn_written s c rows room)
unfolding turn_written turns.turn
turn_ends s c rows room = go (accepted c rows) (leb c.blockCount block_limit) _ (λ d. chain_written_lem s _ _ _ room d)
  where
    go : (t u : Bool) (rest : Chain → Outcome) → ((d : Chain) → Ends (length s) (rest d)) → Ends (length s) (of_turn (require t (turns.not_turned BlockRules) (require u (turns.not_turned NoRoom) (Ok (turns.turned c)))) rest)
    go false u rest f = refused_ends (length s) BlockRules
    go true false rest f = refused_ends (length s) NoRoom
    go true true rest f = f (turns.turned c)

tally_ends : (end : ℕ) (t : Tally) (c : Chain) (rows : List Row) (a e : ℕ) → Ends end (of_tallied (tallies.tally_step t c rows a e).answer (tallies.tally_step t c rows a e).tally)
unfolding tallies.tally_step regions.carried
tally_ends end t c rows a e =
    go (accepted c rows) (regions.inside c a e) (tallies.good_tally t) (leb (t.asked + (e - a)) tally_limit) (leb 1 (regions.kept (pairs c rows) a e)) _ _
  where
    go : (v w x y z : Bool) (u : Tally) (r : Region)
        → let d : Tallied = require v (tallies.not_tallied t BlockRules) (require w (tallies.not_tallied t OutsideTarget) (require x (tallies.not_tallied t CountsDisagree) (require y (tallies.not_tallied t NumberOutOfRange) (record { tally = u; answer = require z (regions.not_lifted NoPair) (Ok r) }))))
        in Ends end (of_tallied d.answer d.tally)
    go false w x y z u r = refused_ends end BlockRules
    go true false x y z u r = refused_ends end OutsideTarget
    go true true false y z u r = refused_ends end CountsDisagree
    go true true true false z u r = refused_ends end NumberOutOfRange
    go true true true true false u r = refused_ends end NoPair
    go true true true true true u r = gives_ends end r.kept (tally_bytes u)

-- ---- THE ENTRIES
answered_ends : (end : ℕ) (o : Outcome) (b b' : List ℕ) (r : ℕ) → Ends end o → Answered o b b' r → Ended end r
answered_ends end o b b' r p h = rw h.is p

pub check_ends : (kind : ℕ) (s : List ℕ) (r : ℕ) → r ≡ (checked kind s).answer → Ended (length s) r
unfolding checked checked_bed checked_psl checked_chain
check_ends kind s r e =
    rw e
    (kind_ends (length s) kind _ _ _ (bed_ends (length s) (bed_check s) _ (bed_in s) (λ a. gives_ends (length s) a.blockCount []))
    (psl_ends (length s) (psl_check s) _ (psl_in s) (λ a. gives_ends (length s) a.blockCount []))
    (chain_ends (length s) (chain_check s) _ (chain_in s) (λ a. gives_ends (length s) a.blockCount [])))

module _ (b b' : List ℕ) (r : ℕ) where
  pub parse_ends : (kind : ℕ) (s : List ℕ) → Answered (parsed kind s (length b)) b b' r → Ended (length s) r
  unfolding parsed parsed_bed parsed_psl parsed_chain recorded
  parse_ends kind s =
      answered_ends (length s) _ b b' r
      (kind_ends (length s) kind _ _ _ (bed_ends (length s) (bed_check s) _ (bed_in s) (λ a. numbered_ends (length s) (length b) _))
      (psl_ends (length s) (psl_check s) _ (psl_in s) (λ a. numbered_ends (length s) (length b) _))
      (chain_ends (length s) (chain_check s) _ (chain_in s) (λ a. numbered_ends (length s) (length b) _)))

  pub format_ends : (kind : ℕ) (s : List ℕ) → Answered (formatted kind s (length b)) b b' r → Ended (length s) r
  unfolding formatted formatted_bed formatted_psl formatted_chain
  format_ends kind s =
      answered_ends (length s) _ b b' r
      (kind_ends (length s) kind _ _ _ (bed_ends (length s) (bed_check s) _ (bed_in s) (λ a. bed_written_lem s _ _ _ (length b) a))
      (psl_ends (length s) (psl_check s) _ (psl_in s) (λ a. psl_written_lem s _ _ _ (length b) a))
      (chain_ends (length s) (chain_check s) _ (chain_in s) (λ a. chain_written_lem s _ _ _ (length b) a)))

  pub numbers_ends : (s : List ℕ) → Answered (numbers_given s (length b)) b b' r → Ended (length s) r
  unfolding numbers_given
  numbers_ends s = answered_ends (length s) _ b b' r (listed_ends (length s) (numbers_check s) _ (numbers_in_lem s) (numbered_ends (length s) (length b) (numbers_in s)))

  pub convert_ends : (start end size : ℕ) → Answered (converted_numbers start end size (length b)) b b' r → Ended 0 r
  unfolding converted_numbers
  convert_ends start end size = answered_ends 0 _ b b' r (span_ends start end size (length b))

  pub lift_position_ends : (s : List ℕ) (p : ℕ) → Answered (position_lifted s p (length b)) b b' r → Ended (length s) r
  unfolding position_lifted
  lift_position_ends s p = answered_ends (length s) _ b b' r (chain_ends (length s) (chain_check s) _ (chain_in s) (λ c. position_ends c (chain_rows s c) p (length s) (length b)))

  pub lift_region_ends : (s : List ℕ) (a e : ℕ) → Answered (region_lifted s a e (length b)) b b' r → Ended (length s) r
  unfolding region_lifted
  lift_region_ends s a e = answered_ends (length s) _ b b' r (chain_ends (length s) (chain_check s) _ (chain_in s) (λ c. region_ends c (chain_rows s c) a e (length s) (length b)))

  pub turned_ends : (s : List ℕ) → Answered (turned_text s (length b)) b b' r → Ended (length s) r
  unfolding turned_text
  turned_ends s = answered_ends (length s) _ b b' r (chain_ends (length s) (chain_check s) _ (chain_in s) (λ c. turn_ends s c (chain_rows s c) (length b)))

pub tallied_ends : (s : List ℕ) (a e : ℕ) (b b' : List ℕ) (r : ℕ) → Answered (tallied s a e b) b b' r → Ended (length s) r
unfolding tallied
tallied_ends s a e b b' r = answered_ends (length s) _ b b' r (chain_ends (length s) (chain_check s) _ (chain_in s) (λ c. tally_ends (length s) (tally_in b) c (chain_rows s c) a e))

pub batch_ends : (s regions lent lent' b b' : List ℕ) (r : ℕ) → BatchTold s regions lent lent' b b' r → Ended (length s) r
unfolding batch_lifted text_batch_check
batch_ends s regions lent lent' b b' r h = answered_ends (length s) _ b b' r (go (room_in_bytes regions (length b)) (chain_check s) (chain_in s)) h.rows_told
  where
    go : (v : Bool) (x : Result Chain Refusal) → chain_place x ≤ length s
        → Ends (length s) (on_check (require v (refused NoRoom) (of_checked Err (λ _. Ok tt) x)) refuses (gives (length regions / region_size) (rows_bytes (answer_rows (tally_in lent) (sent_text s regions (length b))))))
    go true (Ok c) k = gives_ends (length s) (length regions / region_size) (rows_bytes (answer_rows (tally_in lent) (sent_text s regions (length b))))
    go true (Err x) k = code_ends (length s) x k
    go false x k = code_ends (length s) (without_text NoRoom) zero-le
