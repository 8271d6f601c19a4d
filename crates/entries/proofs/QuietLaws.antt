-- A refusal writes nothing: where an answer's reason is not 0, the lent bytes are as they were; a tally also moves by 12. Assumes nothing.
use mathlib.Core.Path.{◌≡◌, refl, ap, ◌∙◌}
use mathlib.Core.Bool.{Bool, true, false, cond}
use mathlib.Core.List.{List, [], ◌∷◌}
use Prim.Native.Nat.{ℕ, ◌/◌, ◌%◌}
use lib.ListN.{length}
use lib.Dec.{eqb, leb}
use borrow.Author.Tests.{eqb-true}
use Rattle.std.specs.Prelude.{Ok, Err, Result, ⊤, ℤ}
use Rattle.ledger.specs.Refusals.{without_text}
use Rattle.ledger.specs.declared.Reason.TheVariants.{BadWord, NoRoom, NoPair}
use Rattle.ledger.specs.declared.Refusal.{Refusal}
use Rattle.ledger.specs.Limits.{block_limit}
use Rattle.ledger.specs.Reasons.{reason_number}
use Rattle.bed.specs.declared.Bed.{Bed}
use Rattle.bed.specs.Read.{bed_check}
use Rattle.bed.specs.Write.{bed_write, bed_text}
use Rattle.psl.specs.declared.Psl.{Psl}
use Rattle.psl.specs.Read.{psl_check}
use Rattle.psl.specs.Write.{psl_write, psl_text}
use Rattle.chain.specs.declared.Chain.{Chain}
use Rattle.chain.specs.Records.{chain_rows}
use Rattle.chain.specs.Read.{chain_check}
use Rattle.chain.specs.Write.{chain_write, chain_text}
use Rattle.number_line.specs.Numbers.{numbers_in, numbers_check}
use Rattle.lift.specs.Conversion.{converted}
use Rattle.lift.specs.Positions.{lift_position}
use Rattle.lift.specs.declared.Span.{Span}
use Rattle.region.specs.declared.Tally.{Tally}
use Rattle.region.specs.Regions.{lift_region}
use Rattle.region.specs.Tallies.{tally_step}
use Rattle.region.specs.Batches.{region_size, text_batch_check}
use Rattle.region.specs.declared.Region.{Region}
use Rattle.turn.specs.Turns as turns
use Rattle.answers.specs.Answers.{Outcome, gives, refuses, Answered, refusal_code, roomed, numbered, recorded, no_room_at}
use Rattle.answers.proofs.AnswerLaws.{accepted_reason, refused_reason}
use Rattle.entries.specs.Entries.{by_kind, of_bed, of_psl, of_chain, of_numbers, of_span, of_position, of_region, of_turn, of_tallied, at_end, name_bytes, written, bed_written, psl_written, chain_written, parsed_bed, parsed_psl, parsed_chain, parsed, numbers_given, formatted_bed, formatted_psl, formatted_chain, formatted, converted_numbers, position_lifted, region_lifted, turn_written, turned_text, tally_in, tally_bytes, tallied, on_check, batch_lifted, tally_after, BatchTold, Refusing}

-- an outcome that tells a refusal has no bytes
record Quiet (o : Outcome) : Type 0 where
  none : Refusing o.answer → o.bytes ≡ []

quiet_gives : (n : ℕ) (bytes : List ℕ) → Quiet (gives n bytes)
quiet_gives n bytes = record { none = λ h. absurd (h (accepted_reason n)) }

quiet_refuses : (x : Refusal) → Quiet (refuses x)
quiet_refuses x = record { none = λ h. refl }

quiet_pick : (t : Bool) (a b : Outcome) → Quiet a → Quiet b → Quiet (cond t a b)
quiet_pick true a b p q = p
quiet_pick false a b p q = q

quiet_roomed : (short : Refusal) (room count : ℕ) (bytes : List ℕ) → Quiet (roomed short room count bytes)
unfolding roomed
quiet_roomed short room count bytes = quiet_pick (leb (length bytes) room) (gives count bytes) (refuses short) (quiet_gives count bytes) (quiet_refuses short)

quiet_numbered : (short : Refusal) (room : ℕ) (vs : List ℕ) → Quiet (numbered short room vs)
unfolding numbered
quiet_numbered short room vs = quiet_roomed short room (length vs) _

-- texts of the three formats, and what is asked of their records
quiet_bed : (a : Result Bed Refusal) (rest : Bed → Outcome) → ((r : Bed) → Quiet (rest r)) → Quiet (of_bed a rest)
quiet_bed (Ok r) rest f = f r
quiet_bed (Err x) rest f = quiet_refuses x

quiet_psl : (a : Result Psl Refusal) (rest : Psl → Outcome) → ((r : Psl) → Quiet (rest r)) → Quiet (of_psl a rest)
quiet_psl (Ok r) rest f = f r
quiet_psl (Err x) rest f = quiet_refuses x

quiet_chain : (a : Result Chain Refusal) (rest : Chain → Outcome) → ((r : Chain) → Quiet (rest r)) → Quiet (of_chain a rest)
quiet_chain (Ok r) rest f = f r
quiet_chain (Err x) rest f = quiet_refuses x

quiet_listed : (a : Result ℕ Refusal) (rest : Outcome) → Quiet rest → Quiet (of_numbers a rest)
quiet_listed (Ok n) rest q = q
quiet_listed (Err x) rest q = quiet_refuses x

quiet_kind : (kind : ℕ) (x y z : Outcome) → Quiet x → Quiet y → Quiet z → Quiet (by_kind kind x y z)
unfolding by_kind
quiet_kind kind x y z p q r = quiet_pick (eqb kind 1) x _ p (quiet_pick (eqb kind 2) y _ q (quiet_pick (eqb kind 3) z _ r (quiet_refuses (without_text BadWord))))

quiet_written : (end : ℕ) (w : Result ℕ Refusal) (bytes : List ℕ) → Quiet (written end w bytes)
quiet_written end (Ok n) bytes = quiet_gives n bytes
quiet_written end (Err x) bytes = quiet_refuses (at_end end x)

quiet_position : (a : Result (ℕ × ℤ) Refusal) (end room : ℕ) → Quiet (of_position a end room)
quiet_position (Ok (q, d)) end room = quiet_numbered (no_room_at end) room _
quiet_position (Err x) end room = quiet_refuses x

quiet_region : (a : Result Region Refusal) (end room : ℕ) → Quiet (of_region a end room)
quiet_region (Ok x) end room = quiet_numbered (no_room_at end) room _
quiet_region (Err x) end room = quiet_refuses x

quiet_turn : (a : Result Chain Refusal) (rest : Chain → Outcome) → ((r : Chain) → Quiet (rest r)) → Quiet (of_turn a rest)
quiet_turn (Ok d) rest f = f d
quiet_turn (Err x) rest f = quiet_refuses x

quiet_span : (a : Result Span Refusal) (room : ℕ) → Quiet (of_span a (λ x. numbered (without_text NoRoom) room (x.start ∷ x.end ∷ [])))
quiet_span (Ok x) room = quiet_numbered (without_text NoRoom) room _
quiet_span (Err x) room = quiet_refuses x

-- the entries
quiet_parsed : (kind : ℕ) (s : List ℕ) (room : ℕ) → Quiet (parsed kind s room)
unfolding parsed parsed_bed parsed_psl parsed_chain recorded
quiet_parsed kind s room =
    quiet_kind kind _ _ _ (quiet_bed (bed_check s) _ (λ r. quiet_numbered (no_room_at (length s)) room _)) (quiet_psl (psl_check s) _ (λ r. quiet_numbered (no_room_at (length s)) room _)) (quiet_chain (chain_check s) _ (λ r. quiet_numbered (no_room_at (length s)) room _))

quiet_bed_text : (s : List ℕ) (r : Bed) (ts qs zs : List ℕ) (room : ℕ) → Quiet (bed_written s r ts qs zs room)
unfolding bed_written
quiet_bed_text s r ts qs zs room = quiet_written (length s) (bed_write r (name_bytes s r.chrom) (name_bytes s r.name) ts qs zs room) (bed_text r (name_bytes s r.chrom) (name_bytes s r.name) ts zs)

quiet_psl_text : (s : List ℕ) (r : Psl) (ts qs zs : List ℕ) (room : ℕ) → Quiet (psl_written s r ts qs zs room)
unfolding psl_written
quiet_psl_text s r ts qs zs room =
    quiet_written (length s) (psl_write r (name_bytes s r.query.name) (name_bytes s r.target.name) ts qs zs room) (psl_text r (name_bytes s r.query.name) (name_bytes s r.target.name) ts qs zs)

quiet_chain_text : (s : List ℕ) (r : Chain) (ts qs zs : List ℕ) (room : ℕ) → Quiet (chain_written s r ts qs zs room)
unfolding chain_written
quiet_chain_text s r ts qs zs room =
    quiet_written (length s) (chain_write r (name_bytes s r.tName) (name_bytes s r.qName) ts qs zs room) (chain_text r (name_bytes s r.tName) (name_bytes s r.qName) ts qs zs)

quiet_formatted : (kind : ℕ) (s : List ℕ) (room : ℕ) → Quiet (formatted kind s room)
unfolding formatted formatted_bed formatted_psl formatted_chain
quiet_formatted kind s room =
    quiet_kind kind _ _ _ (quiet_bed (bed_check s) _ (λ r. quiet_bed_text s r _ _ _ room)) (quiet_psl (psl_check s) _ (λ r. quiet_psl_text s r _ _ _ room)) (quiet_chain (chain_check s) _ (λ r. quiet_chain_text s r _ _ _ room))

quiet_turned : (s : List ℕ) (room : ℕ) → Quiet (turned_text s room)
unfolding turned_text turn_written
quiet_turned s room = quiet_chain (chain_check s) _ (λ c. quiet_turn (turns.turn c (chain_rows s c) block_limit) _ (λ d. quiet_chain_text s d _ _ _ room))

-- what is left then
left : (o : Outcome) (b b' : List ℕ) (r : ℕ) → Answered o b b' r → o.bytes ≡ [] → b' ≡ b
left o b b' r h e = h.left ∙ rw e

quiet_left : (o : Outcome) (b b' : List ℕ) (r : ℕ) → Quiet o → Answered o b b' r → Refusing r → b' ≡ b
quiet_left o b b' r q h k = left o b b' r h (q.none (λ e. k (ap (λ (n : ℕ). n % 16) h.is ∙ e)))

module _ (b b' : List ℕ) (r : ℕ) where
  pub parse_left : (kind : ℕ) (s : List ℕ) → Answered (parsed kind s (length b)) b b' r → Refusing r → b' ≡ b
  parse_left kind s = quiet_left _ b b' r (quiet_parsed kind s (length b))

  pub format_left : (kind : ℕ) (s : List ℕ) → Answered (formatted kind s (length b)) b b' r → Refusing r → b' ≡ b
  format_left kind s = quiet_left _ b b' r (quiet_formatted kind s (length b))

  pub numbers_left : (s : List ℕ) → Answered (numbers_given s (length b)) b b' r → Refusing r → b' ≡ b
  unfolding numbers_given
  numbers_left s = quiet_left _ b b' r (quiet_listed (numbers_check s) _ (quiet_numbered (no_room_at (length s)) (length b) (numbers_in s)))

  pub convert_left : (start end size : ℕ) → Answered (converted_numbers start end size (length b)) b b' r → Refusing r → b' ≡ b
  unfolding converted_numbers
  convert_left start end size = quiet_left _ b b' r (quiet_span (converted start end size) (length b))

  pub position_left : (s : List ℕ) (p : ℕ) → Answered (position_lifted s p (length b)) b b' r → Refusing r → b' ≡ b
  unfolding position_lifted
  position_left s p = quiet_left _ b b' r (quiet_chain (chain_check s) _ (λ c. quiet_position (lift_position c (chain_rows s c) p) (length s) (length b)))

  pub region_left : (s : List ℕ) (start end : ℕ) → Answered (region_lifted s start end (length b)) b b' r → Refusing r → b' ≡ b
  unfolding region_lifted
  region_left s start end = quiet_left _ b b' r (quiet_chain (chain_check s) _ (λ c. quiet_region (lift_region c (chain_rows s c) start end) (length s) (length b)))

  pub turn_left : (s : List ℕ) → Answered (turned_text s (length b)) b b' r → Refusing r → b' ≡ b
  turn_left s = quiet_left _ b b' r (quiet_turned s (length b))

-- the tally: a refusal other than 12
record Still (o : Outcome) : Type 0 where
  none : Refusing o.answer → (o.answer % 16 ≡ reason_number NoPair → ⊥) → o.bytes ≡ []

still_tallied : (a : Result Region Refusal) (t : Tally) → Still (of_tallied a t)
still_tallied (Ok x) t = record { none = λ h k. absurd (h (accepted_reason x.kept)) }
still_tallied (Err x) t = go (eqb (reason_number x.reason) (reason_number NoPair)) refl
  where
    go : (u : Bool) → eqb (reason_number x.reason) (reason_number NoPair) ≡ u → Still (cond u (record { answer = refusal_code x; bytes = tally_bytes t }) (refuses x))
    go true e = record { none = λ h k. absurd (k (refused_reason x ∙ eqb-true (reason_number x.reason) (reason_number NoPair) e)) }
    go false e = record { none = λ h k. refl }

still_chain : (a : Result Chain Refusal) (rest : Chain → Outcome) → ((r : Chain) → Still (rest r)) → Still (of_chain a rest)
still_chain (Ok r) rest f = f r
still_chain (Err x) rest f = record { none = λ h k. refl }

pub tally_left : (s : List ℕ) (start end : ℕ) (b b' : List ℕ) (r : ℕ) → Answered (tallied s start end b) b b' r → Refusing r → (r % 16 ≡ reason_number NoPair → ⊥) → b' ≡ b
unfolding tallied
tally_left s start end b b' r h k l =
    let q = still_chain (chain_check s) _ (λ c. still_tallied (tally_step (tally_in b) c (chain_rows s c) start end).answer (tally_step (tally_in b) c (chain_rows s c) start end).tally) in
    left _ b b' r h (q.none (λ e. k (ap (λ (n : ℕ). n % 16) h.is ∙ e)) (λ e. l (ap (λ (n : ℕ). n % 16) h.is ∙ e)))

-- a batch: rows and tally
quiet_check : (x : Result ⊤ Refusal) (o : Outcome) → Quiet o → Quiet (on_check x refuses o)
quiet_check (Ok tt) o q = q
quiet_check (Err x) o q = quiet_refuses x

still_batch : (x : Result ⊤ Refusal) (count : ℕ) (bytes lent kept : List ℕ) → Refusing (on_check x refuses (gives count bytes)).answer → on_check x (λ _. lent) kept ≡ lent
still_batch (Ok tt) count bytes lent kept h = absurd (h (accepted_reason count))
still_batch (Err x) count bytes lent kept h = refl

pub batch_left : (s regions lent lent' b b' : List ℕ) (r : ℕ) → BatchTold s regions lent lent' b b' r → Refusing r → (b' ≡ b) × (lent' ≡ lent)
unfolding batch_lifted tally_after
batch_left s regions lent lent' b b' r h k = (
  quiet_left _ b b' r (quiet_check (text_batch_check s regions (length b)) _ (quiet_gives (length regions / region_size) _)) h.rows_told k,
  h.tally_left ∙ still_batch (text_batch_check s regions (length b)) (length regions / region_size) _ lent _ (λ e. k (ap (λ (n : ℕ). n % 16) h.rows_told.is ∙ e)),
)
