-- The entries, from their parts. Assumes nothing.
use mathlib.Core.Path.{◌≡◌, sym, ◌∙◌}
use mathlib.Core.List.{List, [], ◌∷◌}
use Prim.Native.Nat.{ℕ}
use native.Mathlib.Omega.{arith}
use lib.ListN.{length, take}
use Rattle.std.specs.Prelude.{Ok, Err, Result}
use Rattle.ledger.specs.declared.Reason.TheVariants.{NoRoom}
use Rattle.ledger.specs.Refusals.{without_text}
use Rattle.ledger.specs.declared.Refusal.{Refusal}
use Rattle.ledger.specs.declared.Row.{Row}
use Rattle.blocks.specs.Rows.{table_of}
use Rattle.blocks.proofs.TableLaws.{table_take}
use Rattle.bed.specs.declared.Bed.{Bed}
use Rattle.bed.specs.Read.{bed_check}
use Rattle.psl.specs.declared.Psl.{Psl}
use Rattle.psl.specs.Read.{psl_check}
use Rattle.chain.specs.declared.Chain.{Chain}
use Rattle.chain.specs.Records.{chain_rows}
use Rattle.chain.specs.Read.{chain_check}
use Rattle.lift.specs.declared.Span.{Span}
use Rattle.lift.specs.Accepted.{Wide}
use Rattle.lift.specs.Conversion.{converted}
use Rattle.answers.specs.Answers.{told, refusal_code, Outcome, Answered, numbered, recorded, no_room_at}
use Rattle.entries.specs.Records.{bed_numbers, psl_numbers, chain_numbers, Held, BedStaged, PslStaged, ChainStaged}
use Rattle.entries.specs.Entries.{of_bed, of_psl, of_chain, checked_bed, checked_psl, checked_chain, parsed_bed, parsed_psl, parsed_chain, converted_numbers, bed_written, psl_written, chain_written, formatted_bed, formatted_psl, formatted_chain}
use Rattle.answers.proofs.AnswerLaws.{refused_is}

-- the rows of the room are those of the text
pub held_rows : (n : ℕ) (ts qs zs ts' qs' zs' : List ℕ) → Held n ts qs zs ts' qs' zs' → table_of (take n ts') (take n qs') (take n zs') ≡ table_of ts qs zs
held_rows n ts qs zs ts' qs' zs' h = rw (h.targets, h.queries, h.sizes)

first_rows_lem : (n : ℕ) (ts qs zs ts' qs' zs' : List ℕ) → Held n ts qs zs ts' qs' zs' → take n (table_of ts' qs' zs') ≡ table_of ts qs zs
first_rows_lem n ts qs zs ts' qs' zs' h = table_take n ts' qs' zs' ∙ held_rows n ts qs zs ts' qs' zs' h

pub wide : (n : ℕ) (ts qs zs ts' qs' zs' : List ℕ) → Held n ts qs zs ts' qs' zs' → Wide n ts' qs' zs'
wide n ts qs zs ts' qs' zs' h = record {
  targets = omega (arith, h.few, h.stage.targets);
  queries = omega (arith, h.few, h.stage.queries);
  sizes = omega (arith, h.few, h.stage.sizes);
}

-- BED: the text is refused, or accepted with a record
module _ (s : List ℕ) (x : Result Bed Refusal) (r : ℕ) where
  pub check_bed_refused : (y : Refusal) → x ≡ bed_check s → x ≡ Err y → r ≡ refusal_code y → r ≡ (checked_bed s).answer
  unfolding checked_bed
  check_bed_refused y f e q = rw (sym f ∙ e) q

  pub check_bed_accepted : (a : Bed) → x ≡ bed_check s → x ≡ Ok a → r ≡ told a.blockCount → r ≡ (checked_bed s).answer
  unfolding checked_bed
  check_bed_accepted a f e q = rw (sym f ∙ e) q

module _ (s ts qs zs b : List ℕ) (x : Result Bed Refusal) (f : BedStaged s ts qs zs x) where
  pub bed_refused : (rest : Bed → Outcome) (y : Refusal) (r : ℕ) → x ≡ Err y → r ≡ refusal_code y → Answered (of_bed (bed_check s) rest) b b r
  bed_refused rest y r e q = rw (sym f.is ∙ e) (refused_is y b r q)

  pub bed_wide : (a : Bed) → x ≡ Ok a → Wide a.blockCount ts qs zs
  bed_wide a e = wide a.blockCount _ _ _ ts qs zs (f.held a e)

  pub format_bed_accepted : (a : Bed) (b' : List ℕ) (r : ℕ) → x ≡ Ok a
      → Answered (bed_written s a (take a.blockCount ts) (take a.blockCount qs) (take a.blockCount zs) (length b)) b b' r → Answered (formatted_bed s (length b)) b b' r
  unfolding formatted_bed
  format_bed_accepted a b' r e g = rw (sym f.is ∙ e, ← (f.held a e).targets, ← (f.held a e).queries, ← (f.held a e).sizes) g

  module _ (a : Bed) (e : x ≡ Ok a) (fields : List ℕ) (k : fields ≡ bed_numbers a) where
    pub parse_bed_accepted : (b' : List ℕ) (r : ℕ) → Answered (recorded (no_room_at (length s)) (length b) fields (take a.blockCount (table_of ts qs zs))) b b' r
        → Answered (parsed_bed s (length b)) b b' r
    unfolding parsed_bed
    parse_bed_accepted b' r g = rw (sym f.is ∙ e, ← k, ← first_rows_lem _ _ _ _ ts qs zs (f.held a e)) g

-- PSL, the same
module _ (s : List ℕ) (x : Result Psl Refusal) (r : ℕ) where
  pub check_psl_refused : (y : Refusal) → x ≡ psl_check s → x ≡ Err y → r ≡ refusal_code y → r ≡ (checked_psl s).answer
  unfolding checked_psl
  check_psl_refused y f e q = rw (sym f ∙ e) q

  pub check_psl_accepted : (a : Psl) → x ≡ psl_check s → x ≡ Ok a → r ≡ told a.blockCount → r ≡ (checked_psl s).answer
  unfolding checked_psl
  check_psl_accepted a f e q = rw (sym f ∙ e) q

pub parse_psl_refused : (s b : List ℕ) (x : Result Psl Refusal) (y : Refusal) (r : ℕ) → x ≡ psl_check s → x ≡ Err y → r ≡ refusal_code y → Answered (parsed_psl s (length b)) b b r
unfolding parsed_psl
parse_psl_refused s b x y r f e q = rw (sym f ∙ e) (refused_is y b r q)

module _ (s ts qs zs b : List ℕ) (x : Result Psl Refusal) (f : PslStaged s ts qs zs x) where
  pub psl_refused : (rest : Psl → Outcome) (y : Refusal) (r : ℕ) → x ≡ Err y → r ≡ refusal_code y → Answered (of_psl (psl_check s) rest) b b r
  psl_refused rest y r e q = rw (sym f.is ∙ e) (refused_is y b r q)

  pub psl_wide : (a : Psl) → x ≡ Ok a → Wide a.blockCount ts qs zs
  psl_wide a e = wide a.blockCount _ _ _ ts qs zs (f.held a e)

  pub format_psl_accepted : (a : Psl) (b' : List ℕ) (r : ℕ) → x ≡ Ok a
      → Answered (psl_written s a (take a.blockCount ts) (take a.blockCount qs) (take a.blockCount zs) (length b)) b b' r → Answered (formatted_psl s (length b)) b b' r
  unfolding formatted_psl
  format_psl_accepted a b' r e g = rw (sym f.is ∙ e, ← (f.held a e).targets, ← (f.held a e).queries, ← (f.held a e).sizes) g

  module _ (a : Psl) (e : x ≡ Ok a) (fields : List ℕ) (k : fields ≡ psl_numbers a) where
    pub parse_psl_accepted : (b' : List ℕ) (r : ℕ) → Answered (recorded (no_room_at (length s)) (length b) fields (take a.blockCount (table_of ts qs zs))) b b' r
        → Answered (parsed_psl s (length b)) b b' r
    unfolding parsed_psl
    parse_psl_accepted b' r g = rw (sym f.is ∙ e, ← k, ← first_rows_lem _ _ _ _ ts qs zs (f.held a e)) g

-- and chains
module _ (s : List ℕ) (x : Result Chain Refusal) (r : ℕ) where
  pub check_chain_refused : (y : Refusal) → x ≡ chain_check s → x ≡ Err y → r ≡ refusal_code y → r ≡ (checked_chain s).answer
  unfolding checked_chain
  check_chain_refused y f e q = rw (sym f ∙ e) q

  pub check_chain_accepted : (a : Chain) → x ≡ chain_check s → x ≡ Ok a → r ≡ told a.blockCount → r ≡ (checked_chain s).answer
  unfolding checked_chain
  check_chain_accepted a f e q = rw (sym f ∙ e) q

pub parse_chain_refused : (s b : List ℕ) (x : Result Chain Refusal) (y : Refusal) (r : ℕ) → x ≡ chain_check s → x ≡ Err y → r ≡ refusal_code y → Answered (parsed_chain s (length b)) b b r
unfolding parsed_chain
parse_chain_refused s b x y r f e q = rw (sym f ∙ e) (refused_is y b r q)

module _ (s ts qs zs b : List ℕ) (x : Result Chain Refusal) (f : ChainStaged s ts qs zs x) where
  pub chain_refused : (rest : Chain → Outcome) (y : Refusal) (r : ℕ) → x ≡ Err y → r ≡ refusal_code y → Answered (of_chain (chain_check s) rest) b b r
  chain_refused rest y r e q = rw (sym f.is ∙ e) (refused_is y b r q)

  pub chain_wide : (a : Chain) → x ≡ Ok a → Wide a.blockCount ts qs zs
  chain_wide a e = wide a.blockCount _ _ _ ts qs zs (f.held a e)

  pub format_chain_accepted : (a : Chain) (b' : List ℕ) (r : ℕ) → x ≡ Ok a
      → Answered (chain_written s a (take a.blockCount ts) (take a.blockCount qs) (take a.blockCount zs) (length b)) b b' r → Answered (formatted_chain s (length b)) b b' r
  unfolding formatted_chain
  format_chain_accepted a b' r e g = rw (sym f.is ∙ e, ← (f.held a e).targets, ← (f.held a e).queries, ← (f.held a e).sizes) g

  module _ (a : Chain) (e : x ≡ Ok a) (fields : List ℕ) (k : fields ≡ chain_numbers a) where
    pub parse_chain_accepted : (b' : List ℕ) (r : ℕ) → Answered (recorded (no_room_at (length s)) (length b) fields (take a.blockCount (table_of ts qs zs))) b b' r
        → Answered (parsed_chain s (length b)) b b' r
    unfolding parsed_chain
    parse_chain_accepted b' r g = rw (sym f.is ∙ e, ← k, ← first_rows_lem _ _ _ _ ts qs zs (f.held a e)) g

  -- what follows a chain's text with its rows
  pub chain_accepted : (of : Chain → List Row → Outcome) (a : Chain) (b' : List ℕ) (r : ℕ) → x ≡ Ok a
      → Answered (of a (table_of (take a.blockCount ts) (take a.blockCount qs) (take a.blockCount zs))) b b' r → Answered (of_chain (chain_check s) (λ c. of c (chain_rows s c))) b b' r
  chain_accepted of a b' r e g = rw (sym f.is ∙ e, ← held_rows _ _ _ _ ts qs zs (f.held a e)) g

-- conversion
module _ (start end size : ℕ) (x : Result Span Refusal) (f : x ≡ converted start end size) (b : List ℕ) where
  pub convert_refused : (y : Refusal) (r : ℕ) → x ≡ Err y → r ≡ refusal_code y → Answered (converted_numbers start end size (length b)) b b r
  unfolding converted_numbers
  convert_refused y r e q = rw (sym f ∙ e) (refused_is y b r q)

  pub convert_accepted : (y : Span) (b' : List ℕ) (r : ℕ) → x ≡ Ok y → Answered (numbered (without_text NoRoom) (length b) (y.start ∷ y.end ∷ [])) b b' r
      → Answered (converted_numbers start end size (length b)) b b' r
  unfolding converted_numbers
  convert_accepted y b' r e g = rw (sym f ∙ e) g
