-- What each step of reading a BED line shows, on plain values. Assumes nothing.
use mathlib.Core.Path.{◌≡◌, refl, sym, ap, ◌∙◌}
use mathlib.Core.Bool.{Bool, true, false}
use mathlib.Core.List.{List, [], ◌∷◌}
use Prim.Native.Nat.{ℕ, zero, suc, ◌-◌, ◌*◌, ◌≤◌, ◌<◌}
use native.Mathlib.Omega.{arith}
use lib.ListN.{length, set, take, drop, length-set}
use lib.Dec.{eqb}
use borrow.Author.Tests.{le-leb, lt-leb, lt-ltb, le-ltb, ne_eqb, eq-eqb, eqb-true, eqb-false}
use Rattle.std.specs.Prelude.{Ok, Err, Result, ⊤}
use Rattle.ledger.specs.Strands.{strand_of, strand_is, strand_letter}
use Rattle.ledger.specs.Parts.{part_at}
use Rattle.ledger.specs.Refusals.{fault_at, refusal_at, require}
use Rattle.ledger.specs.declared.Strand.{Strand}
use Rattle.ledger.specs.declared.Strand.TheVariants.{Dot}
use Rattle.ledger.specs.declared.Part.{Part}
use Rattle.ledger.specs.declared.Reason.TheVariants.{BlockRules, NoRoom}
use Rattle.ledger.specs.declared.Fault.{Fault}
use Rattle.ledger.specs.declared.Refusal.{Refusal}
use Rattle.text.specs.Checks.{fault, last_line_check}
use Rattle.text.specs.Steps.{Staged}
use Rattle.text.specs.Words.{line_end}
use Rattle.text.proofs.Laws.{last_as}
use Rattle.text.proofs.StageLaws.{staged_stops, staged_goes}
use Rattle.columns.specs.Columns.{value_of, place_of}
use Rattle.blocks.specs.Blocks.{blocks_fill}
use Rattle.blocks.proofs.TakeLaws.{part_all}
use Rattle.bed.specs.declared.Bed.{Bed}
use Rattle.bed.specs.Columns as column
use Rattle.bed.specs.Records.{value_or, place_or, bed_record, bed_sizes, bed_starts}
use Rattle.bed.specs.Tests.{if_there}
use Rattle.bed.specs.Read.{thick_place, span_check, block_check, after_spans, after_columns, bed_stages, bed_answer, bed_check, bed_read}
use Rattle.bed.specs.Steps.{with_default, Listed, Blocked}

-- a fault is no record
pub read_apart : (r : Bed) (x : Fault) → Err x ≡ Ok r → ⊥
read_apart r x e = let z : ◌≡◌ {A = ℕ} 0 1 = cc in omega arith

-- a record that is accepted is not refused
pub answers_apart : (r : Bed) (y : Refusal) → Ok r ≡ Err y → ⊥
answers_apart r y e = let z : ◌≡◌ {A = ℕ} 0 1 = cc in omega arith

-- what a caller is told says what was read
told_read : (a : Result Bed Fault) (r : Bed) → bed_answer a ≡ Ok r → a ≡ Ok r
told_read (Ok q) r e = let p : q ≡ r = cc in rw p
told_read (Err x) r e = absurd (answers_apart r (refusal_at x) (sym e))

told_fault : (a : Result Bed Fault) (y : Refusal) → bed_answer a ≡ Err y → a ≡ Err (fault_at y.reason y.place)
told_fault (Ok q) y e = absurd (answers_apart q y e)
told_fault (Err x) y e = let p : refusal_at x ≡ y = cc in rw (← p)

module _ (s : List ℕ) where
  pub checked_of : (r : Bed) → bed_check s ≡ Ok r → bed_stages s ≡ Ok r
  unfolding bed_check
  checked_of r e = told_read (bed_stages s) r e

  pub checked_is : (r : Bed) → bed_stages s ≡ Ok r → bed_check s ≡ Ok r
  unfolding bed_check
  checked_is r e = rw e

  pub refused_of : (y : Refusal) → bed_check s ≡ Err y → bed_stages s ≡ Err (fault_at y.reason y.place)
  unfolding bed_check
  refused_of y e = told_fault (bed_stages s) y e

  pub refused_is : (x : Fault) → bed_stages s ≡ Err x → bed_check s ≡ Err (refusal_at x)
  unfolding bed_check
  refused_is x e = rw e

  pub checked_read : (x : Result Bed Fault) (r : Bed) → x ≡ bed_stages s → x ≡ Ok r → Ok r ≡ bed_check s
  checked_read x r e q = sym (checked_is r (sym e ∙ q))

  pub checked_fault : (x : Result Bed Fault) (y : Fault) → x ≡ bed_stages s → x ≡ Err y → Err (refusal_at y) ≡ bed_check s
  checked_fault x y e q = sym (refused_is y (sym e ∙ q))

  -- the reader: the text checker, then the room
  pub read_roomy : (r : Bed) (room : ℕ) → bed_check s ≡ Ok r → r.blockCount ≤ room → bed_read s room ≡ Ok r
  unfolding bed_read
  read_roomy r room e h = rw (checked_of r e, le-leb r.blockCount room h)

  pub read_short : (r : Bed) (room : ℕ) → bed_check s ≡ Ok r → room < r.blockCount → bed_read s room ≡ Err (refusal_at (fault_at NoRoom (length s)))
  unfolding bed_read
  read_short r room e h = rw (checked_of r e, lt-leb r.blockCount room h)

  pub read_refused : (y : Refusal) (room : ℕ) → bed_check s ≡ Err y → bed_read s room ≡ Err y
  unfolding bed_read
  read_refused y room e = rw (refused_of y e)

-- a column or its default
module _ (n : ℕ) (vs : List ℕ) (k d : ℕ) where
  pub value_there : (r : ℕ) → k < n → r ≡ value_of vs k → r ≡ value_or n vs k d
  value_there r h e = rw (lt-ltb k n h) e

  pub value_left : n ≤ k → d ≡ value_or n vs k d
  value_left h = rw (le-ltb k n h)

  pub place_there : (r : ℕ) → k < n → r ≡ place_of vs k → r ≡ place_or n vs k d
  place_there r h e = rw (lt-ltb k n h) e

  pub place_left : n ≤ k → d ≡ place_or n vs k d
  place_left h = rw (le-ltb k n h)

-- the place of a thick breach
module _ (n : ℕ) (vs : List ℕ) (r : ℕ) where
  pub thick_end_lem : column.thick_end < n → r ≡ place_of vs column.thick_end → r ≡ thick_place n vs
  thick_end_lem h e = rw (lt-ltb column.thick_end n h) e

  pub thick_start_lem : n ≤ column.thick_end → r ≡ place_of vs column.thick_start → r ≡ thick_place n vs
  thick_start_lem h e = rw (le-ltb column.thick_end n h) e

-- the default block
module _ (b : ℕ) (r : Bed) (l : List ℕ) where
  pub block_given : r.words ≡ column.all → l ≡ with_default b r l
  block_given e = rw (eq-eqb r.words column.all e)

  pub block_default : (v : ℕ) (l₁ l₂ : List ℕ) → (r.words ≡ column.all → ⊥) → v ≡ r.chromEnd - r.chromStart → l₁ ≡ set l 0 v → l₂ ≡ set l₁ b 0 → l₂ ≡ with_default b r l
  block_default v l₁ l₂ h e e₁ e₂ = rw (ne_eqb r.words column.all h, e₂, e₁, e)

-- the blocks, tested in the working room
module _ (b : ℕ) (s : List ℕ) (r : Bed) (l : List ℕ) (held : Blocked b s r l) (t : Bool) (v : ℕ) (ev : v ≡ r.chromEnd - r.chromStart)
    (et : t ≡ blocks_fill 0 v (take r.blockCount (take (length l - b) (drop b l))) (take r.blockCount l)) where
  tested : t ≡ blocks_fill 0 (r.chromEnd - r.chromStart) (bed_starts s r) (bed_sizes s r)
  tested = rw (← ev, ← held.starts, ← held.sizes) (rw (part_all l b) at et)

  pub blocks_checked : (c : Result ⊤ Fault) → c ≡ require t (fault BlockRules (length s)) (Ok tt) → c ≡ block_check s r
  unfolding block_check
  blocks_checked c e = rw (← tested) e

-- the blocks of a record in the working room, the default one too
split : (n m : ℕ) (P : Type 0) → (n ≡ m → P) → ((n ≡ m → ⊥) → P) → P
split n m P a b = go (eqb n m) refl
  where
    go : (t : Bool) → eqb n m ≡ t → P
    go true e = a (eqb-true n m e)
    go false e = b (eqb-false n m e)

first_set : (l : List ℕ) (v : ℕ) → 0 < length l → take 1 (set l 0 v) ≡ v ∷ []
first_set [] v h = absurd (omega arith)
first_set (x ∷ l) v h = refl

take_set_past : (l : List ℕ) (i v n : ℕ) → n ≤ i → take n (set l i v) ≡ take n l
take_set_past [] i v n h = refl
take_set_past (x ∷ l) i v zero h = refl
take_set_past (x ∷ l) zero v (suc n) h = absurd (omega arith)
take_set_past (x ∷ l) (suc i) v (suc n) h = ap (λ (y : List ℕ). x ∷ y) (take_set_past l i v n (omega arith))

drop_set_at : (l : List ℕ) (i v : ℕ) → i < length l → take 1 (drop i (set l i v)) ≡ v ∷ []
drop_set_at [] i v h = absurd (omega arith)
drop_set_at (x ∷ l) zero v h = refl
drop_set_at (x ∷ l) (suc i) v h = drop_set_at l i v (omega arith)

pub block_held : (b : ℕ) (s : List ℕ) (r : Bed) (l l' : List ℕ) → Listed b s r l → l' ≡ with_default b r l → Blocked b s r l'
unfolding bed_sizes bed_starts
block_held b s r l l' h e =
    split r.words column.all _ (λ w.
    let q : l' ≡ l = e ∙ rw (eq-eqb r.words column.all w) in
    record { long = rw q h.long; few = h.few; sizes = rw (q, eq-eqb r.words column.all w) (h.sizes w); starts = rw (q, eq-eqb r.words column.all w) (h.starts w) })
    (λ w.
    let v = r.chromEnd - r.chromStart in
    let q : l' ≡ set (set l 0 v) b 0 = e ∙ rw (ne_eqb r.words column.all w) in
    let one = h.one w in
    let some : 1 ≤ b = omega (arith, one, h.few) in
    let z : length (set l 0 v) ≡ 2 * b = length-set l 0 v ∙ h.long in
    record {
      long = rw q (length-set (set l 0 v) b 0 ∙ z);
      few = h.few;
      sizes = rw (q, ne_eqb r.words column.all w, one) (take_set_past (set l 0 v) b 0 1 some ∙ first_set l v (omega (arith, h.long)));
      starts = rw (q, ne_eqb r.words column.all w, one) (drop_set_at (set l 0 v) b 0 (omega (arith, z)));
    })

-- a stage that stops, and one that goes on
module _ (b : ℕ) (s : List ℕ) (l : List ℕ) (c : Result ⊤ Fault) where
  module _ (r : Bed) (ec : c ≡ block_check s r) (held : Blocked b s r l) where
    pub spans_stop : (x : Fault) → c ≡ Err x → Staged Ok (Blocked b s) (after_spans s r) l (Err x)
    unfolding after_spans
    spans_stop x q = staged_stops Err read_apart x (rw (← ec, q))

    pub spans_read : c ≡ Ok tt → Staged Ok (Blocked b s) (after_spans s r) l (Ok r)
    unfolding after_spans
    spans_read q = record { is = rw (← ec, q); held = λ y e. let p : r ≡ y = cc in rw p at held }

  module _ (n : ℕ) (vs : List ℕ) (end : ℕ) (on : line_end s end ≡ line_end s 0) (el : c ≡ last_line_check s end) where
    ec : c ≡ last_line_check s 0
    ec = el ∙ last_as s end 0 on

    pub columns_stop : (x : Fault) → c ≡ Err x → Staged Ok (Blocked b s) (after_columns s n vs) l (Err x)
    unfolding after_columns
    columns_stop x q = staged_stops Err read_apart x (rw (← ec, q))

    module _ (q : c ≡ Ok tt) (r : Bed) (er : r ≡ bed_record n (length s) vs) (d : Result ⊤ Fault) (ed : d ≡ span_check r vs) where
      pub lines_stop : (x : Fault) → d ≡ Err x → Staged Ok (Blocked b s) (after_columns s n vs) l (Err x)
      unfolding after_columns
      lines_stop x k = staged_stops Err read_apart x (rw (← ec, q, ← er, ← ed, k))

      pub lines_on : (l' : List ℕ) (a : Result Bed Fault) → d ≡ Ok tt → Staged Ok (Blocked b s) (after_spans s r) l' a → Staged Ok (Blocked b s) (after_columns s n vs) l' a
      unfolding after_columns
      lines_on l' a k h = staged_goes a (rw (← ec, q, ← er, ← ed, k)) h

pub listed_as : (b : ℕ) (s : List ℕ) (r r' : Bed) (l : List ℕ) → r ≡ r' → Listed b s r' l → Listed b s r l
listed_as b s r r' l e h = rw e h

-- a record from its columns
pub record_is : (n len : ℕ) (vs : List ℕ) (start end chromPlace chromLength namePlace nameLength score letter thickStart thickEnd rgb count : ℕ) (chrom name : Part) (strand : Strand)
    → start ≡ value_of vs column.chrom_start → end ≡ value_of vs column.chrom_end
    → chromPlace ≡ place_of vs column.chrom → chromLength ≡ value_of vs column.chrom → chrom ≡ part_at chromPlace chromLength
    → namePlace ≡ place_or n vs column.name len → nameLength ≡ value_or n vs column.name 0 → name ≡ part_at namePlace nameLength
    → score ≡ value_or n vs column.score 0 → letter ≡ value_or n vs column.strand (strand_letter Dot) → strand ≡ strand_is (strand_of letter)
    → thickStart ≡ value_or n vs column.thick_start start → thickEnd ≡ value_or n vs column.thick_end end
    → rgb ≡ value_or n vs column.item_rgb 0 → count ≡ value_or n vs column.block_count 1
    → record {
      words = n;
      chrom = chrom;
      chromStart = start;
      chromEnd = end;
      name = name;
      score = score;
      strand = strand;
      thickStart = thickStart;
      thickEnd = thickEnd;
      itemRgb = rgb;
      blockCount = count;
    } ≡ bed_record n len vs
unfolding bed_record
record_is n len vs start end cp cl np nl score letter ts te rgb count chrom name strand e₁ e₂ e₃ e₄ e₅ e₆ e₇ e₈ e₉ e₁₀ e₁₁ e₁₂ e₁₃ e₁₄ e₁₅ =
    rw (e₁₂, e₁₃, e₅, e₈, e₁₁, e₁, e₂, e₃, e₄, e₆, e₇, e₉, e₁₀, e₁₄, e₁₅)

-- of a column that is there, and of one that is left out
pub there_is : (n k : ℕ) (a b : Bool) → k < n → a ≡ if_there n k a b
there_is n k a b h = rw (lt-ltb k n h)

pub left_is : (n k : ℕ) (a b : Bool) → n ≤ k → b ≡ if_there n k a b
left_is n k a b h = rw (le-ltb k n h)
