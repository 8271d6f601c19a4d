-- What each step of writing a line by its table shows, on plain values. Assumes nothing.
use mathlib.Core.Path.{◌≡◌, refl, sym}
use mathlib.Core.List.{List, [], ◌∷◌, ◌++◌, append_assoc}
use Prim.Native.Nat.{ℕ, zero, suc, ◌+◌, ◌-◌, ◌*◌, ◌≤◌, ◌<◌, min}
use native.Mathlib.Numerals.{add-one}
use native.Mathlib.Omega.{arith}
use lib.ListN.{length, take, drop, get_or, drop_of_length-le, get_or-eq_default}
use lib.Seq.{drop-cons}
use Rattle.ledger.specs.Limits.{largest_place}
use Rattle.writing.specs.Puts.{Put}
use Rattle.writing.proofs.PutLaws.{put_then, put_none, Completes, completes_step, completes_done}
use Rattle.kinds.specs.declared.Kind.{Kind}
use Rattle.kinds.specs.declared.Kind.TheVariants.{Name}
use Rattle.kinds.specs.Kinds.{base_after}
use Rattle.kinds.specs.Words.{word_of}
use Rattle.columns.specs.Columns.{column_limit, table_of, value_of, place_of}
use Rattle.columns.specs.Lines.{gap_of, line_from, line_text, fed_line}
use Rattle.columns.proofs.ReadLaws.{front_in}

pub gap_none : (k sep at : ℕ) (b : List ℕ) → k ≡ 0 → at ≤ largest_place → length b ≤ largest_place → Put (gap_of k sep) at b b at
gap_none k sep at b e h l = rw e (put_none b at h l)

pub gap_some : (k sep at r : ℕ) (b b₁ : List ℕ) → (k ≡ 0 → ⊥) → Put (sep ∷ []) at b b₁ r → Put (gap_of k sep) at b b₁ r
gap_some zero sep at r b b₁ h f = absurd (h refl)
gap_some (suc k) sep at r b b₁ h f = f

pub value_none : (vs : List ℕ) (i : ℕ) → length vs ≤ i → 0 ≡ get_or vs i 0
value_none vs i h = sym (get_or-eq_default vs 0 h)

-- what is left of a line at column k
abbrev pub rest : List Kind → ℕ → ℕ → ℕ → List ℕ → List ℕ → List ℕ → List ℕ
rest table k base sep t vs ls = line_from k base (drop k table) sep t vs ls

-- a turn of the loop over a table, and its end
module _ (table : List Kind) (t vs ls : List ℕ) (sep at k base p : ℕ) (b b₀ : List ℕ) (inv : Completes (rest table k base sep t vs ls) p b (line_text table sep t vs ls) at b₀) where
  pub line_step : k < length table → (kind : Kind) → kind ≡ get_or table k Name → (v st : ℕ) → v ≡ get_or vs (2 * k) 0 → st ≡ get_or vs (2 * k + 1) 0 → (b₁ b₂ : List ℕ) (q r : ℕ) → Put (gap_of k sep) p b b₁ q
      → Put (word_of kind t ls base v st) q b₁ b₂ r → (base' : ℕ) → base' ≡ base_after kind base → Completes (rest table (k + 1) base' sep t vs ls) r b₂ (line_text table sep t vs ls) at b₀
  unfolding line_from
  line_step h kind ek v st ev es b₁ b₂ q r g w base' eb =
      completes_step (rest table k base sep t vs ls) (gap_of k sep ++ word_of kind t ls base v st) (rest table (k + 1) base' sep t vs ls) (line_text table sep t vs ls) p r at b b₂ b₀ inv
      (rw (drop-cons table k Name h, ← ek, ← ev, ← es, add-one k, eb, append_assoc)) (put_then g w)

  pub line_done : length table ≤ k → p ≤ largest_place → length b ≤ largest_place → Put (line_text table sep t vs ls) at b₀ b p
  unfolding line_from
  line_done h l m = completes_done (rest table k base sep t vs ls) (line_text table sep t vs ls) p at b b₀ inv (rw (drop_of_length-le table h)) l m

pub line_fed : (table : List Kind) (t vs ls : List ℕ) (n sep at p r : ℕ) (b b₁ b₂ : List ℕ) → n ≡ min column_limit (length table) → Put (line_text (take n table) sep t vs ls) at b b₁ p → Put (10 ∷ []) p b₁ b₂ r
    → Put (fed_line (table_of table) sep t vs ls) at b b₂ r
unfolding fed_line
line_fed table t vs ls n sep at p r b b₁ b₂ e f g = put_then (rw (front_in n table e) at f) g

-- the two numbers of a column, and where there is no such column
module _ (vs : List ℕ) (k : ℕ) where
  pub value_past : length vs ≤ k → 0 ≡ value_of vs k
  value_past h = value_none vs (2 * k) (omega arith)

  pub value_short : length vs - k ≤ k → 0 ≡ value_of vs k
  value_short h = value_none vs (2 * k) (omega arith)

  pub value_is : (r : ℕ) → r ≡ get_or vs (k + k) 0 → r ≡ value_of vs k
  value_is r e =
      let q : k + k ≡ 2 * k = omega arith in
      rw q at e

  pub place_past : length vs ≤ k → 0 ≡ place_of vs k
  place_past h = value_none vs (2 * k + 1) (omega arith)

  pub place_short : length vs - k ≤ k + 1 → 0 ≡ place_of vs k
  place_short h = value_none vs (2 * k + 1) (omega arith)

  pub place_is : (r : ℕ) → r ≡ get_or vs (k + k + 1) 0 → r ≡ place_of vs k
  place_is r e =
      let q : k + k + 1 ≡ 2 * k + 1 = omega arith in
      rw q at e
