-- What each step of reading a line by its table shows, on plain values. Assumes nothing.
use mathlib.Core.Path.{◌≡◌, refl, sym, ap, ◌∙◌}
use mathlib.Core.Bool.{Bool, true, false}
use mathlib.Core.List.{List}
use Prim.Native.Nat.{ℕ, suc, ◌+◌, ◌-◌, ◌*◌, ◌≤◌, ◌<◌, min}
use native.Mathlib.Omega.{arith}
use native.Mathlib.Numerals.{add-one}
use lib.ListN.{length, set, get_or, take, drop, length-take, drop_of_length-le}
use lib.Seq.{sets, drop-cons, take_all}
use Rattle.ledger.specs.declared.Fault.{Fault}
use Rattle.text.specs.declared.Extent.{Extent}
use Rattle.text.specs.Words.{next_word, bytes_of}
use Rattle.text.proofs.Laws.{cut_bytes, either}
use Rattle.kinds.specs.declared.Kind.{Kind}
use Rattle.kinds.specs.declared.Kind.TheVariants.{Name}
use Rattle.kinds.specs.Kinds.{spelt, items_in, count_after, is_list, base_by, base_after, Spelled}
use Rattle.columns.specs.Columns.{column_limit, table_of, field_of, field_from, columns_from, values_from, lists_by, lists_from, FieldRead, ColumnsWalked, ColumnsRead}
use Rattle.std.specs.Prelude.{Ok, Err, Result}

pub pair_stored : (b b₁ b₂ : List ℕ) (i j v p : ℕ) → b₁ ≡ set b i v → b₂ ≡ set b₁ j p → b₂ ≡ set (set b i v) j p
pair_stored b b₁ b₂ i j v p e f = rw (f, e)

-- where the next list is stored, the lists standing so many numbers apart
module _ (stride : ℕ) (k : Kind) (t : Bool) (et : t ≡ is_list k) (base : ℕ) where
  pub base_list : t ≡ true → base + stride ≡ base_by stride k base
  base_list q = rw (← et, q)

  pub base_other : t ≡ false → base ≡ base_by stride k base
  base_other q = rw (← et, q)

pub spell_cut : (k : Kind) (n : ℕ) (s : List ℕ) (w : Extent) (a e base : ℕ) (d d' : List ℕ) (r : Result ℕ Fault) → e ≡ min w.end (length s) → a ≡ min w.start e
    → Spelled (spelt k n (take (e - a) (drop a s))) (take (e - a) (drop a s)) (items_in k (take (e - a) (drop a s))) base d d' r
    → Spelled (spelt k n (bytes_of s w)) (bytes_of s w) (items_in k (bytes_of s w)) base d d' r
spell_cut k n s w a e base d d' r ee ea h = rw (cut_bytes s w a e ee ea) at h

-- the field at a place
module _ (k : Kind) (n : ℕ) (s : List ℕ) (at : ℕ) (w : Extent) (ew : w ≡ next_word s at) (r : Result ℕ Fault) (base : ℕ) (d d' : List ℕ) (er : Spelled (spelt k n (bytes_of s w)) (bytes_of s w) (items_in k (bytes_of s w)) base d d' r) where
  held : d' ≡ sets d base (items_in k (bytes_of s (next_word s at)))
  held = rw (← ew) er.stored

  pub field_good : (v : ℕ) → r ≡ Ok v → FieldRead k n s at base d d' (Ok (v, w))
  unfolding field_from
  field_good v q = record { result = rw (← ew, ← er.is, q); stored = held }

  pub field_bad : (bad : Fault) → r ≡ Err bad → FieldRead k n s at base d d' (Err (record { reason = bad.reason; place = w.start + bad.place }))
  unfolding field_from
  field_bad bad q = record { result = rw (← ew, ← er.is, q); stored = held }

  pub field_near : (bad : Fault) → r ≡ Err bad → w.start ≤ w.end → w.start + bad.place ≤ w.end
  unfolding bytes_of
  field_near bad q h =
      let m : bad.place ≤ length (bytes_of s w) = rw q at er.near in
      omega (arith, length-take (w.end - w.start) (drop w.start s))

-- a good field stands at its word
good_word : (x : Result ℕ Fault) (y w : Extent) (v : ℕ) → field_of x y ≡ Ok (v, w) → w ≡ y
good_word (Ok u) y w v e = let p : ◌≡◌ {A = ℕ × Extent} (u, y) (v, w) = cc in sym (ap (λ (z : ℕ × Extent). z.1) p)
good_word (Err bad) y w v e = absurd (let z : ◌≡◌ {A = ℕ} 0 1 = cc in omega arith)

pub field_word : (k : Kind) (n : ℕ) (s : List ℕ) (at v : ℕ) (w : Extent) → field_from k n s at ≡ Ok (v, w) → w ≡ next_word s at
unfolding field_from
field_word k n s at v w e = good_word (spelt k n (bytes_of s (next_word s at))) (next_word s at) w v e

-- a turn of the loop over a table, and its ends
module _ (table : List Kind) (s : List ℕ) (from at n k : ℕ) where
  pub columns_done : columns_from (drop k table) n s at ≡ columns_from table 0 s from → length table ≤ k → Ok at ≡ columns_from table 0 s from
  unfolding columns_from
  columns_done inv h = rw (drop_of_length-le table h) at inv

  pub values_done : (b₀ b : List ℕ) → sets b (2 * k) (values_from (drop k table) n s at) ≡ sets b₀ 0 (values_from table 0 s from) → length table ≤ k
      → b ≡ sets b₀ 0 (values_from table 0 s from)
  unfolding values_from
  values_done b₀ b inv h = rw (drop_of_length-le table h) at inv

  pub lists_done : (base : ℕ) (d₀ d : List ℕ) → lists_from (drop k table) n s at base d ≡ lists_from table 0 s from 0 d₀ → length table ≤ k
      → d ≡ lists_from table 0 s from 0 d₀
  unfolding lists_by
  lists_done base d₀ d inv h = rw (drop_of_length-le table h) at inv

  module _ (h : k < length table) (kind : Kind) (ek : kind ≡ get_or table k Name) (f : Result (ℕ × Extent) Fault) (ef : f ≡ field_from kind n s at) where
    pub columns_bad : columns_from (drop k table) n s at ≡ columns_from table 0 s from → (x : Fault) → f ≡ Err x → Err x ≡ columns_from table 0 s from
    unfolding columns_from
    columns_bad inv x q = rw (drop-cons table k Name h, ← ek, ← ef, q) at inv

    module _ (v : ℕ) (w : Extent) (q : f ≡ Ok (v, w)) (n' : ℕ) (en : n' ≡ count_after kind v n) where
      pub columns_more : columns_from (drop k table) n s at ≡ columns_from table 0 s from
          → columns_from (drop (k + 1) table) n' s w.end ≡ columns_from table 0 s from
      unfolding columns_from
      columns_more inv = rw (add-one k, en) (rw (drop-cons table k Name h, ← ek, ← ef, q) at inv)

      pub values_more : (b₀ b b₁ : List ℕ) → b₁ ≡ set (set b (2 * k) v) (2 * k + 1) w.start
          → sets b (2 * k) (values_from (drop k table) n s at) ≡ sets b₀ 0 (values_from table 0 s from)
          → sets b₁ (2 * (k + 1)) (values_from (drop (k + 1) table) n' s w.end) ≡ sets b₀ 0 (values_from table 0 s from)
      unfolding values_from
      values_more b₀ b b₁ e inv =
          let p : 2 * (k + 1) ≡ suc (suc (2 * k)) = omega arith in
          rw (p, e, add-one k, add-one (2 * k), en) (rw (drop-cons table k Name h, ← ek, ← ef, q) at inv)

      pub lists_more : (base base' : ℕ) (d₀ d d' : List ℕ) → base' ≡ base_after kind base → d' ≡ sets d base (items_in kind (bytes_of s (next_word s at)))
          → lists_from (drop k table) n s at base d ≡ lists_from table 0 s from 0 d₀
          → lists_from (drop (k + 1) table) n' s w.end base' d' ≡ lists_from table 0 s from 0 d₀
      unfolding lists_by
      lists_more base base' d₀ d d' eb st inv =
          let st' : d' ≡ sets d base (items_in kind (bytes_of s w)) = rw (field_word kind n s at v w (sym ef ∙ q)) st in
          rw (add-one k, en, eb, st') (rw (drop-cons table k Name h, ← ek, ← ef, q) at inv)

-- the first columns of a table, as many as are read
pub front_in : (n : ℕ) (table : List Kind) → n ≡ min column_limit (length table) → take n table ≡ table_of table
unfolding table_of
front_in n table e =
    rw e
    (either column_limit (length table) _ (λ h. let q : min column_limit (length table) ≡ column_limit = omega arith in rw q)
    (λ h.
    let q : min column_limit (length table) ≡ length table = omega arith in
    let l : length table ≤ column_limit = omega arith in
    rw (q, take_all (length table) table (omega arith), take_all column_limit table l)))

pub front_length : (n : ℕ) (table : List Kind) → n ≡ min column_limit (length table) → n ≡ length (take n table)
front_length n table e = rw length-take (omega arith)

pub front_few : (n : ℕ) (table : List Kind) → n ≡ min column_limit (length table) → length (take n table) ≤ column_limit
front_few n table e = rw length-take (omega arith)

pub walked_line : (table : List Kind) (s : List ℕ) (from n : ℕ) (b b' d d' : List ℕ) (r : Result ℕ Fault) → n ≡ min column_limit (length table) → ColumnsWalked (take n table) s from b b' d d' r → ColumnsWalked (table_of table) s from b b' d d' r
walked_line table s from n b b' d d' r en h = rw (front_in n table en) at h

-- a walk that stores nothing, and the walk that stores
module _ (table : List Kind) (s : List ℕ) (from n : ℕ) (en : n ≡ min column_limit (length table)) (o o' l l' : List ℕ) (x : Result ℕ Fault) (first : ColumnsWalked (take n table) s from o o' l l' x) where
  first_is : x ≡ columns_from (table_of table) 0 s from
  first_is = rw (front_in n table en) at first.result

  pub read_refused : (b d : List ℕ) (y : Fault) → x ≡ Err y → ColumnsRead (table_of table) s from b b d d (Err y)
  read_refused b d y q = record { result = sym q ∙ first_is; stored = refl; held = refl }

  pub read_walked : (e : ℕ) (b b' d d' : List ℕ) (r : Result ℕ Fault) → x ≡ Ok e → ColumnsWalked (take n table) s from b b' d d' r → ColumnsRead (table_of table) s from b b' d d' r
  read_walked e b b' d d' r q h =
      let g : ColumnsWalked (table_of table) s from b b' d d' r = rw (front_in n table en) at h in
      let z : r ≡ Ok e = g.result ∙ sym first_is ∙ q in
      record { result = g.result; stored = rw z (g.stored e z); held = rw z (g.held e z) }
