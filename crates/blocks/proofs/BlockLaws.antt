-- What each step over the first rows of the slices shows, on plain values. Assumes nothing.
use mathlib.Core.Path.{◌≡◌, refl, sym, ◌∙◌, ap}
use mathlib.Core.Bool.{Bool, true, false, ◌&&◌}
use mathlib.Core.List.{List, [], ◌∷◌, ◌++◌}
use Prim.Native.Nat.{ℕ, suc, ◌+◌, ◌-◌, ◌≤◌, ◌<◌, min}
use native.Mathlib.Numerals.{add-one}
use native.Mathlib.Omega.{arith}
use lib.ListN.{length, take, drop, get_or, set, length-take, length-drop, length-set, drop_of_length-le}
use lib.Seq.{drop-cons, set_out, sets, sets-eq, take_all, take-take, length-take-le}
use lib.Dec.{leb, eqb}
use borrow.Author.Tests.{eq-eqb, ne_eqb, le-leb, lt-leb, leb-true, leb-false, eqb-true, eqb-false}
use Rattle.std.proofs.lemmas.List.{take_min}
use Rattle.std.specs.List.{list_all}
use Rattle.blocks.specs.Blocks.{shifted_within, subtracted, order_from, blocks_fill, are_sums, sums_within, all_between}

-- the first k numbers of a list that has n of them
pub cut : (l : List ℕ) (k n : ℕ) → n ≡ min k (length l) → take n l ≡ take k l
cut l k n e = ap (λ j. take j l) e ∙ take_min k l

pub none : (l : List ℕ) (k n : ℕ) → n ≡ min k (length l) → n ≡ 0 → take k l ≡ []
none l k n e h = sym (cut l k n e) ∙ ap (λ j. take j l) h

pub first_and : (l : List ℕ) (n : ℕ) → 0 < n → 0 < length l → take n l ≡ get_or l 0 0 ∷ take (n - 1) (drop 1 l)
first_and [] n h p = absurd (omega arith)
first_and (x ∷ l) n h p = let e : n ≡ suc (n - 1) = omega arith in ap (λ j. take j (x ∷ l)) e

front : (l : List ℕ) (k n : ℕ) → n ≡ min k (length l) → (n ≡ 0 → ⊥) → take k l ≡ get_or l 0 0 ∷ take (n - 1) (drop 1 l)
front l k n e h = sym (cut l k n e) ∙ first_and l n (omega arith) (omega arith)

-- what is stored past a table's end changes nothing
sets_past : (to : List ℕ) (i : ℕ) (vs : List ℕ) → length to ≤ i → sets to i vs ≡ to
sets_past to i [] h = refl
sets_past to i (v ∷ vs) h = rw (set_out to i v h) (sets_past to (suc i) vs (omega arith))

either : (a b : ℕ) (P : Type 0) → (a ≤ b → P) → (b < a → P) → P
either a b P f g = go (leb a b) refl
  where
    go : (t : Bool) → leb a b ≡ t → P
    go true e = f (leb-true a b e)
    go false e = g (leb-false a b e)

and_false : (t u : Bool) → u ≡ false → (t && u) ≡ false
and_false true u e = e
and_false false u e = refl

-- lists of unlike lengths fill nothing and are no sums
uneven_order : (s z last : ℕ) (ss zs : List ℕ) → (length zs ≡ length ss → ⊥) → order_from s z last ss zs ≡ false
unfolding order_from
uneven_order s z last [] [] h = absurd (h refl)
uneven_order s z last [] (y ∷ zs) h = refl
uneven_order s z last (x ∷ ss) [] h = refl
uneven_order s z last (x ∷ ss) (y ∷ zs) h = and_false (leb (s + z) x) (order_from x y last ss zs) (uneven_order x y last ss zs (λ e. h (omega arith)))

uneven_fill : (first last : ℕ) (ss zs : List ℕ) → (length zs ≡ length ss → ⊥) → blocks_fill first last ss zs ≡ false
unfolding blocks_fill
uneven_fill first last [] zs h = refl
uneven_fill first last (x ∷ ss) [] h = refl
uneven_fill first last (x ∷ ss) (y ∷ zs) h = and_false (eqb x first) (order_from x y last ss zs) (uneven_order x y last ss zs (λ e. h (omega arith)))

uneven_sums : (acc : ℕ) (qs zs : List ℕ) → (length zs ≡ length qs → ⊥) → are_sums acc qs zs ≡ false
unfolding are_sums
uneven_sums acc [] [] h = absurd (h refl)
uneven_sums acc [] (z ∷ zs) h = refl
uneven_sums acc (q ∷ qs) [] h = refl
uneven_sums acc (q ∷ qs) (z ∷ zs) h = and_false (eqb q acc) (are_sums (acc + z) qs zs) (uneven_sums (acc + z) qs zs (λ e. h (omega arith)))

module _ (xs ys : List ℕ) (k n m : ℕ) (en : n ≡ min k (length xs)) (em : m ≡ min k (length ys)) where
  uneven : (m ≡ n → ⊥) → length (take k ys) ≡ length (take k xs) → ⊥
  uneven h e = h (omega (arith, length-take k xs, length-take k ys))

  tails_even : m ≡ n → length (take (n - 1) (drop 1 ys)) ≡ length (take (n - 1) (drop 1 xs))
  tails_even e = omega (arith, length-take (n - 1) (drop 1 ys), length-take (n - 1) (drop 1 xs), length-drop 1 ys, length-drop 1 xs)

  module _ (first last : ℕ) where
    pub fill_uneven : (m ≡ n → ⊥) → false ≡ blocks_fill first last (take k xs) (take k ys)
    fill_uneven h = sym (uneven_fill first last (take k xs) (take k ys) (uneven h))

    pub fill_none : n ≡ 0 → false ≡ blocks_fill first last (take k xs) (take k ys)
    unfolding blocks_fill
    fill_none h = rw (none xs k n en h)

    module _ (e : m ≡ n) (some : n ≡ 0 → ⊥) where
      pub fill_off : (get_or xs 0 0 ≡ first → ⊥) → false ≡ blocks_fill first last (take k xs) (take k ys)
      unfolding blocks_fill
      fill_off h = rw (front xs k n en some, front ys k n (sym e ∙ em) some, ne_eqb (get_or xs 0 0) first h)

      pub fill_start : (rs rz : List ℕ) → rs ≡ take (n - 1) (drop 1 xs) → rz ≡ take (n - 1) (drop 1 ys) → get_or xs 0 0 ≡ first
          → (length rz ≡ length rs) × (order_from (get_or xs 0 0) (get_or ys 0 0) last rs rz ≡ blocks_fill first last (take k xs) (take k ys))
      unfolding blocks_fill
      fill_start rs rz a b h = (
        rw (a, b) (tails_even e),
        rw (a, b, front xs k n en some, front ys k n (sym e ∙ em) some, eq-eqb (get_or xs 0 0) first h),
      )

  pub sums_uneven : (m ≡ n → ⊥) → false ≡ are_sums 0 (take k xs) (take k ys)
  sums_uneven h = sym (uneven_sums 0 (take k xs) (take k ys) (uneven h))

  pub sums_none : m ≡ n → n ≡ 0 → true ≡ are_sums 0 (take k xs) (take k ys)
  unfolding are_sums
  sums_none e h = rw (none xs k n en h, none ys k m em (e ∙ h))

  module _ (e : m ≡ n) (some : n ≡ 0 → ⊥) where
    pub sums_off : (get_or xs 0 0 ≡ 0 → ⊥) → false ≡ are_sums 0 (take k xs) (take k ys)
    unfolding are_sums
    sums_off h = rw (front xs k n en some, front ys k n (sym e ∙ em) some, ne_eqb (get_or xs 0 0) 0 h)

    pub sums_start : (rq rz : List ℕ) → rq ≡ take (n - 1) (drop 1 xs) → rz ≡ take (n - 1) (drop 1 ys) → get_or xs 0 0 ≡ 0
        → (length rz ≡ length rq) × (are_sums (get_or xs 0 0 + get_or ys 0 0) rq rz ≡ are_sums 0 (take k xs) (take k ys))
    unfolding are_sums
    sums_start rq rz a b h = (rw (a, b) (tails_even e), rw (a, b, front xs k n en some, front ys k n (sym e ∙ em) some, h))

-- the blocks that are left after one, and the answer for all
module _ (s z last : ℕ) (rs rz : List ℕ) (all : Bool) (inv : order_from s z last rs rz ≡ all) where
  module _ (x y : ℕ) (rs' rz' : List ℕ) (st : (rs ≡ x ∷ rs') × (rz ≡ y ∷ rz')) where
    step : (leb (s + z) x && order_from x y last rs' rz') ≡ all
    unfolding order_from
    step = rw (st.0, st.1) at inv

    pub fill_before : x < s → false ≡ all
    fill_before l = rw (lt-leb (s + z) x (omega arith)) at step

    pub fill_within : s ≤ x → x - s < z → false ≡ all
    fill_within p l = rw (lt-leb (s + z) x (omega arith)) at step

    pub fill_more : length rz ≡ length rs → s ≤ x → z ≤ x - s → (length rz' ≡ length rs') × (order_from x y last rs' rz' ≡ all)
    fill_more q p l = (omega (arith, ap length st.0, ap length st.1), rw (le-leb (s + z) x (omega arith)) at step)

  module _ (st : (rs ≡ []) × (rz ≡ [])) where
    done : eqb (s + z) last ≡ all
    unfolding order_from
    done = rw (st.0, st.1) at inv

    pub fill_past : last < s → false ≡ all
    fill_past l = rw (ne_eqb (s + z) last (λ q. omega arith)) at done

    pub fill_done : s ≤ last → eqb (last - s) z ≡ all
    fill_done l = same (eqb (last - s) z) refl ∙ done
      where
        same : (t : Bool) → eqb (last - s) z ≡ t → eqb (last - s) z ≡ eqb (s + z) last
        same true q = let p = eqb-true (last - s) z q in q ∙ sym (eq-eqb (s + z) last (omega arith))
        same false q = q ∙ sym (ne_eqb (s + z) last (λ p. eqb-false (last - s) z q (omega arith)))

-- the sums that are left after one, and the answer for all
module _ (q z : ℕ) (rq rz : List ℕ) (all : Bool) (inv : are_sums (q + z) rq rz ≡ all) where
  module _ (x y : ℕ) (rq' rz' : List ℕ) (st : (rq ≡ x ∷ rq') × (rz ≡ y ∷ rz')) where
    next : (eqb x (q + z) && are_sums (q + z + y) rq' rz') ≡ all
    unfolding are_sums
    next = rw (st.0, st.1) at inv

    pub sums_before : x < q → false ≡ all
    sums_before l = rw (ne_eqb x (q + z) (λ p. omega arith)) at next

    pub sums_other : q ≤ x → (x - q ≡ z → ⊥) → false ≡ all
    sums_other p l = rw (ne_eqb x (q + z) (λ h. l (omega arith))) at next

    pub sums_more : length rz ≡ length rq → q ≤ x → x - q ≡ z → (length rz' ≡ length rq') × (are_sums (x + y) rq' rz' ≡ all)
    sums_more h p l =
        let e : x ≡ q + z = omega arith in
        let t : are_sums (q + z + y) rq' rz' ≡ all = rw (eq-eqb x (q + z) e) at next in
        (omega (arith, ap length st.0, ap length st.1), rw e t)

  pub sums_done : (rq ≡ []) × (rz ≡ []) → true ≡ all
  unfolding are_sums
  sums_done st = rw (st.0, st.1) at inv

pub between_list : (least most : ℕ) (l : List ℕ) → list_all (λ v. leb least v && leb v most) l ≡ all_between least most l
unfolding all_between
between_list least most [] = refl
between_list least most (v ∷ l) = ap (λ t. (leb least v && leb v most) && t) (between_list least most l)

-- numbers stored from a table's front on, as far as it reaches, are its new front
sets_reach : (to : List ℕ) (i : ℕ) (vs : List ℕ) → sets to i vs ≡ sets to i (take (length to - i) vs)
sets_reach to i [] = rw (take_all {A = ℕ} (length to - i) [] (omega arith))
sets_reach to i (v ∷ vs) =
    let again = sets_reach (set to i v) (suc i) vs in
    either (length to) i _
    (λ h. sets_past to i (v ∷ vs) h ∙ sym (sets_past to i (take (length to - i) (v ∷ vs)) h))
    (λ h. let n : length to - i ≡ suc (length (set to i v) - suc i) = rw length-set (omega arith) in again ∙ ap (λ j. sets to i (take j (v ∷ vs))) (sym n))

pub copied : (l : List ℕ) (k n m : ℕ) (to new : List ℕ) → n ≡ min k (length l) → m ≡ min n (length to) → new ≡ take m l → new ++ drop m to ≡ sets to 0 (take k l)
copied l k n m to new en em e =
    let q : length (take n l) ≡ n = length-take-le n l (omega arith) in
    let a : take (length to - 0) (take n l) ≡ take m l = shorter (length to - 0) (omega arith) in
    let b : 0 + length (take m l) ≡ m = omega (arith, length-take-le m l (omega arith)) in
    let s : sets to 0 (take m l) ≡ take m l ++ drop m to = sets-eq (take m l) to 0 (omega arith) ∙ ap (λ j. take m l ++ drop j to) b in
    rw e (sym s ∙ ap (sets to 0) (sym a) ∙ sym (sets_reach to 0 (take n l)) ∙ ap (sets to 0) (cut l k n en))
  where
    shorter : (j : ℕ) → m ≡ min n j → take j (take n l) ≡ take m l
    shorter j h = either n j _
        (λ p. let x : n ≡ m = omega arith in take_all j (take n l) (rw length-take (omega arith)) ∙ ap (λ i. take i l) x)
        (λ p. let x : j ≡ m = omega arith in take-take j n l (omega arith) ∙ ap (λ i. take i l) x)

-- what is stored from a place of a list on, and what the table comes to
module _ (l : List ℕ) (i : ℕ) (to all : List ℕ) where
  row : i < length l → drop i l ≡ get_or l i 0 ∷ drop (i + 1) l
  row h = drop-cons l i 0 h ∙ rw (add-one i)

  module _ (most sum : ℕ) (inv : sets to i (sums_within most sum (drop i l)) ≡ all) where
    module _ (h : i < length l) (to' : List ℕ) (e : to' ≡ set to i sum) where
      pub put_over : most - sum < get_or l i 0 → to' ≡ all
      unfolding sums_within
      put_over p = e ∙ rw (row h, lt-leb (sum + get_or l i 0) most (omega arith)) at inv

      pub put_more : sum ≤ most → get_or l i 0 ≤ most - sum → sets to' (i + 1) (sums_within most (sum + get_or l i 0) (drop (i + 1) l)) ≡ all
      unfolding sums_within
      put_more q p = rw (e, add-one i) (rw (row h, le-leb (sum + get_or l i 0) most (omega arith), add-one i) at inv)

    pub put_done : length l ≤ i → to ≡ all
    unfolding sums_within
    put_done h = rw (drop_of_length-le l h) at inv

  -- numbers moved up or down, one by one
  module _ (most by : ℕ) (inv : sets to i (shifted_within most by (drop i l)) ≡ all) where
    module _ (h : i < length l) where
      pub shift_over : most - by < get_or l i 0 → to ≡ all
      unfolding shifted_within
      shift_over p = rw (row h, lt-leb (by + get_or l i 0) most (omega arith)) at inv

      pub shift_more : (to' : List ℕ) → by ≤ most → get_or l i 0 ≤ most - by → to' ≡ set to i (by + get_or l i 0) → sets to' (i + 1) (shifted_within most by (drop (i + 1) l)) ≡ all
      unfolding shifted_within
      shift_more to' q p e = rw (e, add-one i) (rw (row h, le-leb (by + get_or l i 0) most (omega arith), add-one i) at inv)

    pub shift_done : length l ≤ i → to ≡ all
    unfolding shifted_within
    shift_done h = rw (drop_of_length-le l h) at inv

  module _ (by : ℕ) (inv : sets to i (subtracted by (drop i l)) ≡ all) where
    pub less_more : i < length l → (to' : List ℕ) (v : ℕ) → to' ≡ set to i v → v ≡ get_or l i 0 - by → sets to' (i + 1) (subtracted by (drop (i + 1) l)) ≡ all
    unfolding subtracted
    less_more h to' v e ev = rw (e, ev, add-one i) (rw (row h, add-one i) at inv)

    pub less_done : length l ≤ i → to ≡ all
    unfolding subtracted
    less_done h = rw (drop_of_length-le l h) at inv
