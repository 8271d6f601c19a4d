-- Storing the rows of what a reader accepts, for any format. Assumes nothing.
use mathlib.Core.Path.{◌≡◌, sym, ap, ◌∙◌}
use mathlib.Core.List.{List}
use Prim.Native.Nat.{ℕ, ◌≤◌, ◌<◌}
use lib.ListN.{length}
use lib.Seq.{sets}
use borrow.Author.Tests.{le-leb, lt-leb}
use Rattle.ledger.specs.declared.Reason.TheVariants.{NoRoom}
use Rattle.ledger.specs.declared.Fault.{Fault}
use Rattle.ledger.specs.Refusals.{fault_at}
use Rattle.text.specs.Checks.{then_check, room_check}
use Rattle.blocks.specs.Readers.{RowsRead}

-- the room decides
module _ {A : Type 0} (stop : Fault → A) (s : List ℕ) (count room : ℕ) (a : A) where
  pub room_short : room < count → stop (fault_at NoRoom (length s)) ≡ then_check stop (room_check s count room) a
  room_short h = rw (lt-leb count room h)

  pub room_enough : count ≤ room → a ≡ then_check stop (room_check s count room) a
  room_enough h = rw (le-leb count room h)

-- an answer that holds no record leaves the slices, and one that holds one stores its rows
module _ {R A : Type 0} (on : (X : Type 0) → A → (R → X) → X → X) (answer : A) (xs ys ws : R → List ℕ) (ts qs zs : List ℕ) where
  pub rows_left : (x : A) → ((X : Type 0) (f : R → X) (y : X) → on X x f y ≡ y) → x ≡ answer → RowsRead on answer xs ys ws ts ts qs qs zs zs x
  rows_left x none e = record { is = e; targets = sym (none (List ℕ) _ ts); queries = sym (none (List ℕ) _ qs); sizes = sym (none (List ℕ) _ zs) }

  pub rows_stored : (x : A) (r : R) → ((X : Type 0) (f : R → X) (y : X) → on X x f y ≡ f r) → x ≡ answer → (ts' qs' zs' : List ℕ) → ts' ≡ sets ts 0 (xs r) → qs' ≡ sets qs 0 (ys r) → zs' ≡ sets zs 0 (ws r)
      → RowsRead on answer xs ys ws ts ts' qs qs' zs zs' x
  rows_stored x r some e ts' qs' zs' et eq ez = record { is = e; targets = et ∙ sym (some (List ℕ) _ ts); queries = eq ∙ sym (some (List ℕ) _ qs); sizes = ez ∙ sym (some (List ℕ) _ zs) }

-- an answer told in another type, that holds the same record or none, leaves the same rows
pub rows_told : {R A B : Type 0} (on : (X : Type 0) → A → (R → X) → X → X) (onTold : (X : Type 0) → B → (R → X) → X → X) (tell : A → B) → ((X : Type 0) (x : A) (f : R → X) (y : X) → onTold X (tell x) f y ≡ on X x f y)
    → (answer : A) (xs ys ws : R → List ℕ) (ts ts' qs qs' zs zs' : List ℕ) (x : A) → RowsRead on answer xs ys ws ts ts' qs qs' zs zs' x → RowsRead onTold (tell answer) xs ys ws ts ts' qs qs' zs zs' (tell x)
rows_told on onTold tell same answer xs ys ws ts ts' qs qs' zs zs' x h = record {
  is = ap tell h.is;
  targets = h.targets ∙ sym (same (List ℕ) x _ ts);
  queries = h.queries ∙ sym (same (List ℕ) x _ qs);
  sizes = h.sizes ∙ sym (same (List ℕ) x _ zs);
}
