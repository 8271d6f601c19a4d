-- A format's reader, for any format: after its checks the room, and what it leaves in the three slices that are lent for the rows.
-- A format's answers are given by `on`: what follows from an accepted record, and what else.
use Rattle.std.specs.Prelude.{ℕ, ◌≡◌, List}
use Rattle.std.proofs.lemmas.List.Edits.{sets}
use Rattle.ledger.specs.declared.Fault.{Fault}
use Rattle.text.specs.Checks.{then_check, room_check}

-- after an accepted record, the room for its blocks (11)
abbrev pub then_room : {R A : Type 0} → ((X : Type 0) → A → (R → X) → X → X) → (Fault → A) → (R → ℕ) → List ℕ → ℕ → A → A
then_room {A = A} on stop blocks s room a = on A a (λ r. then_check stop (room_check s (blocks r) room) a) a

-- what a lent slice holds then: an accepted record's numbers from its front, or what it held
abbrev pub rows_after : {R A : Type 0} → ((X : Type 0) → A → (R → X) → X → X) → A → (R → List ℕ) → List ℕ → List ℕ
rows_after on a numbers before = on (List ℕ) a (λ r. sets before 0 (numbers r)) before

-- the rows that an answer fills
abbrev pub rows_filled : {R A : Type 0} → ((X : Type 0) → A → (R → X) → X → X) → (R → ℕ) → A → ℕ
rows_filled on blocks a = on ℕ a blocks 0

-- what a reader promises: the answer, and the three slices, whose numbers are given by the accepted record
pub record RowsRead {R A : Type 0} (on : (X : Type 0) → A → (R → X) → X → X) (answer : A) (targetsBy queriesBy sizesBy : R → List ℕ) (ts ts' qs qs' zs zs' : List ℕ) (x : A) : Type 0 where
  pub is : x ≡ answer
  pub targets : ts' ≡ rows_after on x targetsBy ts
  pub queries : qs' ≡ rows_after on x queriesBy qs
  pub sizes : zs' ≡ rows_after on x sizesBy zs
