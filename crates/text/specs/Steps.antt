-- For private contracts: what a stage of a reader promises. Not a definition of a format.
use Rattle.std.specs.Prelude.{◌≡◌, List, ℕ}

-- its answer, and what its working room holds of a record that it read
pub record Staged {R A : Type 0} (acc : R → A) (Held : R → List ℕ → Type 0) (answer : A) (room : List ℕ) (x : A) : Type 0 where
  pub is : x ≡ answer
  pub held : (r : R) → x ≡ acc r → Held r room
