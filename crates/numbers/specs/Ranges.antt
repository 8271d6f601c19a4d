-- Lists of numbers within a least and a greatest value.
use Rattle.std.specs.Prelude.{ℕ, ◌≤◌, List, [], ◌∷◌}

pub data Between (least most : ℕ) : List ℕ → Type 0 where
  between_none : Between least most []
  between_more : {v : ℕ} {vs : List ℕ} → least ≤ v → v ≤ most → Between least most vs → Between least most (v ∷ vs)
