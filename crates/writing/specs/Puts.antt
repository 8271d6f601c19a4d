-- Storing bytes in a buffer from a place on: as far as the buffer reaches, with the place after them.
use Rattle.std.specs.Prelude.{ℕ, ◌+◌, ◌≤◌, min, ◌≡◌, List, length}
use Rattle.std.proofs.lemmas.List.Edits.{sets}
use Rattle.ledger.specs.Limits.{largest_place}

-- the place so many bytes on
abbrev pub onward : ℕ → ℕ → ℕ
onward at n = min (at + n) largest_place

-- what storing bytes promises: the place after them, and the buffer with them in it. With an empty buffer the place after them is their length.
pub record Put (bytes : List ℕ) (at : ℕ) (before after : List ℕ) (r : ℕ) : Type 0 where
  pub next : r ≡ onward at (length bytes)
  pub stored : after ≡ sets before at bytes
  pub room : length before ≤ largest_place
