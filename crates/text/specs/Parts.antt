-- A part of a text, as a record holds a name: its first byte and its length.
use Rattle.std.specs.Prelude.{ℕ, ◌+◌, ◌≤◌, cond, ◌≡◌, List, length, take, drop, leb}
use Rattle.ledger.specs.declared.Part.{Part}

-- the part itself where it lies in the text, else the empty part at the text's end
unfoldable pub part_in : List ℕ → Part → Part
part_in s p = cond (leb (p.start + p.length) (length s)) p (record { start = length s; length = 0 })

-- the bytes of a part
unfoldable pub part_bytes : List ℕ → Part → List ℕ
part_bytes s p = take p.length (drop p.start s)

-- what finding it promises: the part, and that it lies in the text, which follows
pub record PartIn (s : List ℕ) (p r : Part) : Type 0 where
  pub is : r ≡ part_in s p
  pub inside : r.start + r.length ≤ length s
