-- A part of a text by its first byte and its length.
use Rattle.std.specs.Prelude.{ℕ}
use Rattle.ledger.specs.declared.Part.{Part}

abbrev pub part_at : ℕ → ℕ → Part
part_at start length = record { start = start; length = length }
