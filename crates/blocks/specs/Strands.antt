-- One conversion to the other strand: a span from start to end, of a sequence of some size, told on a strand. On `-` it is told by
-- its distance from the far end; on `+`, and where no strand is told, as it is.
use Rattle.std.specs.Prelude.{ℕ, ◌-◌}
use Rattle.ledger.specs.declared.Strand.{Strand}
use Rattle.ledger.specs.declared.Strand.TheVariants.{Plus, Minus, Dot}

abbrev pub strand_start : Strand → ℕ → ℕ → ℕ → ℕ
strand_start Plus size start end = start
strand_start Minus size start end = size - end
strand_start Dot size start end = start

abbrev pub strand_end : Strand → ℕ → ℕ → ℕ → ℕ
strand_end Plus size start end = end
strand_end Minus size start end = size - start
strand_end Dot size start end = end
