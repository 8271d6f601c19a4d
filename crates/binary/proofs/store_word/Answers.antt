-- A copy of the eight bytes over their part of the buffer. Assumes nothing.
use mathlib.Core.Path.{◌∙◌}
use native.Mathlib.Omega.{arith}
use Rattle.binary.proofs.WordLaws.{word_stored}
use Rattle.binary.proofs.store_word.Goals as goal

pub returns : goal.returns
returns c = word_stored _ _ _ _ _ c.requires (omega arith) (c.copy_from_slice.ensures.after ∙ c.to_le_bytes.ensures)
