-- The text's end, or a byte of no word. Assumes nothing.
use Rattle.numbers.proofs.is_word_end.Goals as goal

pub returns : goal.returns
returns c = rw (c.is_in.ensures, c.byte_at.ensures)
