-- Storing the numbers that are left makes the whole. Assumes nothing.
use Rattle.binary.proofs.WordLaws.{Storing}
use Rattle.binary.proofs.store_words.Given as goal

abbrev pub invariant-loop-i : goal.invariant-loop-i
invariant-loop-i l = Storing l.vs l.at l.initial.buf l.i l.buf
