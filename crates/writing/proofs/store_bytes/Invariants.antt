-- Storing the bytes that are left makes the whole. Assumes nothing.
use Rattle.writing.proofs.StoreLaws.{Storing}
use Rattle.writing.proofs.store_bytes.Given as goal

abbrev pub invariant-loop-i : goal.invariant-loop-i
invariant-loop-i l = Storing l.bytes l.at l.initial.buf l.i l.buf
