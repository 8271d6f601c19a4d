-- The lines from row i on complete the text. Assumes nothing.
use Rattle.chain.proofs.WriteLaws.{Lining}
use Rattle.chain.proofs.put_blocks.Given as goal

abbrev pub invariant-loop-i : goal.invariant-loop-i
invariant-loop-i l = Lining l.targets l.queries l.sizes l.at l.last l.initial.buf l.buf l.p l.i
