-- Inside the buffer the byte is stored; outside it nothing is. Assumes nothing.
use Rattle.writing.proofs.PutLaws.{byte_out}
use borrow.Author.Rules.{rules}
use Rattle.writing.proofs.put_byte.Goals as goal

pub returns : goal.returns
returns c = record { next = search rules; stored = search byte_out; room = search rules }
