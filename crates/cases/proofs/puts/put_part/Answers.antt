-- The place, then the length. Assumes nothing.
use Rattle.writing.proofs.PutLaws.{put_then}
use Rattle.cases.proofs.puts.put_part.Goals as goal

pub returns : goal.returns
returns c = search put_then
