-- The reason, then the place. Assumes nothing.
use Rattle.writing.proofs.PutLaws.{put_then}
use Rattle.cases.proofs.puts.put_refusal.Goals as goal

pub returns : goal.returns
returns c = search put_then
