-- The four numbers of the spans, and the other fields exchanged. Assumes nothing.
use Rattle.turn.proofs.FillLaws.{record_turned}
use Rattle.turn.proofs.turn_record.Goals as goal

pub returns : goal.returns
returns c = search record_turned
