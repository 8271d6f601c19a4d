-- A part of the bytes. Assumes nothing.
use Rattle.region.proofs.ByteLaws.{part_row}
use Rattle.region.proofs.put_row.Goals as goal

pub returns : goal.returns
returns c = search part_row
