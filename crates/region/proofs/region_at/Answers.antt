-- A part of the bytes. Assumes nothing.
use Rattle.region.proofs.ByteLaws.{part_words}
use Rattle.region.proofs.region_at.Goals as goal

pub returns : goal.returns
returns c = search part_words
