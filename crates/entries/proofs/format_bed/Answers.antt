-- The text itself, or the long way. Assumes nothing.
use Rattle.entries.proofs.QuickLaws.{format_copied}
use Rattle.entries.proofs.format_bed.Goals as goal

pub returns-then-is_standard : goal.returns-then-is_standard
returns-then-is_standard c = search format_copied
