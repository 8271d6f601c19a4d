-- Refused, or the standard text of the record. Assumes nothing.
use Rattle.entries.specs.Entries.{formatted_bed}
use Rattle.entries.proofs.EntryLaws.{bed_refused, bed_wide, format_bed_accepted}
use Rattle.entries.proofs.format_long_bed.Goals as goal

pub write_bed-requires : goal.write_bed-requires
write_bed-requires c = search bed_wide

pub returns-in-Err : goal.returns-in-Err
unfolding formatted_bed
returns-in-Err c = search bed_refused

pub returns-in-Ok : goal.returns-in-Ok
returns-in-Ok c = search format_bed_accepted
