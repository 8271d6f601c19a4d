-- Refused, or the record's numbers and its rows. Assumes nothing.
use Rattle.entries.proofs.EntryLaws.{bed_refused, parse_bed_accepted}
use Rattle.entries.specs.Entries.{parsed_bed}
use Rattle.entries.proofs.parse_long_bed.Goals as goal

pub returns-in-Err : goal.returns-in-Err
unfolding parsed_bed
returns-in-Err c = search bed_refused

pub returns-in-Ok : goal.returns-in-Ok
returns-in-Ok c = search parse_bed_accepted
