-- Refused, or the standard text of the record. Assumes nothing.
use Rattle.entries.specs.Entries.{formatted_psl}
use Rattle.entries.proofs.EntryLaws.{psl_refused, psl_wide, format_psl_accepted}
use Rattle.entries.proofs.format_psl.Goals as goal

pub write_psl-requires : goal.write_psl-requires
write_psl-requires c = search psl_wide

pub returns-in-Err : goal.returns-in-Err
unfolding formatted_psl
returns-in-Err c = search psl_refused

pub returns-in-Ok : goal.returns-in-Ok
returns-in-Ok c = search format_psl_accepted
