-- Refused, or the standard text of the record. Assumes nothing.
use Rattle.entries.specs.Entries.{formatted_chain}
use Rattle.entries.proofs.EntryLaws.{chain_refused, chain_wide, format_chain_accepted}
use Rattle.entries.proofs.format_chain.Goals as goal

pub write_chain-requires : goal.write_chain-requires
write_chain-requires c = search chain_wide

pub returns-in-Err : goal.returns-in-Err
unfolding formatted_chain
returns-in-Err c = search chain_refused

pub returns-in-Ok : goal.returns-in-Ok
returns-in-Ok c = search format_chain_accepted
