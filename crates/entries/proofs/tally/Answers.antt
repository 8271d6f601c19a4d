-- A chain's text, then the tally's step. Assumes nothing.
use Rattle.entries.specs.Entries.{tallied}
use Rattle.entries.proofs.EntryLaws.{chain_refused, chain_wide}
use Rattle.entries.proofs.TallyLaws.{tally_answered}
use Rattle.entries.proofs.tally.Goals as goal

pub answer_tally-requires : goal.answer_tally-requires
answer_tally-requires c = search chain_wide

pub returns-in-Err : goal.returns-in-Err
unfolding tallied
returns-in-Err c = search chain_refused

pub returns-in-Ok : goal.returns-in-Ok
returns-in-Ok c = search tally_answered
