-- The turn with room for any record's blocks. Assumes nothing.
use Rattle.answers.proofs.AnswerLaws.{part_count}
use Rattle.entries.proofs.TurnLaws.{turned_staged}
use Rattle.entries.proofs.stage_turned.Goals as goal

pub slice_bounds-turn_chain-end : goal.slice_bounds-turn_chain-end
slice_bounds-turn_chain-end c = search part_count

pub slice_bounds-turn_chain-end-2 : goal.slice_bounds-turn_chain-end-2
slice_bounds-turn_chain-end-2 c = search part_count

pub slice_bounds-turn_chain-end-3 : goal.slice_bounds-turn_chain-end-3
slice_bounds-turn_chain-end-3 c = search part_count

pub returns : goal.returns
returns c = search turned_staged
