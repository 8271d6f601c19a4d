-- The writer's text and its answer. Assumes nothing.
use Rattle.answers.proofs.AnswerLaws.{part_count}
use Rattle.entries.proofs.WriteLaws.{chain_written_lem}
use Rattle.entries.proofs.write_chain.Goals as goal

pub slice_bounds-write_chain-end : goal.slice_bounds-write_chain-end
slice_bounds-write_chain-end c = search part_count

pub slice_bounds-write_chain-end-2 : goal.slice_bounds-write_chain-end-2
slice_bounds-write_chain-end-2 c = search part_count

pub slice_bounds-write_chain-end-3 : goal.slice_bounds-write_chain-end-3
slice_bounds-write_chain-end-3 c = search part_count

pub returns : goal.returns
returns c = search chain_written_lem
