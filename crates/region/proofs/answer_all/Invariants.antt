-- Rows up to i are written, and the tally is that after them. Assumes nothing.
use mathlib.Core.Path.{◌≡◌}
use mathlib.Core.List.{◌++◌, map}
use lib.ListN.{length, take, drop}
use Rattle.blocks.specs.Rows.{table_of}
use Rattle.region.specs.Tallies.{sent_through}
use Rattle.region.specs.Batches.{answer_rows, sent_as}
use Rattle.region.proofs.answer_all.Given as goal

abbrev pub invariant-loop-i : goal.invariant-loop-i
invariant-loop-i l = (length l.answers ≡ length l.initial.answers)
    × (sent_through l.t (map (sent_as l.c (table_of l.targets l.queries l.sizes)) (drop l.i l.regions)) ≡ sent_through l.initial.t (map (sent_as l.c (table_of l.targets l.queries l.sizes)) l.regions))
    × (take l.i l.answers ++ (answer_rows l.t (map (sent_as l.c (table_of l.targets l.queries l.sizes)) (drop l.i l.regions)) ++ drop (length l.regions) l.answers)
    ≡ answer_rows l.initial.t (map (sent_as l.c (table_of l.targets l.queries l.sizes)) l.regions) ++ drop (length l.regions) l.initial.answers)
