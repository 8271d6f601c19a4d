-- Whatever stores the rows of the regions from here on completes the whole. Assumes nothing.
use mathlib.Core.Path.{◌≡◌}
use mathlib.Core.List.{map}
use Prim.Native.Nat.{◌-◌, ◌*◌, ◌≤◌}
use lib.ListN.{length}
use Rattle.ledger.specs.Limits.{largest_place}
use Rattle.blocks.specs.Rows.{table_of}
use Rattle.writing.proofs.PutLaws.{Completes}
use Rattle.region.specs.Tallies.{sent_through}
use Rattle.region.specs.Batches.{answer_rows, sent_as, region_size, row_size, regions_from, rows_bytes}
use Rattle.region.proofs.put_rows.Given as goal

abbrev pub invariant-loop-i : goal.invariant-loop-i
invariant-loop-i l = (length l.out ≡ length l.initial.out) × (length l.out ≤ largest_place)
    × (sent_through l.t (map (sent_as l.c (table_of l.targets l.queries l.sizes)) (regions_from (l.m - l.i) l.regions (region_size * l.i))) ≡ sent_through l.initial.t (map (sent_as l.c (table_of l.targets l.queries l.sizes)) (regions_from l.m l.regions 0)))
    × Completes (rows_bytes (answer_rows l.t (map (sent_as l.c (table_of l.targets l.queries l.sizes)) (regions_from (l.m - l.i) l.regions (region_size * l.i))))) (row_size * l.i) l.out (rows_bytes (answer_rows l.initial.t (map (sent_as l.c (table_of l.targets l.queries l.sizes)) (regions_from l.m l.regions 0)))) 0 l.initial.out
