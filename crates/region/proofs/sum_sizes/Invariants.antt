-- The sums before the blocks up to i are there. Assumes nothing.
use mathlib.Core.Path.{◌≡◌}
use Prim.Native.Nat.{ℕ, ◌<◌}
use lib.ListN.{length, get_or}
use Rattle.ledger.specs.Limits.{block_limit}
use Rattle.region.specs.Searches.{sizes_before}
use Rattle.region.proofs.sum_sizes.Given as goal

abbrev pub invariant-loop-i : goal.invariant-loop-i
invariant-loop-i l = (length l.before ≡ block_limit) × (l.sum ≡ sizes_before l.sizes l.i) × ((k : ℕ) → k < l.i → get_or l.before k 0 ≡ sizes_before l.sizes k)
