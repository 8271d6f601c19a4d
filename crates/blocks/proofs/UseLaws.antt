-- The tests of the rows in use, and the rules about them, say the same. Assumes nothing.
use mathlib.Core.Path.{◌≡◌}
use mathlib.Core.Bool.{true}
use mathlib.Core.List.{List}
use Prim.Native.Nat.{ℕ, ◌≤◌}
use native.Mathlib.Omega.{arith}
use lib.ListN.{length, take}
use lib.Seq.{length-take-le}
use lib.Dec.{leb}
use borrow.Author.Tests.{leb-true, le-leb}
use Rattle.ledger.specs.Limits.{block_limit, largest_position}
use Rattle.text.proofs.TextLaws.{both}
use Rattle.blocks.specs.Blocks.{rows_of, count_fits, all_between, row_numbers_fit}
use Rattle.blocks.specs.Rules.{RowsInUse}
use Rattle.blocks.proofs.RuleLaws.{ranged_of, ranged_is}
use Rattle.blocks.proofs.TakeLaws.{ranged_take, ranged_back}

module _ (n : ℕ) (ts qs zs : List ℕ) where
  pub use_of : count_fits n (rows_of ts qs zs) ≡ true → row_numbers_fit (take n ts) (take n qs) (take n zs) ≡ true → RowsInUse n ts qs zs
  unfolding row_numbers_fit
  use_of counts numbers =
      let some = both (leb 1 n) _ counts in
      let few = both (leb n block_limit) (leb n (rows_of ts qs zs)) some.1 in
      let held = leb-true n (rows_of ts qs zs) few.1 in
      let ht : n ≤ length ts = omega arith in
      let hq : n ≤ length qs = omega arith in
      let hz : n ≤ length zs = omega arith in
      let targets = both (all_between 0 largest_position (take n ts)) _ numbers in
      let queries = both (all_between 0 largest_position (take n qs)) (all_between 1 largest_position (take n zs)) targets.1 in
      record {
        some_block = leb-true 1 n some.0;
        few_blocks = leb-true n block_limit few.0;
        target_rows = ht;
        query_rows = hq;
        size_rows = hz;
        target_range = ranged_back 0 largest_position n ts (ranged_of 0 largest_position n (take n ts) (length-take-le n ts ht) targets.0);
        query_range = ranged_back 0 largest_position n qs (ranged_of 0 largest_position n (take n qs) (length-take-le n qs hq) queries.0);
        size_range = ranged_back 1 largest_position n zs (ranged_of 1 largest_position n (take n zs) (length-take-le n zs hz) queries.1);
      }

  module _ (u : RowsInUse n ts qs zs) where
    pub use_counts : count_fits n (rows_of ts qs zs) ≡ true
    use_counts =
        let held : n ≤ rows_of ts qs zs = omega (arith, u.target_rows, u.query_rows, u.size_rows) in
        rw (le-leb 1 n u.some_block, le-leb n block_limit u.few_blocks, le-leb n (rows_of ts qs zs) held)

    pub use_numbers : row_numbers_fit (take n ts) (take n qs) (take n zs) ≡ true
    unfolding row_numbers_fit
    use_numbers =
        rw (
          ranged_is 0 largest_position n (take n ts) (length-take-le n ts u.target_rows) (ranged_take 0 largest_position n ts u.target_range),
          ranged_is 0 largest_position n (take n qs) (length-take-le n qs u.query_rows) (ranged_take 0 largest_position n qs u.query_range),
          ranged_is 1 largest_position n (take n zs) (length-take-le n zs u.size_rows) (ranged_take 1 largest_position n zs u.size_range),
        )
