-- The same rules stated one by one, with no order of tests in them.
use Rattle.std.specs.Prelude.{ℕ, ◌+◌, ◌-◌, ◌≤◌, ◌<◌, ◌≡◌, List, length, get_or}
use Rattle.ledger.specs.Limits.{block_limit, largest_position}

-- n blocks with starts ss and sizes zs fill the span from first to last
pub record Fills (first last n : ℕ) (ss zs : List ℕ) : Type 0 where
  pub some : 1 ≤ n
  pub first_start : get_or ss 0 0 ≡ first
  pub order : (i : ℕ) → i + 1 < n → get_or ss i 0 + get_or zs i 0 ≤ get_or ss (i + 1) 0
  pub last_end : get_or ss (n - 1) 0 + get_or zs (n - 1) 0 ≡ last

-- the numbers qs are the sums of the sizes before each block
pub record Sums (n : ℕ) (qs zs : List ℕ) : Type 0 where
  pub first_sum : 1 ≤ n → get_or qs 0 0 ≡ 0
  pub next_sum : (i : ℕ) → i + 1 < n → get_or qs (i + 1) 0 ≡ get_or qs i 0 + get_or zs i 0

-- n numbers lie in a range
pub record Ranged (least most n : ℕ) (vs : List ℕ) : Type 0 where
  pub low : (i : ℕ) → i < n → least ≤ get_or vs i 0
  pub high : (i : ℕ) → i < n → get_or vs i 0 ≤ most

-- the first n rows of three slices are in use: what the records of all formats share
pub record RowsInUse (n : ℕ) (ts qs zs : List ℕ) : Type 0 where
  pub some_block : 1 ≤ n
  pub few_blocks : n ≤ block_limit
  pub target_rows : n ≤ length ts
  pub query_rows : n ≤ length qs
  pub size_rows : n ≤ length zs
  pub target_range : Ranged 0 largest_position n ts
  pub query_range : Ranged 0 largest_position n qs
  pub size_range : Ranged 1 largest_position n zs
