-- How blocks are found: by halving over the starts, and for a batch by two columns that are made once. The reach found is that of Reaches.antt.
use Rattle.std.specs.Prelude.{ℕ, zero, suc, ◌+◌, ◌≤◌, ◌<◌, ◌≡◌, List, [], ◌∷◌, length, get_or}
use Rattle.ledger.specs.Limits.{block_limit, largest_position}
use Rattle.chain.specs.declared.Chain.{Chain}
use Rattle.lift.specs.Accepted.{Ready}

-- the first n numbers of a column that halving goes over: they rise
pub record Rising (xs : List ℕ) (n : ℕ) : Type 0 where
  pub some : 1 ≤ n
  pub wide : n ≤ length xs
  pub rises : (k l : ℕ) → k ≤ l → l < n → get_or xs k 0 ≤ get_or xs l 0
  pub small : (k : ℕ) → k < n → get_or xs k 0 ≤ largest_position

-- the last of the first n places of a column whose number is below p, or the first place
pub record LastBelow (xs : List ℕ) (n p r : ℕ) : Type 0 where
  pub inside : r < n
  pub below : 1 ≤ r → get_or xs r 0 < p
  pub past : (k : ℕ) → r < k → k < n → p ≤ get_or xs k 0

-- block h where it ends past p, else the next
pub record BlockPast (h end p r : ℕ) : Type 0 where
  pub this : p < end → r ≡ h
  pub next : end ≤ p → r ≡ h + 1

-- of n blocks, those from i to j meet the bases a to e − 1
pub record Meets (n : ℕ) (ts zs : List ℕ) (a e i j : ℕ) : Type 0 where
  pub order : i ≤ j
  pub inside : j < n
  pub earlier : (k : ℕ) → k < i → get_or ts k 0 + get_or zs k 0 ≤ a
  pub first : a < get_or ts i 0 + get_or zs i 0
  pub last : get_or ts j 0 < e
  pub later : (k : ℕ) → j < k → k < n → e ≤ get_or ts k 0

-- the sum of the sizes before block k
unfoldable pub sizes_before : List ℕ → ℕ → ℕ
sizes_before zs zero = 0
sizes_before [] (suc k) = 0
sizes_before (z ∷ zs) (suc k) = z + sizes_before zs k

-- the sum of the sizes from block i to the one before j
pub record SizesFrom (zs : List ℕ) (i j n : ℕ) : Type 0 where
  pub is : n + sizes_before zs i ≡ sizes_before zs j

-- the sizes of n blocks may be summed
pub record Summable (n : ℕ) (zs : List ℕ) : Type 0 where
  pub few : n ≤ block_limit
  pub wide : n ≤ length zs
  pub fits : (k : ℕ) → k ≤ n → sizes_before zs k ≤ largest_position

-- a column of the sums before each of n blocks
pub record Summed (n : ℕ) (zs ys : List ℕ) : Type 0 where
  pub room : n ≤ length ys
  pub sums : (k : ℕ) → k < n → get_or ys k 0 ≡ sizes_before zs k

-- n blocks have room in a column
pub record Layable (n : ℕ) (ts : List ℕ) : Type 0 where
  pub few : n ≤ block_limit
  pub wide : n ≤ length ts

-- a column of the starts of n blocks, with the largest position in the rest of it
pub record Laid (n : ℕ) (ts xs : List ℕ) : Type 0 where
  pub room : length xs ≡ block_limit
  pub starts : (k : ℕ) → k < n → get_or xs k 0 ≡ get_or ts k 0
  pub rest : (k : ℕ) → n ≤ k → k < block_limit → get_or xs k 0 ≡ largest_position

-- an accepted chain with the two columns made of it
pub record Indexed (c : Chain) (ts qs zs xs ys : List ℕ) : Type 0 where
  pub ready : Ready c ts qs zs
  pub laid : Laid c.blockCount ts xs
  pub summed : Summed c.blockCount zs ys
