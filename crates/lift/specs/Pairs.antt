-- The pairs of a chain (01, "Pairs, lifting, turning"), and looking up in them. The bases of each block pair off in order.
use Rattle.std.specs.Prelude.{ℕ, zero, suc, ◌+◌, ◌≡◌, Bool, true, false, ◌&&◌, List, [], ◌∷◌, ◌++◌, leb, ltb, eqb, Some, None, Option}
use Rattle.ledger.specs.declared.Strand.{Strand}
use Rattle.ledger.specs.declared.Row.{Row}
use Rattle.blocks.specs.Strands.{strand_start}
use Rattle.chain.specs.declared.Chain.{Chain}
use Rattle.lift.specs.Accepted.{used}

-- a target base and its query base, both counted on the forward strand
pub record Pair : Type 0 where
  pub target : ℕ
  pub query : ℕ

abbrev pub pair : ℕ → ℕ → Pair
pair p q = record { target = p; query = q }

-- the forward number of a query base s that a row counts: with `-`, s on the reversed query becomes size − 1 − s
abbrev pub forward_on : Strand → ℕ → ℕ → ℕ
forward_on k size s = strand_start k size s (s + 1)

abbrev pub forward : Chain → ℕ → ℕ
forward c s = forward_on c.qStrand c.qSize s

-- the pairs of a block of n bases from t and q on, where f gives a query base's forward number
unfoldable pub block_pairs : (ℕ → ℕ) → ℕ → ℕ → ℕ → List Pair
block_pairs f t q zero = []
block_pairs f t q (suc n) = pair t (f q) ∷ block_pairs f (suc t) (suc q) n

unfoldable pub pairs_of : (ℕ → ℕ) → List Row → List Pair
pairs_of f [] = []
pairs_of f (b ∷ bs) = block_pairs f b.target b.query b.size ++ pairs_of f bs

-- THE PAIRS of a record with its table, block by block
unfoldable pub pairs : Chain → List Row → List Pair
pairs c rows = pairs_of (forward c) (used c rows)

-- what looking up a target base finds: the partner in its first pair, or none
abbrev pub or_else : Bool → ℕ → Option ℕ → Option ℕ
or_else true q rest = Some q
or_else false q rest = rest

unfoldable pub partner_of : ℕ → List Pair → Option ℕ
partner_of p [] = None
partner_of p (x ∷ xs) = or_else (eqb x.target p) x.query (partner_of p xs)

abbrev pub is_partner : Option ℕ → Bool
is_partner (Some q) = true
is_partner None = false

-- whether a target base stands in a pair
abbrev pub stands : ℕ → List Pair → Bool
stands p ps = is_partner (partner_of p ps)

-- whether a base lies in a block of n from t on
abbrev pub in_block : ℕ → ℕ → ℕ → Bool
in_block t n i = leb t i && ltb i (t + n)

pub record InBlock (r : Bool) (t n i : ℕ) : Type 0 where
  pub is : r ≡ in_block t n i
