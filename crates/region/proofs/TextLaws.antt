-- Lifting a region through a chain's text, whose chain is accepted (`lift`). Assumes nothing.
use mathlib.Core.Path.{◌≡◌}
use mathlib.Core.List.{List}
use Prim.Native.Nat.{ℕ, ◌+◌, ◌-◌, ◌*◌}
use lib.ListN.{take, drop}
use Rattle.ledger.specs.declared.Refusal.{Refusal}
use Rattle.ledger.specs.Limits.{block_limit}
use Rattle.blocks.specs.Rows.{table_of}
use Rattle.chain.specs.declared.Chain.{Chain}
use Rattle.chain.specs.Records.{chain_rows}
use Rattle.chain.specs.Read.{InRoom}
use Rattle.lift.specs.Texts.{ChainHeld}
use Rattle.lift.proofs.TextLaws.{rows_are}
use Rattle.region.specs.Regions.{lift_region, text_lifted}
use Rattle.std.specs.Prelude.{Ok, Err, Result}
use Rattle.region.specs.declared.Region.{Region}

-- the rows in the working room
pub rows_lifted : (s : List ℕ) (c : Chain) (l : List ℕ) → ChainHeld s c l → (n b d e f : ℕ) → n ≡ c.blockCount → b ≡ block_limit → d ≡ 2 * b → e ≡ b + n → f ≡ d + n → (r : Result Region Refusal) (start end : ℕ)
    → r ≡ lift_region c (table_of (take n l) (take (e - b) (drop b l)) (take (f - d) (drop d l))) start end → r ≡ lift_region c (chain_rows s c) start end
rows_lifted s c l h n b d e f en eb ed ee ef r start end k = rw (rows_are s c l h n b d e f en eb ed ee ef) at k

-- the text
module _ (s rows rows' : List ℕ) (x : Result Chain Refusal) (read : InRoom s rows rows' x) (start end : ℕ) where
  pub text_refused : (y : Refusal) → x ≡ Err y → Err y ≡ text_lifted s start end
  unfolding text_lifted
  text_refused y q = rw (← read.is, q)

  pub text_lifted_lem : (c : Chain) → x ≡ Ok c → (r : Result Region Refusal) → r ≡ lift_region c (chain_rows s c) start end → r ≡ text_lifted s start end
  unfolding text_lifted
  text_lifted_lem c q r k = rw (← read.is, q) k
