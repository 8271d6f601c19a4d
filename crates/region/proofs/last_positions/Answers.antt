use Prim.Native.Nat.{ℕ}
use native.Mathlib.Omega.{arith}
use lib.ListN.{length-replicate, get_or-replicate}
use Rattle.region.proofs.last_positions.Goals as goal

pub returns : goal.returns
returns c = record {
  room = length-replicate {A = ℕ} 512 2147483647;
  starts = λ k h. absurd (omega arith);
  rest = λ k l h. get_or-replicate {A = ℕ} 512 k 2147483647 0 h;
}
