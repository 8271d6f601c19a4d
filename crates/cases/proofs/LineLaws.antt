-- From a place inside a text the next line begins further on, so a walk over the lines ends. Assumes nothing.
use mathlib.Core.Path.{◌≡◌, refl}
use mathlib.Core.List.{List}
use Prim.Native.Nat.{ℕ, ◌-◌, ◌≤◌, ◌<◌}
use native.Mathlib.Omega.{arith}
use lib.ListN.{length}
use Rattle.text.specs.Scan.{end_of}
use Rattle.text.specs.Words.{line_end, next_line}
use Rattle.text.proofs.Laws.{either, next_fed, next_none}

line_low : (s : List ℕ) (line : ℕ) → line ≤ line_end s line
unfolding line_end end_of
line_low s line = omega arith

pub next_past : (s : List ℕ) (line : ℕ) → line < length s → line < next_line s line
next_past s line h =
    either (length s) (line_end s line) _
    (λ k. omega (arith, next_none s line (line_end s line) refl k))
    (λ k. omega (arith, line_low s line, next_fed s line (line_end s line) refl k))

pub less_left : (s : List ℕ) (line next : ℕ) → next ≡ next_line s line → line < length s → length s - next < length s - line
less_left s line next e h = omega (arith, e, next_past s line h)
