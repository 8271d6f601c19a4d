-- `text::word_at` meets its contract: after i turns the word in hand is word i, and an empty word is every later one too. Assumes nothing.
use Prim.Native.Nat.{◌≤◌, max}
use mathlib.Core.Path.{◌≡◌}
use lib.ListN.{length}
use Rattle.text.specs.Words.{word_at}
use Rattle.text.proofs.word_at.Given as goal

abbrev pub invariant-loop : goal.invariant-loop
invariant-loop l = (l.w ≡ word_at l.text l.line l.counter) × (l.line ≤ l.w.start) × (l.w.start ≤ l.w.end) × (l.w.end ≤ max l.line (length l.text))
