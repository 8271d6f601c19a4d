-- `text::count_words` meets its contract: the words counted, and those from the word in hand on, are all the line's. Assumes nothing.
use Prim.Native.Nat.{◌+◌, ◌-◌, ◌≤◌, max}
use mathlib.Core.Path.{◌≡◌}
use lib.ListN.{length}
use Rattle.text.specs.Words.{next_word, word_count}
use Rattle.text.proofs.count_words.Given as goal

abbrev pub invariant-loop-w : goal.invariant-loop-w
invariant-loop-w l =
    (l.w ≡ next_word l.text l.w.start) × (l.n + word_count l.text l.w.start ≡ word_count l.text l.line) × (l.n ≤ l.w.start) × (l.w.start ≤ l.w.end) × (l.w.end ≤ max l.line (length l.text))

abbrev pub decreases-loop-w : goal.decreases-loop-w
decreases-loop-w l = max l.line (length l.text) - l.w.start
