-- The words from the word in hand on are tested and stored as all words are. Assumes nothing.
use Prim.Native.Nat.{◌+◌, ◌-◌, ◌≤◌}
use mathlib.Core.Path.{◌≡◌}
use lib.ListN.{length}
use Rattle.ledger.specs.Limits.{largest_place}
use Rattle.text.specs.Words.{next_word, word_count}
use Rattle.writing.proofs.PutLaws.{Completes}
use Rattle.number_line.specs.Numbers.{words_from}
use Rattle.number_line.proofs.WalkLaws.{rest_of, good_from}
use Rattle.number_line.proofs.walk_numbers.Given as goal

abbrev pub invariant-loop-w : goal.invariant-loop-w
invariant-loop-w l = (l.w ≡ next_word l.text l.w.start) × (l.n + word_count l.text l.w.start ≡ word_count l.text 0) × (l.n ≤ l.w.start) × (l.w.start ≤ l.w.end) × (l.w.end ≤ length l.text) × (length l.out ≡ length l.initial.out) × (length l.out ≤ largest_place) × (l.p ≤ largest_place) × (words_from l.text l.w.start (rest_of l.text l.w.start) ≡ words_from l.text 0 (rest_of l.text 0)) × Completes (good_from l.text l.w.start) l.p l.out (good_from l.text 0) 0 l.initial.out

abbrev pub decreases-loop-w : goal.decreases-loop-w
decreases-loop-w l = length l.text - l.w.start
