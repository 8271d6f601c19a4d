-- The words from the word in hand on are tested and stored as all words are. Assumes nothing.
use borrow.Author.Rules.{rules}
use mathlib.Core.Path.{refl}
use Rattle.text.proofs.PieceLaws.{word_again, count_first, count_next}
use Rattle.number_line.proofs.WalkLaws.{tested_from, completes_first, tested_good, stored_good, walked_bad, walked_all}
use Rattle.number_line.proofs.walk_numbers.Goals as goal

pub loop-w-init : goal.loop-w-init
loop-w-init c = (search word_again, search count_first, search rules, search rules, search rules, refl, search rules, search rules, search tested_from, search completes_first)

pub returns-in-Err : goal.returns-in-Err
returns-in-Err c = search walked_bad

pub loop-w-preserved : goal.loop-w-preserved
loop-w-preserved c = (search word_again, search count_next, search rules, search rules, search rules, search rules, search rules, search rules, search tested_good, search stored_good)

pub returns : goal.returns
returns c = search walked_all
