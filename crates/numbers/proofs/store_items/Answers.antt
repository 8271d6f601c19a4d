-- The items from here on, tested and stored, give what the whole list gives. Assumes nothing.
use borrow.Author.Rules.{rules}
use mathlib.Core.Path.{refl}
use Rattle.numbers.proofs.ListLaws.{list_bad, list_more, list_done, stored_more, stored_bad, stored_done}
use Rattle.numbers.proofs.store_items.Goals as goal

pub loop-i-init : goal.loop-i-init
loop-i-init c = (search rules, search rules, refl, refl, refl)

pub returns-in-Err : goal.returns-in-Err
returns-in-Err c = record { is = search list_bad; stored = search stored_bad; near = search rules }

pub loop-i-preserved : goal.loop-i-preserved
loop-i-preserved c = (search rules, search rules, search rules, search list_more, search stored_more)

pub returns : goal.returns
returns c = record { is = search list_done; stored = search stored_done; near = search rules }
