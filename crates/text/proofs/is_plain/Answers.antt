-- What is laid from here on is laid from the start; the last word ends the line. Assumes nothing.
use Rattle.text.proofs.PlainLaws.{onward_more, onward_fed, onward_last, not_plain}
use borrow.Author.Rules.{rules}
use Rattle.text.proofs.is_plain.Goals as goal

pub loop-at-init : goal.loop-at-init
loop-at-init c = (search rules, λ l. l)

pub returns-then-e-at : goal.returns-then-e-at
returns-then-e-at c = not_plain _

pub returns-then-text-e : goal.returns-then-text-e
returns-then-text-e c = λ q. search onward_last

pub returns-then-text-e-ne9 : goal.returns-then-text-e-ne9
returns-then-text-e-ne9 c = search onward_fed

pub loop-at-preserved : goal.loop-at-preserved
loop-at-preserved c = (search rules, search onward_more)

pub returns : goal.returns
returns c = not_plain _
