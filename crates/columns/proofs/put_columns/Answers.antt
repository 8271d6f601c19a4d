-- Whatever stores the columns from here on completes the line. Assumes nothing.
use mathlib.Core.Path.{refl}
use borrow.Author.Rules.{rules}
use Rattle.writing.proofs.PutLaws.{completes_all}
use Rattle.columns.specs.Lines.{line_text}
use Rattle.columns.proofs.LineLaws.{line_step, line_done}
use Rattle.columns.proofs.put_columns.Goals as goal

pub loop-k-init : goal.loop-k-init
unfolding line_text
loop-k-init c = (search rules, search rules, search rules, completes_all _ _ _)

pub loop-k-preserved : goal.loop-k-preserved
loop-k-preserved c = (
  search rules,
  search rules,
  search rules,
  line_step _ _ _ _ _ _ _ _ _ _ _ c.loop-k.invariant.3 c.loop-k-test.true _ refl _ _ c.value_of-v.ensures c.place_of-start.ensures _ _ _ _ c.put_gap-q.ensures c.put_word-p.ensures _ c.base_after-base.ensures.0,
)

pub returns : goal.returns
returns c = search line_done
