-- Rows up to i are written. Assumes nothing.
use Rattle.region.proofs.BatchLaws.{refused_first, refused_row, refused_next, refused_done}
use borrow.Author.Rules.{rules}
use Rattle.region.proofs.refuse_all.Goals as goal

pub loop-i-init : goal.loop-i-init
loop-i-init c = (search rules, search refused_first)

pub loop-i-preserved : goal.loop-i-preserved
loop-i-preserved c =
    let o = c.args in let l = c.loop-i in
    (search rules, refused_next l.answers _ o.count l.i c.answer_row.result (search rules) (search rules) (refused_row _ _ c.not_lifted-answer.ensures c.answer_row.ensures) l.invariant.1)

pub returns : goal.returns
returns c = search refused_done
