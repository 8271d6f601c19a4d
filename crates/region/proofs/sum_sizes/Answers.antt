-- The sums before the blocks up to i are there. Assumes nothing.
use mathlib.Core.Path.{sym, ◌∙◌}
use native.Mathlib.Omega.{arith}
use lib.ListN.{length-set}
use Rattle.region.proofs.SearchLaws.{sizes_none, sum_fits, sum_next, sum_more}
use borrow.Author.Rules.{rules}
use Rattle.region.proofs.sum_sizes.Goals as goal

pub loop-i-init : goal.loop-i-init
loop-i-init c = (search rules, sym (sizes_none _), λ k h. absurd (omega arith))

pub overflow_add-sum : goal.overflow_add-sum
overflow_add-sum c = search sum_fits

pub loop-i-preserved : goal.loop-i-preserved
loop-i-preserved c =
    let o = c.args in let l = c.loop-i in (
      length-set l.before l.i l.sum ∙ l.invariant.0,
      sum_next o.sizes.now l.i l.sum (search rules) l.invariant.1,
      sum_more o.sizes.now l.before l.i l.sum (search rules) l.invariant.2 l.invariant.1,
    )

pub returns : goal.returns
returns c = let l = c.loop-i in record { room = search rules; sums = λ k h. l.invariant.2 k (omega arith) }
