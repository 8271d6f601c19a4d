-- The columns passed so far, and what they stored. Assumes nothing.
use mathlib.Core.Path.{refl}
use borrow.Author.Rules.{rules}
use mathlib.Core.Path.{◌≡◌, sym, ◌∙◌}
use native.Mathlib.Omega.{arith}
use lib.ListN.{length}
use Rattle.columns.proofs.QuickLaws.{passed_none, passed_more, passed_all}
use Rattle.columns.proofs.quick_columns.Goals as goal

pub loop-k-init : goal.loop-k-init
loop-k-init c = (search rules, passed_none _ _ _ _ _)

pub returns-then-is_line_end : goal.returns-then-is_line_end
returns-then-is_line_end c = let l = c.loop-k in passed_all _ _ _ _ _ _ _ _ _ _ _ l.invariant.1 (omega arith) _ c.scan-start.ensures _ (sym c.if-is_line_end.true ∙ c.is_line_end.ensures)

pub loop-k-preserved : goal.loop-k-preserved
loop-k-preserved c = let l = c.loop-k in (
  search rules,
  passed_more _ _ _ _ _ _ _ _ _ _ _ l.invariant.1 c.loop-k-test.true _ c.scan-start.ensures _ refl _ _ c.quick_field.ensures _ c.in_ok-x.was _ c.store_pair.ensures _ c.count_after-count.ensures _ c.few_after-base.ensures.0,
)

pub returns : goal.returns
returns c =
    let l = c.loop-k in
    let e : l.k ≡ length c.args.table.now = omega arith in
    rw (c.then_some.ensures, ← e) (passed_all _ _ _ _ _ _ _ _ _ _ _ l.invariant.1 (omega arith) _ c.scan-end.ensures _ c.is_line_end-2.ensures)
