-- The columns from here on, and what they store, give what the whole table gives. Assumes nothing.
use mathlib.Core.Path.{refl}
use Rattle.std.proofs.lemmas.Result.{err_from_is_err_and}
use borrow.Author.Rules.{rules}
use Rattle.columns.proofs.ReadLaws.{columns_done, columns_bad, columns_more, values_done, values_more, lists_done, lists_more}
use Rattle.columns.proofs.walk_columns.Goals as goal

pub returns-in_err-v : goal.returns-in_err-v
returns-in_err-v c =
    let p = err_from_is_err_and c.from_residual.result c.from_residual.ensures.1 in
    rw (p.1, p.2) (record {
      result = columns_bad _ _ _ _ _ _ c.loop-k-test.true _ refl _ c.read_field.ensures.result c.loop-k.invariant.1 _ c.in_err-v.was;
      stored = λ m q. cc;
      held = λ m q. cc;
    })

pub loop-k-preserved : goal.loop-k-preserved
loop-k-preserved c = let l = c.loop-k in (
  search rules,
  columns_more _ _ _ _ _ _ c.loop-k-test.true _ refl _ c.read_field.ensures.result _ _ c.in_ok-v.was _ c.count_after-count.ensures l.invariant.1,
  values_more _ _ _ _ _ _ c.loop-k-test.true _ refl _ c.read_field.ensures.result _ _ c.in_ok-v.was _ c.count_after-count.ensures _ _ _ c.store_pair.ensures l.invariant.2,
  lists_more _ _ _ _ _ _ c.loop-k-test.true _ refl _ c.read_field.ensures.result _ _ c.in_ok-v.was _ c.count_after-count.ensures _ _ _ _ _ c.base_after-base.ensures.0 c.read_field.ensures.stored l.invariant.3,
)

pub returns : goal.returns
returns c = record { result = search columns_done; stored = λ m q. search values_done; held = λ m q. search lists_done }
