-- Counts in range are compared exactly; the tests in their order, the last one innermost. Assumes nothing.
use Rattle.psl.proofs.CheckLaws.{numbers_bad, fields_good, numbers_range}
use Rattle.psl.proofs.check_numbers.Goals as goal

pub returns-then-not-fields_fit : goal.returns-then-not-fields_fit
returns-then-not-fields_fit c = search numbers_bad

pub counts_fit-requires : goal.counts_fit-requires
counts_fit-requires c = search numbers_range

pub returns : goal.returns
returns c = rw (
  c.demand.ensures,
  c.row_numbers_fit.ensures,
  c.demand-spans.ensures,
  c.spans_fit.ensures,
  c.demand-blocks.ensures,
  c.rows_fit.ensures,
  c.demand-last.ensures,
  c.counts_fit.ensures,
  fields_good _ _ c.fields_fit.ensures c.if-not-fields_fit.false-raw,
)
