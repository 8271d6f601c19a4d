use Rattle.lift.proofs.ConversionLaws.{out_of_range, no_span, past_size, span_turned}
use Rattle.lift.proofs.convert.Goals as goal

pub returns-then-not-start-most : goal.returns-then-not-start-most
returns-then-not-start-most c = search out_of_range

pub returns-then-end-start : goal.returns-then-end-start
returns-then-end-start c = search no_span

pub returns-then-size-end : goal.returns-then-size-end
returns-then-size-end c = search past_size

pub returns : goal.returns
returns c = search span_turned
