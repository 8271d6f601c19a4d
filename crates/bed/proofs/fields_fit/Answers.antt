-- Each test by its own function. Assumes nothing.
use Rattle.bed.specs.Tests.{fields_fit}
use Rattle.bed.proofs.fields_fit.Goals as goal

pub returns : goal.returns
unfolding fields_fit
returns c = rw (
  c.is_word_count.ensures,
  c.if_there-score.ensures,
  c.if_there-start.ensures,
  c.if_there-end.ensures,
  c.if_there-colour.ensures,
)
