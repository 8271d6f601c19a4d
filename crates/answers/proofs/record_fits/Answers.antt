-- The room in words holds the fields, and thrice the rows after them. Assumes nothing.
use Rattle.answers.proofs.AnswerLaws.{fits_not, fits_rows}
use Rattle.answers.proofs.record_fits.Goals as goal

pub returns-then-words-fields : goal.returns-then-words-fields
returns-then-words-fields c = search fits_not

pub returns : goal.returns
returns c = search fits_rows
