-- A number in one pass; any other word is read as it is by that promise alone. Assumes nothing.
use Rattle.columns.proofs.QuickLaws.{word_number}
use Rattle.columns.proofs.quick_field.Goals as goal

pub returns-in-Number : goal.returns-in-Number
returns-in-Number c = search word_number
