-- The walk over all columns decides, or the stage for any line does. Assumes nothing.
use Rattle.bed.specs.Table.{bed_columns}
use Rattle.bed.proofs.ColumnLaws.{long_listed, long_line, long_on, long_stop}
use Rattle.bed.proofs.after_long.Goals as goal

pub after_columns-requires : goal.after_columns-requires
unfolding bed_columns
after_columns-requires c = (search long_listed, search long_line)

pub returns-then-count_words-eq-COLUMNS : goal.returns-then-count_words-eq-COLUMNS
unfolding bed_columns
returns-then-count_words-eq-COLUMNS c = search (long_on, long_stop)

pub returns-in-Ok : goal.returns-in-Ok
unfolding bed_columns
returns-in-Ok c = search long_on
