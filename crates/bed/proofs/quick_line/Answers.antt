-- A good walk gives the record and its lists, and the stages go on. Assumes nothing.
use mathlib.Core.Path.{refl}
use Rattle.bed.specs.Table.{bed_columns}
use Rattle.bed.proofs.ColumnLaws.{quick_listed, quick_line, quick_on}
use Rattle.bed.proofs.quick_line.Goals as goal

pub after_columns-requires : goal.after_columns-requires
unfolding bed_columns
after_columns-requires c = (
  quick_listed _ _ _ _ c.requires _ c.quick_words.ensures _ c.in_ok-w.was _ refl _ c.is_few.ensures c.if-not-is_few.false-raw,
  quick_line _ _ _ _ c.requires _ c.quick_words.ensures _ c.in_ok-w.was _ refl _ c.is_few.ensures c.if-not-is_few.false-raw,
)

pub returns : goal.returns
unfolding bed_columns
returns c = quick_on _ _ _ _ c.requires _ c.quick_words.ensures _ c.in_ok-w.was _ refl _ c.is_few.ensures c.if-not-is_few.false-raw _ _ c.after_columns.ensures
