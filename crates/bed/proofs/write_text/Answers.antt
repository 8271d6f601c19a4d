-- The values, names and lists make the standard text, and the line writer writes it. Assumes nothing.
use Rattle.bed.specs.Table.{bed_columns}
use Rattle.bed.proofs.WriteLaws.{names_there, columns_there, rows_there, text_wrote}
use Rattle.bed.proofs.write_text.Goals as goal

pub put_lists-requires : goal.put_lists-requires
put_lists-requires c = search rows_there

pub slice_bounds-write_line-end : goal.slice_bounds-write_line-end
unfolding bed_columns
slice_bounds-write_line-end c = columns_there _ _ _ _ _ c.requires

pub returns : goal.returns
unfolding bed_columns
returns c =
    let pre = c.requires in
    text_wrote _ _ _ _ _ _ _ (names_there _ _ _ _ _ pre _ _ c.put_names.ensures c.name_room-names.ensures) c.put_lists.ensures _ _ _ _ c.values_of-values.ensures pre.words c.write_line.ensures
