-- The values, names and lists make the standard text, and the line writer writes it. Assumes nothing.
use Rattle.psl.specs.Table.{psl_columns}
use Rattle.psl.proofs.WriteLaws.{names_there, rows_there, text_wrote}
use Rattle.psl.proofs.write_text.Goals as goal

pub put_lists-requires : goal.put_lists-requires
put_lists-requires c = search rows_there

pub returns : goal.returns
unfolding psl_columns
returns c = text_wrote _ _ _ _ _ _ _ _
    (names_there _ _ _ _ _ _ c.requires _ _ c.put_names.ensures c.name_room-names.ensures)
    c.put_lists.ensures
    _ _ _ _
    c.values_of-values.ensures
    c.write_line.ensures
