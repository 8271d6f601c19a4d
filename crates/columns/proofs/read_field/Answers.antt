-- What the word spells, at its place in the text. Assumes nothing.
use native.Mathlib.Omega.{arith}
use Rattle.columns.proofs.ReadLaws.{field_good, field_bad, field_near}
use Rattle.columns.proofs.read_field.Goals as goal

pub overflow_add-result : goal.overflow_add-result
overflow_add-result c = let w = c.next_word-w.ensures in
    omega (arith, field_near _ _ _ _ _ w.is _ _ _ _ c.spell_in.ensures _ c.in-Err.is w.mid)

pub returns-in-Ok : goal.returns-in-Ok
returns-in-Ok c = search field_good

pub returns-in-Err : goal.returns-in-Err
returns-in-Err c = search field_bad
