-- Each field by its column. Assumes nothing.
use Rattle.bed.proofs.ReadLaws.{record_is}
use Rattle.bed.proofs.record_of.Goals as goal

pub returns : goal.returns
returns c =
    record_is _ _ _ _ _ _ _ _ _ _ _ _ _ _ _ _ _ _
    c.value_of-start.ensures
    c.value_of-end.ensures
    c.place_of.ensures
    c.value_of.ensures
    c.of_values.ensures
    c.place_or.ensures
    c.value_or.ensures
    c.of_values-2.ensures
    c.value_or-2.ensures
    c.value_or-3.ensures
    c.of_value.ensures
    c.value_or-4.ensures
    c.value_or-5.ensures
    c.value_or-6.ensures
    c.value_or-7.ensures
