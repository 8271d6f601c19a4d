-- Each field by its column. Assumes nothing.
use Rattle.chain.proofs.ReadLaws.{record_is}
use Rattle.chain.proofs.record_of.Goals as goal

pub returns : goal.returns
returns c =
    record_is _ _ _ _ _ _ _ _ _ _ _ _ _ _
    c.value_of.ensures
    c.name_of.ensures
    c.value_of-2.ensures
    c.value_of-3.ensures
    c.value_of-4.ensures
    c.name_of-2.ensures
    c.value_of-5.ensures
    c.value_of-6.ensures
    c.of_value.ensures
    c.value_of-7.ensures
    c.value_of-8.ensures
    c.value_of-9.ensures
