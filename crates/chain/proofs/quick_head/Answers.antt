-- Thirteen columns and no word after them. Assumes nothing.
use mathlib.Core.Path.{refl}
use Rattle.columns.proofs.WalkLaws.{run_none, run_more}
use Rattle.chain.specs.Table.{chain_columns}
use Rattle.chain.proofs.QuickLaws.{head_taken}
use Rattle.chain.proofs.quick_head.Goals as goal

pub returns : goal.returns
unfolding chain_columns
returns c =
    head_taken _ _
    (run_more _ _ _ _ _ _ _ _ refl c.take_field.ensures c.in_ok-word.was
    (run_more _ _ _ _ _ _ _ _ refl c.take_number.ensures c.in_ok-score.was
    (run_more _ _ _ _ _ _ _ _ refl c.take_field-2.ensures c.in_ok-tName.was
    (run_more _ _ _ _ _ _ _ _ refl c.take_number-2.ensures c.in_ok-tSize.was
    (run_more _ _ _ _ _ _ _ _ refl c.take_field-3.ensures c.in_ok-tStrand.was
    (run_more _ _ _ _ _ _ _ _ refl c.take_number-3.ensures c.in_ok-tStart.was
    (run_more _ _ _ _ _ _ _ _ refl c.take_number-4.ensures c.in_ok-tEnd.was
    (run_more _ _ _ _ _ _ _ _ refl c.take_field-4.ensures c.in_ok-qName.was
    (run_more _ _ _ _ _ _ _ _ refl c.take_number-5.ensures c.in_ok-qSize.was
    (run_more _ _ _ _ _ _ _ _ refl c.take_field-5.ensures c.in_ok-qStrand.was
    (run_more _ _ _ _ _ _ _ _ refl c.take_number-6.ensures c.in_ok-qStart.was
    (run_more _ _ _ _ _ _ _ _ refl c.take_number-7.ensures c.in_ok-qEnd.was
    (run_more _ _ _ _ _ _ _ _ refl c.take_number-8.ensures c.in_ok-id.was
    (run_none _ _))))))))))))))
    _ c.rest_of.ensures _ c.in_ok-rest_of.was
