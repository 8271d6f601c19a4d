-- Each list is stored past the one before. Assumes nothing.
use mathlib.Core.Path.{refl}
use Rattle.psl.proofs.WriteLaws.{lists_put}
use Rattle.psl.proofs.put_lists.Goals as goal

pub returns : goal.returns
returns c = lists_put _ _ _ _ _ _ _ _ _ c.requires c.copy_numbers.ensures c.copy_numbers-2.ensures refl c.copy_numbers-3.ensures
