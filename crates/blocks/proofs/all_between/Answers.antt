-- The chain's test of each number is the rule's. Assumes nothing.
use borrow.Author.Rules.{rules}
use borrow.Author.Tests.{tests}
use mathlib.Core.Path.{◌∙◌}
use mathlib.Core.Bool.{◌&&◌}
use lib.ListN.{take}
use lib.Dec.{leb}
use Rattle.std.proofs.lemmas.Iterator.{YieldsList-from_slice, YieldsList-from_take}
use Rattle.std.proofs.lemmas.Iterator.Search.{all_from_yields_List}
use Rattle.blocks.proofs.BlockLaws.{between_list}
use Rattle.blocks.proofs.all_between.Goals as goal

pub returns : goal.returns
returns c =
    let o = c.args in
    let y = YieldsList-from_take {s = c.take.result} o.count (YieldsList-from_slice {s = c.take.result.iter} o.values.now (search rules)) c.take.ensures.count in
    all_from_yields_List (λ v. leb o.least v && leb v o.most) _ _ c.all.result c.all.ensures.ran y (λ x b q k. search (rules, tests))
    ∙ between_list o.least o.most (take o.count o.values.now)
