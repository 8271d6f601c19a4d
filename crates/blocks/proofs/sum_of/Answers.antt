-- The chain adds as the rule does. Assumes nothing.
use borrow.Author.Rules.{rules}
use mathlib.Core.Path.{◌∙◌}
use Prim.Native.Nat.{◌+◌}
use lib.ListN.{take}
use Rattle.std.proofs.lemmas.Iterator.{YieldsList-from_slice, YieldsList-from_take}
use Rattle.std.proofs.lemmas.Iterator.Consumers.{fold_from_yields_List}
use Rattle.blocks.specs.Blocks.{capped}
use Rattle.blocks.proofs.GapLaws.{sum_folded}
use Rattle.blocks.proofs.sum_of.Goals as goal

pub returns : goal.returns
returns c =
    let o = c.args in
    let y = YieldsList-from_take {s = c.take.result} o.count (YieldsList-from_slice {s = c.take.result.iter} o.values.now (search rules)) c.take.ensures.count in
    fold_from_yields_List _ (λ s v. capped (s + v)) 0 c.fold.result c.fold.ensures.ran y (λ a x b q k. search rules)
    ∙ sum_folded (take o.count o.values.now)
