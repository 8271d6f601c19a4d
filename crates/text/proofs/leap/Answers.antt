-- The scan from here on ends where the scan from the start ends. Assumes nothing.
use Rattle.text.proofs.Laws.{stride_more}
use borrow.Author.Rules.{rules}
use mathlib.Core.Path.{refl}
use Rattle.text.proofs.leap.Goals as goal

pub loop-i-init : goal.loop-i-init
loop-i-init c = (search rules, search rules, refl)

pub returns-then-n-i-lt-STRIDE : goal.returns-then-n-i-lt-STRIDE
returns-then-n-i-lt-STRIDE c = record { is = search rules; low = search rules; high = search rules }

pub returns-then-not-all_in : goal.returns-then-not-all_in
returns-then-not-all_in c = record { is = search rules; low = search rules; high = search rules }

pub loop-i-preserved : goal.loop-i-preserved
loop-i-preserved c = (search rules, search rules, search stride_more)

pub returns : goal.returns
returns c = record { is = search rules; low = search rules; high = search rules }
