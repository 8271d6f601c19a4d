-- The word's last byte. Assumes nothing.
use Rattle.bed.proofs.StandardLaws.{comma_last}
use Rattle.bed.proofs.ends_with_comma.Goals as goal

pub returns-then-word : goal.returns-then-word
returns-then-word c = λ q. cc

pub returns-then-text-word : goal.returns-then-text-word
returns-then-text-word c = λ q. cc

pub returns : goal.returns
returns c = λ q. search comma_last
