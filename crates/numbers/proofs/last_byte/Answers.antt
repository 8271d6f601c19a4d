use Rattle.numbers.proofs.ListLaws.{last_none, last_is}
use Rattle.numbers.proofs.last_byte.Goals as goal

pub returns-then-n-eq0 : goal.returns-then-n-eq0
returns-then-n-eq0 c = search last_none

pub returns : goal.returns
returns c = search last_is
