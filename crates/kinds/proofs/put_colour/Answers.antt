-- Black is one byte; any other colour is three numbers and two commas, stored one after the other. Assumes nothing.
use Rattle.kinds.proofs.WordLaws.{colour_zero, colour_three}
use Rattle.kinds.proofs.put_colour.Goals as goal

pub returns-then-v-eq0 : goal.returns-then-v-eq0
returns-then-v-eq0 c = search (colour_zero, colour_three)

pub returns : goal.returns
returns c = search (colour_zero, colour_three)
