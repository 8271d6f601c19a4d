-- Each kind's own function stores its word. Assumes nothing.
use Rattle.kinds.proofs.WordLaws.{words}
use Rattle.kinds.proofs.put_word.Goals as goal

pub returns-in-Name : goal.returns-in-Name
returns-in-Name c = search words

pub returns-in-Number : goal.returns-in-Number
returns-in-Number c = search words

pub returns-in-Count : goal.returns-in-Count
returns-in-Count c = search words

pub returns-in-Items : goal.returns-in-Items
returns-in-Items c = search words

pub returns-in-Stranded : goal.returns-in-Stranded
returns-in-Stranded c = search words

pub returns-in-Word : goal.returns-in-Word
returns-in-Word c = search words

pub returns-in-Colour : goal.returns-in-Colour
returns-in-Colour c = search words
