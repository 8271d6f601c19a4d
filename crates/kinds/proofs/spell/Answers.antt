-- Each kind's own function reads its word. Assumes nothing.
use Rattle.kinds.proofs.SpellLaws.{spellings}
use Rattle.kinds.proofs.spell.Goals as goal

pub returns-in-Name : goal.returns-in-Name
returns-in-Name c = search spellings

pub returns-in-Number : goal.returns-in-Number
returns-in-Number c = search spellings

pub returns-in-Count : goal.returns-in-Count
returns-in-Count c = search spellings

pub returns-in-Items : goal.returns-in-Items
returns-in-Items c = search spellings

pub returns-in-Stranded : goal.returns-in-Stranded
returns-in-Stranded c = search spellings

pub returns-in-Word : goal.returns-in-Word
returns-in-Word c = search spellings

pub returns-in-Colour : goal.returns-in-Colour
returns-in-Colour c = search spellings
