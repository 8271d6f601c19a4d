-- `text::is_in` meets its contract: each arm is the clause of its class. Assumes nothing.
use Rattle.text.proofs.is_in.Goals as goal

pub returns-in-Blank : goal.returns-in-Blank
returns-in-Blank c = rw c.in-Blank.is

pub returns-in-Word : goal.returns-in-Word
returns-in-Word c = rw c.in-Word.is

pub returns-in-Line : goal.returns-in-Line
returns-in-Line c = rw c.in-Line.is

pub returns-in-Allowed : goal.returns-in-Allowed
returns-in-Allowed c = rw c.in-Allowed.is

pub returns-in-Digit : goal.returns-in-Digit
returns-in-Digit c = rw c.in-Digit.is

pub returns-in-Item : goal.returns-in-Item
returns-in-Item c = rw c.in-Item.is

pub returns-in-Graphic : goal.returns-in-Graphic
returns-in-Graphic c = rw c.in-Graphic.is
