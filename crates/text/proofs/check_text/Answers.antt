-- `text::check_text` meets its contract: each return is one answer of the check's definition. Assumes nothing.
use Rattle.text.proofs.Laws.{text_long, text_allowed, text_refused}
use Rattle.text.proofs.check_text.Goals as goal

pub returns-then-text-gt-TEXT_LIMIT : goal.returns-then-text-gt-TEXT_LIMIT
returns-then-text-gt-TEXT_LIMIT c = search text_long

pub returns-then-all_allowed : goal.returns-then-all_allowed
returns-then-all_allowed c = search text_allowed

pub returns : goal.returns
returns c = search text_refused
