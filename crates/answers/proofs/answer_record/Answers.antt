-- All of it written, or too little room. Assumes nothing.
use Rattle.answers.proofs.AnswerLaws.{record_short, record_put}
use Rattle.answers.proofs.answer_record.Goals as goal

pub returns-then-record_fits : goal.returns-then-record_fits
returns-then-record_fits c = search record_put

pub returns : goal.returns
returns c = search record_short
