-- The number of words decides, and the next stage goes on. Assumes nothing.
use Rattle.std.proofs.lemmas.Result.{err_from_is_err_and}
use Rattle.bed.proofs.ColumnLaws.{words_counted, text_stop, text_on}
use Rattle.bed.proofs.after_text.Goals as goal

pub after_words-requires : goal.after_words-requires
after_words-requires c = search (words_counted, c.in_ok-check_words.was)

pub returns-in_err-check_words : goal.returns-in_err-check_words
returns-in_err-check_words c =
    let p = err_from_is_err_and c.from_residual.result c.from_residual.ensures.1 in
    rw (p.1, p.2) (search (text_stop, c.in_err-check_words.was))

pub returns : goal.returns
returns c = search (text_on, c.in_ok-check_words.was)
