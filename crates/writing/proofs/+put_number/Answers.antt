-- One digit, or the digits of the tens and then the last digit. Assumes nothing.
use Rattle.writing.proofs.DigitLaws.{put_small, put_large}
use Rattle.writing.proofs.+put_number.Goals as goal

pub returns-then-n-lt10 : goal.returns-then-n-lt10
returns-then-n-lt10 t c = search put_small

pub returns : goal.returns
returns t c = search put_large
