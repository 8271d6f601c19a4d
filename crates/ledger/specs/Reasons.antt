-- The refusal ledger of 01: each reason's number.
use Rattle.std.specs.Prelude.{ℕ}
use Rattle.ledger.specs.declared.Reason.{Reason}
use Rattle.ledger.specs.declared.Reason.TheVariants.{TextTooLong, WrongCount, ByteNotAllowed, NumberMisspelt, NumberOutOfRange, BadWord, SpanDisagrees, ListLength, BlockRules, CountsDisagree, NoRoom, NoPair, OutsideTarget}

abbrev pub reason_number : Reason → ℕ
reason_number TextTooLong = 1
reason_number WrongCount = 2
reason_number ByteNotAllowed = 3
reason_number NumberMisspelt = 4
reason_number NumberOutOfRange = 5
reason_number BadWord = 6
reason_number SpanDisagrees = 7
reason_number ListLength = 8
reason_number BlockRules = 9
reason_number CountsDisagree = 10
reason_number NoRoom = 11
reason_number NoPair = 12
reason_number OutsideTarget = 13
