-- Converting a span to the other strand: size − end and size − start.
use Rattle.std.specs.Prelude.{ℕ, ◌&&◌, leb, ltb, Ok, Err, Result}
use Rattle.ledger.specs.declared.Strand.TheVariants.{Minus}
use Rattle.blocks.specs.Strands.{strand_start, strand_end}
use Rattle.ledger.specs.Refusals.{without_text, require}
use Rattle.ledger.specs.Limits.{in_coordinates}
use Rattle.ledger.specs.declared.Reason.{Reason}
use Rattle.ledger.specs.declared.Reason.TheVariants.{NumberOutOfRange, SpanDisagrees}
use Rattle.lift.specs.declared.Span.{Span}
use Rattle.ledger.specs.declared.Refusal.{Refusal}

abbrev pub not_converted : Reason → Result Span Refusal
not_converted why = Err (without_text why)

-- the same bases counted from the other end
abbrev pub other_strand : ℕ → ℕ → ℕ → Span
other_strand start end size = record { start = strand_start Minus size start end; end = strand_end Minus size start end }

-- THE CONVERSION: a number over the coordinate limit (5), then start, end and size that disagree (7), each at place 0
unfoldable pub converted : ℕ → ℕ → ℕ → Result Span Refusal
converted start end size =
    require (in_coordinates start && (in_coordinates end && in_coordinates size)) (not_converted NumberOutOfRange)
    (require (ltb start end && leb end size) (not_converted SpanDisagrees)
    (Ok (other_strand start end size)))
