-- Conversion to the other strand: twice restores; and it is how the pairs of a `-` chain count the query. Assumes nothing.
use mathlib.Core.Path.{◌≡◌, refl, ap, ◌∙◌}
use mathlib.Core.Bool.{Bool, true, false, not, ◌&&◌}
use Prim.Native.Nat.{ℕ, ◌-◌, ◌≤◌, ◌<◌}
use native.Mathlib.Omega.{arith}
use lib.Dec.{leb, ltb}
use borrow.Author.Tests.{lt-leb, le-leb, lt-ltb, le-ltb, not-true, not-false, leb-true, ltb-true}
use Rattle.ledger.specs.Refusals.{require}
use Rattle.ledger.specs.declared.Reason.TheVariants.{NumberOutOfRange, SpanDisagrees}
use Rattle.ledger.specs.Limits.{largest_position, in_coordinates}
use Rattle.blocks.proofs.RuleLaws.{both}
use Rattle.lift.specs.declared.Span.{Span}
use Rattle.lift.specs.Conversion.{not_converted, other_strand, converted}
use Rattle.std.specs.Prelude.{Ok, Result}
use Rattle.ledger.specs.declared.Refusal.{Refusal}

abbrev in_range : ℕ → ℕ → ℕ → Bool
in_range start end size = leb start largest_position && (leb end largest_position && leb size largest_position)

-- ---- the ways out of `convert`
module _ (start end size : ℕ) (r : Result Span Refusal) where
  pub out_of_range : not (in_range start end size) ≡ true → r ≡ not_converted NumberOutOfRange → r ≡ converted start end size
  unfolding converted
  out_of_range h k = rw (not-true (in_range start end size) h) k

  module _ (h : not (in_range start end size) ≡ false) where
    pub no_span : end ≤ start → r ≡ not_converted SpanDisagrees → r ≡ converted start end size
    unfolding converted
    no_span l k = rw (not-false (in_range start end size) h, le-ltb start end l) k

    pub past_size : start < end → size < end → r ≡ not_converted SpanDisagrees → r ≡ converted start end size
    unfolding converted
    past_size l m k = rw (not-false (in_range start end size) h, lt-ltb start end l, lt-leb end size m) k

    pub span_turned : start < end → end ≤ size → r ≡ Ok (other_strand start end size) → r ≡ converted start end size
    unfolding converted
    span_turned l m k = rw (not-false (in_range start end size) h, lt-ltb start end l, le-leb end size m) k

-- A SPAN IS CONVERTED exactly when its numbers are coordinates and start < end ≤ size
pub converts : (start end size : ℕ) → start < end → end ≤ size → size ≤ largest_position → converted start end size ≡ Ok (other_strand start end size)
unfolding converted
converts start end size h k l =
    let a : start ≤ largest_position = omega arith in
    let b : end ≤ largest_position = omega arith in
    rw (le-leb _ _ a, le-leb _ _ b, le-leb _ _ l, lt-ltb _ _ h, le-leb _ _ k)

pub record Span-of (start end size : ℕ) (s : Span) : Type 0 where
  pub forwards : start < end
  pub inside : end ≤ size
  pub small : size ≤ largest_position
  pub is : s ≡ other_strand start end size

pub converts_of : (start end size : ℕ) (s : Span) → converted start end size ≡ Ok s → Span-of start end size s
unfolding converted
converts_of start end size s e = go (in_coordinates start && (in_coordinates end && in_coordinates size)) (ltb start end && leb end size) refl refl e
  where
    go : (t u : Bool) → (in_coordinates start && (in_coordinates end && in_coordinates size)) ≡ t → (ltb start end && leb end size) ≡ u
        → require t (not_converted NumberOutOfRange) (require u (not_converted SpanDisagrees) (Ok (other_strand start end size))) ≡ Ok s → Span-of start end size s
    go false u p q k = absurd (let z : ◌≡◌ {A = ℕ} 0 1 = cc in omega arith)
    go true false p q k = absurd (let z : ◌≡◌ {A = ℕ} 0 1 = cc in omega arith)
    go true true p q k =
        let a = both (in_coordinates start) _ p in
        let b = both (in_coordinates end) (in_coordinates size) a.1 in
        let c = both (ltb start end) (leb end size) q in
        record { forwards = ltb-true _ _ c.0; inside = leb-true _ _ c.1; small = leb-true _ _ b.1; is = cc }

-- CONVERTING TWICE RESTORES
pub converts_twice : (start end size : ℕ) (s : Span) → converted start end size ≡ Ok s → converted s.start s.end size ≡ Ok (record { start = start; end = end })
converts_twice start end size s e =
    let w = converts_of start end size s e in
    let l : start < end = w.forwards in
    let m : end ≤ size = w.inside in
    let a : size - (size - start) ≡ start = omega arith in
    let b : size - (size - end) ≡ end = omega arith in
    rw w.is (converts (size - end) (size - start) size (omega arith) (omega arith) w.small ∙ ap Ok (λ i. record { start = a i; end = b i }))
