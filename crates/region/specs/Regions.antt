-- Lifting a region (01, "Pairs, lifting, turning"): its bases are start to end − 1; kept counts those in a pair, dropped those in none.
use Rattle.std.specs.Prelude.{ℕ, zero, suc, ◌+◌, ◌-◌, min, max, Bool, true, false, not, ◌&&◌, List, [], ◌∷◌, leb, ltb, Ok, Err, Result}
use Rattle.ledger.specs.Refusals.{without_text, require}
use Rattle.ledger.specs.declared.Reason.{Reason}
use Rattle.ledger.specs.declared.Reason.TheVariants.{BlockRules, NoPair, OutsideTarget}
use Rattle.ledger.specs.declared.Row.{Row}
use Rattle.chain.specs.declared.Chain.{Chain}
use Rattle.chain.specs.Records.{chain_rows}
use Rattle.chain.specs.Read.{chain_check}
use Rattle.lift.specs.Accepted.{accepted}
use Rattle.lift.specs.Pairs.{Pair, pairs, stands}
use Rattle.lift.specs.Texts.{of_checked}
use Rattle.ledger.specs.declared.Refusal.{Refusal}
use Rattle.region.specs.declared.Region.{Region}

-- how many of the n bases from a on pass a test, one by one
abbrev pub one : Bool → ℕ
one true = 1
one false = 0

unfoldable pub count_of : (ℕ → Bool) → ℕ → ℕ → ℕ
count_of test a zero = 0
count_of test a (suc n) = one (test a) + count_of test (suc a) n

-- KEPT: of the bases a to e − 1, those that stand in a pair
unfoldable pub kept : List Pair → ℕ → ℕ → ℕ
kept ps a e = count_of (λ (i : ℕ). stands i ps) a (e - a)

-- DROPPED: those that stand in none
unfoldable pub dropped : List Pair → ℕ → ℕ → ℕ
dropped ps a e = count_of (λ (i : ℕ). not (stands i ps)) a (e - a)

-- the partners of the bases a to e − 1
abbrev pub cons_if : Bool → ℕ → List ℕ → List ℕ
cons_if true q qs = q ∷ qs
cons_if false q qs = qs

unfoldable pub partners_in : ℕ → ℕ → List Pair → List ℕ
partners_in a e [] = []
partners_in a e (x ∷ xs) = cons_if (leb a x.target && ltb x.target e) x.query (partners_in a e xs)

-- the least of some numbers and d, and one more than the greatest, or d
unfoldable pub least : ℕ → List ℕ → ℕ
least d [] = d
least d (x ∷ xs) = least (min d x) xs

unfoldable pub bound : ℕ → List ℕ → ℕ
bound d [] = d
bound d (x ∷ xs) = bound (max d (suc x)) xs

abbrev pub not_lifted : Reason → Result Region Refusal
not_lifted why = Err (without_text why)

-- inside the target: start < end ≤ tSize
unfoldable pub inside : Chain → ℕ → ℕ → Bool
inside c a e = ltb a e && leb e c.tSize

-- kept, dropped, and the smallest query region that holds all partners, on the forward strand; where no base is kept there is no pair (12)
unfoldable pub carried : ℕ → List Pair → ℕ → ℕ → Result Region Refusal
carried size ps a e =
    require (leb 1 (kept ps a e)) (not_lifted NoPair)
    (Ok (record { kept = kept ps a e; dropped = dropped ps a e; start = least size (partners_in a e ps); end = bound 0 (partners_in a e ps) }))

-- THE LIFT OF A REGION: no accepted chain (9), not inside the target (13), no pair (12), each at place 0
unfoldable pub lift_region : Chain → List Row → ℕ → ℕ → Result Region Refusal
lift_region c rows a e =
    require (accepted c rows) (not_lifted BlockRules)
    (require (inside c a e) (not_lifted OutsideTarget)
    (carried c.qSize (pairs c rows) a e))

-- through a chain's text: refused as the text is, or lifted through the chain that it says
unfoldable pub text_lifted : List ℕ → ℕ → ℕ → Result Region Refusal
text_lifted s a e = of_checked Err (λ c. lift_region c (chain_rows s c) a e) (chain_check s)
