-- Chain A of 01 on the definitions: its positions, and a span converted and back. Assumes nothing.
use mathlib.Core.Path.{◌≡◌, refl}
use mathlib.Core.List.{List, [], ◌∷◌}
use Prim.Native.Nat.{ℕ}
use lib.IntN.{pos}
use Rattle.ledger.specs.declared.Row.{Row}
use Rattle.ledger.specs.declared.Reason.TheVariants.{NumberOutOfRange, SpanDisagrees, BlockRules, NoPair, OutsideTarget}
use Rattle.blocks.specs.Blocks.{blocks_fill, order_from, all_between, row_numbers_fit}
use Rattle.blocks.specs.Rows.{row_as}
use Rattle.chain_laws.proofs.Vectors.{chain_a, rows_a}
use Rattle.chain.specs.Tests.{names_fit, fields_fit, spans_fit, rows_fit, chain_valid}
use Rattle.lift.specs.Accepted.{accepted}
use Rattle.lift.specs.Conversion.{not_converted, converted}
use Rattle.lift.specs.Pairs.{block_pairs, pairs_of, pairs, partner_of}
use Rattle.lift.specs.Positions.{not_lifted, lift_position}
use Rattle.std.specs.Prelude.{Ok, Result, ℤ}
use Rattle.ledger.specs.declared.Refusal.{Refusal}

-- each position and its answer
abbrev AllLift : List Row → List (ℕ × Result (ℕ × ℤ) Refusal) → Type 0
AllLift rows [] = Unit {0}
AllLift rows (x ∷ xs) = (lift_position chain_a rows x.0 ≡ x.1) × AllLift rows xs

positions_a : AllLift rows_a
    ((10, Ok (74, pos 64)) ∷ (19, Ok (65, pos 46)) ∷ (23, Ok (64, pos 41)) ∷ (31, Ok (55, pos 24)) ∷ (39, Ok (47, pos 8))
    ∷ (20, not_lifted NoPair) ∷ (22, not_lifted NoPair) ∷ (40, not_lifted NoPair) ∷ (99, not_lifted NoPair) ∷ (100, not_lifted OutsideTarget) ∷ [])
unfolding lift_position accepted chain_valid names_fit fields_fit row_numbers_fit spans_fit rows_fit blocks_fill order_from all_between pairs pairs_of block_pairs partner_of
positions_a = (refl, (refl, (refl, (refl, (refl, (refl, (refl, (refl, (refl, (refl, tt))))))))))

-- the last size 10 in place of 9
last_too_large : lift_position chain_a (row_as 10 5 10 ∷ row_as 23 15 8 ∷ row_as 31 24 10 ∷ []) 10 ≡ not_lifted BlockRules
unfolding lift_position accepted chain_valid names_fit fields_fit row_numbers_fit spans_fit rows_fit blocks_fill order_from all_between
last_too_large = refl

-- chain A's query span on the forward strand; and the refusals
converts_a : (converted 5 33 80 ≡ Ok (record { start = 47; end = 75 })) × (converted 47 75 80 ≡ Ok (record { start = 5; end = 33 }))
    × (converted 5 5 80 ≡ not_converted SpanDisagrees) × (converted 5 81 80 ≡ not_converted SpanDisagrees) × (converted 0 1 2147483648 ≡ not_converted NumberOutOfRange)
unfolding converted
converts_a = (refl, refl, refl, refl, refl)
