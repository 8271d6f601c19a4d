-- Chain A of 01's bench samples: its regions and a tally over them, computed on the definitions. Assumes nothing.
use mathlib.Core.Path.{◌≡◌, refl}
use mathlib.Core.List.{List, [], ◌∷◌, map}
use Prim.Native.Nat.{ℕ, ◌-◌}
use Rattle.ledger.specs.declared.Reason.TheVariants.{NumberOutOfRange, NoPair, OutsideTarget}
use Rattle.ledger.specs.Limits.{tally_limit}
use Rattle.blocks.specs.Blocks.{order_from, blocks_fill, all_between, row_numbers_fit}
use Rattle.chain_laws.proofs.Vectors.{chain_a, rows_a}
use Rattle.chain.specs.Tests.{names_fit, fields_fit, spans_fit, rows_fit, chain_valid}
use Rattle.lift.specs.Accepted.{accepted}
use Rattle.lift.specs.Pairs.{block_pairs, pairs_of, pairs, partner_of}
use Rattle.region.specs.declared.Tally.{Tally}
use Rattle.region.specs.Regions.{count_of, kept, dropped, partners_in, least, bound, not_lifted, inside, carried, lift_region}
use Rattle.region.specs.Tallies.{good_tally, tally_step, Sent, counts, counted, total, sums, zero_tally, sent_through}
use Rattle.region.specs.Batches.{sent_as, answer_rows}
use Rattle.std.specs.Prelude.{Ok, Result}
use Rattle.ledger.specs.declared.Refusal.{Refusal}
use Rattle.region.specs.declared.Region.{Region}

-- a region of chain A and its answer
pub record Sample : Type 0 where
  pub start : ℕ
  pub end : ℕ
  pub answer : Result Region Refusal

abbrev sample : ℕ → ℕ → Result Region Refusal → Sample
sample a e x = record { start = a; end = e; answer = x }

abbrev Right : List Sample → Type 0
Right [] = Unit {0}
Right (s ∷ ss) = (lift_region chain_a rows_a s.start s.end ≡ s.answer) × Right ss

abbrev pub samples_lem : List Sample
samples_lem =
    sample 18 25 (Ok (record { kept = 4; dropped = 3; start = 63; end = 67 }))
    ∷ sample 20 23 (not_lifted NoPair)
    ∷ sample 20 20 (not_lifted OutsideTarget)
    ∷ sample 0 100 (Ok (record { kept = 27; dropped = 73; start = 47; end = 75 }))
    ∷ sample 0 101 (not_lifted OutsideTarget)
    ∷ []

pub samples_right : Right samples_lem
unfolding lift_region carried inside accepted chain_valid names_fit fields_fit row_numbers_fit spans_fit rows_fit order_from blocks_fill all_between pairs pairs_of block_pairs partner_of count_of kept dropped partners_in least bound
samples_right = (refl, (refl, (refl, (refl, (refl, tt)))))

-- a tally over the first three: the second, refused by 12, counts, and the third does not
abbrev sent : ℕ → ℕ → Sent
sent a e = record { chain = chain_a; rows = rows_a; start = a; end = e }

abbrev tally : ℕ → ℕ → ℕ → Tally
tally a k d = record { asked = a; kept = k; dropped = d }

abbrev pub batch_a : List Sent
batch_a = sent 18 25 ∷ sent 20 23 ∷ sent 20 20 ∷ []

pub batch_tallied : sent_through zero_tally batch_a ≡ tally 10 4 6
unfolding sent_through tally_step good_tally carried inside accepted chain_valid names_fit fields_fit row_numbers_fit spans_fit rows_fit order_from blocks_fill all_between pairs pairs_of block_pairs partner_of count_of kept dropped partners_in least bound
batch_tallied = refl

pub batch_summed : sums batch_a ≡ tally 10 4 6
unfolding sums counted counts total inside accepted chain_valid names_fit fields_fit row_numbers_fit spans_fit rows_fit order_from blocks_fill all_between pairs pairs_of block_pairs partner_of count_of kept dropped
batch_summed = refl

-- asked may reach its limit, and may not pass it
pub limit_reached : tally_step (tally (tally_limit - 7) 0 (tally_limit - 7)) chain_a rows_a 18 25 ≡ record { tally = tally tally_limit 4 (tally_limit - 4); answer = Ok (record { kept = 4; dropped = 3; start = 63; end = 67 }) }
unfolding tally_step good_tally carried inside accepted chain_valid names_fit fields_fit row_numbers_fit spans_fit rows_fit order_from blocks_fill all_between pairs pairs_of block_pairs partner_of count_of kept dropped partners_in least bound
limit_reached = refl

pub limit_kept : tally_step (tally tally_limit 4 (tally_limit - 4)) chain_a rows_a 20 23 ≡ record { tally = tally tally_limit 4 (tally_limit - 4); answer = not_lifted NumberOutOfRange }
unfolding tally_step good_tally carried inside accepted chain_valid names_fit fields_fit row_numbers_fit spans_fit rows_fit order_from blocks_fill all_between
limit_kept = refl

-- the rows of a batch through chain A
pub batch_answered : answer_rows zero_tally (map (sent_as chain_a rows_a) ((18 ∷ 25 ∷ []) ∷ (20 ∷ 23 ∷ []) ∷ (20 ∷ 20 ∷ []) ∷ (0 ∷ 101 ∷ []) ∷ []))
    ≡ (0 ∷ 4 ∷ 3 ∷ 63 ∷ 67 ∷ []) ∷ (12 ∷ 0 ∷ 0 ∷ 0 ∷ 0 ∷ []) ∷ (13 ∷ 0 ∷ 0 ∷ 0 ∷ 0 ∷ []) ∷ (13 ∷ 0 ∷ 0 ∷ 0 ∷ 0 ∷ []) ∷ []
unfolding answer_rows tally_step good_tally carried inside accepted chain_valid names_fit fields_fit row_numbers_fit spans_fit rows_fit order_from blocks_fill all_between pairs pairs_of block_pairs partner_of count_of kept dropped partners_in least bound
batch_answered = refl

-- asked 5 below its limit: 6 bases are passed over, 5 fill it, and 1 more is passed over
pub batch_full : answer_rows (tally (tally_limit - 5) 0 (tally_limit - 5)) (map (sent_as chain_a rows_a) ((10 ∷ 16 ∷ []) ∷ (10 ∷ 15 ∷ []) ∷ (10 ∷ 11 ∷ []) ∷ []))
    ≡ (5 ∷ 0 ∷ 0 ∷ 0 ∷ 0 ∷ []) ∷ (0 ∷ 5 ∷ 0 ∷ 70 ∷ 75 ∷ []) ∷ (5 ∷ 0 ∷ 0 ∷ 0 ∷ 0 ∷ []) ∷ []
unfolding answer_rows tally_step good_tally carried inside accepted chain_valid names_fit fields_fit row_numbers_fit spans_fit rows_fit order_from blocks_fill all_between pairs pairs_of block_pairs partner_of count_of kept dropped partners_in least bound
batch_full = refl
