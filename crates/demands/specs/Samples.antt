-- THE SAMPLES OF 01 MARKED P, from their bytes: each is what the readers' definitions make of the text, then lifted, turned or written by the definitions.
use Rattle.std.specs.Prelude.{ℕ, ◌≡◌, List, [], ◌∷◌, ℤ, pos, Ok, Err, Result}
use Rattle.ledger.specs.declared.Row.{Row}
use Rattle.ledger.specs.declared.Refusal.{Refusal}
use Rattle.ledger.specs.Reasons.{reason_number}
use Rattle.ledger.specs.Limits.{block_limit}
use Rattle.text.specs.Parts.{part_bytes}
use Rattle.blocks.specs.Rows.{targets_of, queries_of, sizes_of}
use Rattle.psl.specs.Read.{psl_read}
use Rattle.psl.specs.declared.Psl.{Psl}
use Rattle.chain.specs.declared.Chain.{Chain}
use Rattle.chain.specs.Read.{chain_read}
use Rattle.chain.specs.Write.{chain_text}
use Rattle.lift.specs.Positions.{lift_position}
use Rattle.region.specs.Regions.{lift_region}
use Rattle.region.specs.declared.Region.{Region}
use Rattle.turn.specs.Turns.{turned_rows, turn}
use Rattle.chain.specs.Records.{chain_rows}

-- what a sample says: nothing refused and these numbers, these bytes, or a refusal's number and place
pub data Outcome : Type 0 where
  lifted : ℕ → ℤ → Outcome
  lifted_region : ℕ → ℕ → ℕ → ℕ → Outcome
  bytes : List ℕ → Outcome
  accepted : Outcome
  refused : ℕ → ℕ → Outcome

-- a position lifted through a chain's text, a region, the turned chain's standard text, a PSL line read
abbrev pub refused_by : Refusal → Outcome
refused_by x = refused (reason_number x.reason) x.place

-- partner and drift
abbrev pub of_position : Result (ℕ × ℤ) Refusal → Outcome
of_position (Ok (q, d)) = lifted q d
of_position (Err x) = refused_by x

abbrev pub of_region : Result Region Refusal → Outcome
of_region (Ok r) = lifted_region r.kept r.dropped r.start r.end
of_region (Err x) = refused_by x

-- the standard text of a turned chain, its names being parts of the text that the chain was read from
abbrev pub of_turn : List ℕ → List Row → Result Chain Refusal → Outcome
of_turn s rows (Ok d) = bytes (chain_text d (part_bytes s d.tName) (part_bytes s d.qName) (targets_of rows) (queries_of rows) (sizes_of rows))
of_turn s rows (Err x) = refused_by x

abbrev pub of_psl : Result Psl Refusal → Outcome
of_psl (Ok r) = accepted
of_psl (Err x) = refused_by x

abbrev pub of_chain : Result Chain Refusal → (Chain → Outcome) → Outcome
of_chain (Ok c) rest = rest c
of_chain (Err x) rest = refused_by x

-- a sample: a text and what is asked of it
pub data Asked : Type 0 where
  position_of : ℕ → Asked
  region_of : ℕ → ℕ → Asked
  turned_text : Asked
  read_chain : Asked
  read_psl : Asked

pub record Sample : Type 0 where
  pub text : List ℕ
  pub asked : Asked
  pub says : Outcome

-- what the definitions answer
abbrev pub answer_to : List ℕ → Asked → Outcome
answer_to s (position_of p) = of_chain (chain_read s block_limit) (λ c. of_position (lift_position c (chain_rows s c) p))
answer_to s (region_of a e) = of_chain (chain_read s block_limit) (λ c. of_region (lift_region c (chain_rows s c) a e))
answer_to s turned_text = of_chain (chain_read s block_limit) (λ c. of_turn s (turned_rows c (chain_rows s c)) (turn c (chain_rows s c) block_limit))
answer_to s read_chain = of_chain (chain_read s block_limit) (λ c. accepted)
answer_to s read_psl = of_psl (psl_read s block_limit)

-- each of them answers as it says
pub data AllRight : List Sample → Type 0 where
  none_left : AllRight []
  and_right : {x : Sample} {xs : List Sample} → answer_to x.text x.asked ≡ x.says → AllRight xs → AllRight (x ∷ xs)

-- chain A, whole:
-- chain 100 tA 100 + 10 40 qB 80 - 5 33 7
-- 10 3 0
-- 8 0 1
-- 9
abbrev pub chain_a : List ℕ
chain_a =
    99 ∷ 104 ∷ 97 ∷ 105 ∷ 110 ∷ 32 ∷ 49 ∷ 48 ∷ 48 ∷ 32 ∷ 116 ∷ 65 ∷ 32 ∷ 49 ∷ 48 ∷ 48 ∷ 32 ∷ 43 ∷ 32 ∷ 49 ∷ 48 ∷ 32 ∷ 52 ∷ 48
    ∷ 32 ∷ 113 ∷ 66 ∷ 32 ∷ 56 ∷ 48 ∷ 32 ∷ 45 ∷ 32 ∷ 53 ∷ 32 ∷ 51 ∷ 51 ∷ 32 ∷ 55 ∷ 10 ∷ 49 ∷ 48 ∷ 32 ∷ 51 ∷ 32 ∷ 48 ∷ 10 ∷ 56
    ∷ 32 ∷ 48 ∷ 32 ∷ 49 ∷ 10 ∷ 57 ∷ 10 ∷ []

-- turned, whole:
-- chain 100 qB 80 + 47 75 tA 100 - 60 90 7
-- 9 1 0
-- 8 0 3
-- 10
abbrev pub chain_turned : List ℕ
chain_turned =
    99 ∷ 104 ∷ 97 ∷ 105 ∷ 110 ∷ 32 ∷ 49 ∷ 48 ∷ 48 ∷ 32 ∷ 113 ∷ 66 ∷ 32 ∷ 56 ∷ 48 ∷ 32 ∷ 43 ∷ 32 ∷ 52 ∷ 55 ∷ 32 ∷ 55 ∷ 53 ∷ 32
    ∷ 116 ∷ 65 ∷ 32 ∷ 49 ∷ 48 ∷ 48 ∷ 32 ∷ 45 ∷ 32 ∷ 54 ∷ 48 ∷ 32 ∷ 57 ∷ 48 ∷ 32 ∷ 55 ∷ 10 ∷ 57 ∷ 32 ∷ 49 ∷ 32 ∷ 48 ∷ 10 ∷ 56
    ∷ 32 ∷ 48 ∷ 32 ∷ 51 ∷ 10 ∷ 49 ∷ 48 ∷ 10 ∷ []

-- A with its last size 10 in place of 9
abbrev pub chain_long : List ℕ
chain_long =
    99 ∷ 104 ∷ 97 ∷ 105 ∷ 110 ∷ 32 ∷ 49 ∷ 48 ∷ 48 ∷ 32 ∷ 116 ∷ 65 ∷ 32 ∷ 49 ∷ 48 ∷ 48 ∷ 32 ∷ 43 ∷ 32 ∷ 49 ∷ 48 ∷ 32 ∷ 52 ∷ 48
    ∷ 32 ∷ 113 ∷ 66 ∷ 32 ∷ 56 ∷ 48 ∷ 32 ∷ 45 ∷ 32 ∷ 53 ∷ 32 ∷ 51 ∷ 51 ∷ 32 ∷ 55 ∷ 10 ∷ 49 ∷ 48 ∷ 32 ∷ 51 ∷ 32 ∷ 48 ∷ 10 ∷ 56
    ∷ 32 ∷ 48 ∷ 32 ∷ 49 ∷ 10 ∷ 49 ∷ 48 ∷ 10 ∷ []

-- 27 0 0 0 1 1 1 3 - qB 80 47 75 tA 100 10 40 3 10,8,9, 5,15,24, 10,23,31,
abbrev pub psl_line : List ℕ
psl_line =
    50 ∷ 55 ∷ 32 ∷ 48 ∷ 32 ∷ 48 ∷ 32 ∷ 48 ∷ 32 ∷ 49 ∷ 32 ∷ 49 ∷ 32 ∷ 49 ∷ 32 ∷ 51 ∷ 32 ∷ 45 ∷ 32 ∷ 113 ∷ 66 ∷ 32 ∷ 56 ∷ 48
    ∷ 32 ∷ 52 ∷ 55 ∷ 32 ∷ 55 ∷ 53 ∷ 32 ∷ 116 ∷ 65 ∷ 32 ∷ 49 ∷ 48 ∷ 48 ∷ 32 ∷ 49 ∷ 48 ∷ 32 ∷ 52 ∷ 48 ∷ 32 ∷ 51 ∷ 32 ∷ 49 ∷ 48
    ∷ 44 ∷ 56 ∷ 44 ∷ 57 ∷ 44 ∷ 32 ∷ 53 ∷ 44 ∷ 49 ∷ 53 ∷ 44 ∷ 50 ∷ 52 ∷ 44 ∷ 32 ∷ 49 ∷ 48 ∷ 44 ∷ 50 ∷ 51 ∷ 44 ∷ 51 ∷ 49 ∷ 44 ∷ []

-- the same with 5 33 for 47 75
abbrev pub psl_reversed : List ℕ
psl_reversed =
    50 ∷ 55 ∷ 32 ∷ 48 ∷ 32 ∷ 48 ∷ 32 ∷ 48 ∷ 32 ∷ 49 ∷ 32 ∷ 49 ∷ 32 ∷ 49 ∷ 32 ∷ 51 ∷ 32 ∷ 45 ∷ 32 ∷ 113 ∷ 66 ∷ 32 ∷ 56 ∷ 48
    ∷ 32 ∷ 53 ∷ 32 ∷ 51 ∷ 51 ∷ 32 ∷ 116 ∷ 65 ∷ 32 ∷ 49 ∷ 48 ∷ 48 ∷ 32 ∷ 49 ∷ 48 ∷ 32 ∷ 52 ∷ 48 ∷ 32 ∷ 51 ∷ 32 ∷ 49 ∷ 48 ∷ 44
    ∷ 56 ∷ 44 ∷ 57 ∷ 44 ∷ 32 ∷ 53 ∷ 44 ∷ 49 ∷ 53 ∷ 44 ∷ 50 ∷ 52 ∷ 44 ∷ 32 ∷ 49 ∷ 48 ∷ 44 ∷ 50 ∷ 51 ∷ 44 ∷ 51 ∷ 49 ∷ 44 ∷ []

abbrev pub in_a : Asked → Outcome → Sample
in_a what says = record { text = chain_a; asked = what; says = says }

-- THE LIST
abbrev pub samples : List Sample
samples =
    in_a turned_text (bytes chain_turned)
    ∷ in_a (position_of 10) (lifted 74 (pos 64))
    ∷ in_a (position_of 19) (lifted 65 (pos 46))
    ∷ in_a (position_of 23) (lifted 64 (pos 41))
    ∷ in_a (position_of 31) (lifted 55 (pos 24))
    ∷ in_a (position_of 20) (refused 12 0)
    ∷ in_a (position_of 22) (refused 12 0)
    ∷ in_a (position_of 40) (refused 12 0)
    ∷ in_a (position_of 99) (refused 12 0)
    ∷ in_a (position_of 100) (refused 13 0)
    ∷ in_a (region_of 18 25) (lifted_region 4 3 63 67)
    ∷ in_a (region_of 20 23) (refused 12 0)
    ∷ in_a read_chain accepted
    ∷ record { text = chain_long; asked = read_chain; says = refused 9 56 }
    ∷ record { text = psl_line; asked = read_psl; says = accepted }
    ∷ record { text = psl_reversed; asked = read_psl; says = refused 9 71 }
    ∷ []
