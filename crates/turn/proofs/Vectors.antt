-- Chain A of 01's bench samples turned, and turned back: record and rows. (Its whole text is among the samples of `demands`.) Assumes nothing.
use mathlib.Core.Path.{◌≡◌, refl}
use mathlib.Core.Bool.{true}
use mathlib.Core.List.{List, [], ◌∷◌}
use Rattle.ledger.specs.declared.Strand.TheVariants.{Minus}
use Rattle.ledger.specs.declared.Reason.TheVariants.{BlockRules, NoRoom}
use Rattle.ledger.specs.declared.Row.{Row}
use Rattle.blocks.specs.Blocks.{order_from, blocks_fill, all_between, row_numbers_fit}
use Rattle.blocks.specs.Rows.{row_as}
use Rattle.chain.specs.declared.Chain.{Chain}
use Rattle.chain_laws.proofs.Vectors.{chain_a, rows_a}
use Rattle.chain.specs.Tests.{names_fit, fields_fit, spans_fit, rows_fit, chain_valid}
use Rattle.lift.specs.Accepted.{accepted}
use Rattle.turn.specs.Turns.{turned_rows, turned, not_turned, turn}
use Rattle.ledger.specs.Parts.{part_at}
use Rattle.std.specs.Prelude.{Ok}

-- A with its last size 10 in place of 9
abbrev long_a : List Row
long_a = row_as 10 5 10 ∷ row_as 23 15 8 ∷ row_as 31 24 10 ∷ []

abbrev turned_a : Chain
turned_a = record {
  score = 100;
  tName = part_at 25 2;
  tSize = 80;
  tStart = 47;
  tEnd = 75;
  qName = part_at 10 2;
  qSize = 100;
  qStrand = Minus;
  qStart = 60;
  qEnd = 90;
  id = 7;
  blockCount = 3;
}

abbrev turned_rows_a : List Row
turned_rows_a = row_as 47 60 9 ∷ row_as 57 69 8 ∷ row_as 65 80 10 ∷ []

-- a chain that turns into another and back: both accepted, record and rows
pub record TurnsInto (c : Chain) (rows : List Row) (d : Chain) (rows' : List Row) : Type 0 where
  pub from_accepted : accepted c rows ≡ true
  pub to_accepted : accepted d rows' ≡ true
  pub there : turned c ≡ d
  pub rows_there : turned_rows c rows ≡ rows'
  pub back : turned d ≡ c
  pub rows_back : turned_rows d rows' ≡ rows

pub sample_turns : TurnsInto chain_a rows_a turned_a turned_rows_a
unfolding turned turned_rows accepted chain_valid names_fit fields_fit row_numbers_fit spans_fit rows_fit order_from blocks_fill all_between
sample_turns = record { from_accepted = refl; to_accepted = refl; there = refl; rows_there = refl; back = refl; rows_back = refl }

-- into three rows of room and no fewer; and not with a block that passes the span's end
pub sample_answers : (turn chain_a rows_a 3 ≡ Ok turned_a) × (turn chain_a rows_a 2 ≡ not_turned NoRoom) × (turn chain_a long_a 3 ≡ not_turned BlockRules)
unfolding turn turned accepted chain_valid names_fit fields_fit row_numbers_fit spans_fit rows_fit order_from blocks_fill all_between
sample_answers = (refl, refl, refl)
