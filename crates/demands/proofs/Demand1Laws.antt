-- Demand 1 holds. Assumes nothing.
use mathlib.Core.Path.{◌≡◌}
use Prim.Native.Nat.{ℕ, ◌+◌, ◌*◌, ◌≤◌}
use native.Mathlib.Omega.{arith}
use lib.ListN.{length}
use Rattle.ledger.specs.declared.Reason.{Reason}
use Rattle.ledger.specs.declared.Reason.TheVariants.{TextTooLong, WrongCount, ByteNotAllowed, NumberMisspelt, NumberOutOfRange, BadWord, SpanDisagrees, ListLength, BlockRules, CountsDisagree, NoRoom, NoPair, OutsideTarget}
use Rattle.ledger.specs.Reasons.{reason_number}
use Rattle.ledger.proofs.Laws.{numbers_distinct}
use Rattle.table_bed.proofs.TableLaws as bedTable
use Rattle.table_psl.proofs.TableLaws as pslTable
use Rattle.table_chain.proofs.TableLaws as chainTable
use Rattle.table_turn.proofs.TableLaws as turnTable
use Rattle.table_lift.proofs.TableLaws.{tally_left, tally_added, batch_refused}
use Rattle.entries.proofs.QuietLaws as desk
use Rattle.demands.specs.Bed.{bed}
use Rattle.demands.specs.Psl.{psl}
use Rattle.demands.specs.Chain.{chain}
use Rattle.demands.specs.Demand1.{Refusals, Demand1}
use Rattle.demands.proofs.TextPlaceLaws.{bed_read_in, psl_read_in, numbers_read_in, chain_read_in}
use Rattle.demands.proofs.EndLaws.{bed_write_at, psl_write_at, chain_write_at, check_ends, parse_ends, format_ends, numbers_ends, convert_ends, lift_position_ends, lift_region_ends, turned_ends, tallied_ends, batch_ends}
use Rattle.demands.proofs.RefusalLaws.{turn_at, tally_grows}

-- the formats
bed_refusals : Refusals bed
unfolding bed
bed_refusals = record {
  reader_place = λ s before after x w. rw (← w.is) at (bed_read_in s (length before));
  writer_place = λ r ns table before after x w. bed_write_at _ _ _ (length before) x r _ _ w.is;
  table_left = λ s before after x w. bedTable.refused_rows_lem s x before after w;
  buffer_left = λ r ns table before after x w. w.left;
}

psl_refusals : Refusals psl
unfolding psl
psl_refusals = record {
  reader_place = λ s before after x w. rw (← w.is) at (psl_read_in s (length before));
  writer_place = λ r ns table before after x w. psl_write_at _ _ _ (length before) x r _ _ w.is;
  table_left = λ s before after x w. pslTable.refused_rows_lem s x before after w;
  buffer_left = λ r ns table before after x w. w.left;
}

chain_refusals : Refusals chain
unfolding chain
chain_refusals = record {
  reader_place = λ s before after x w. rw (← w.is) at (chain_read_in s (length before));
  writer_place = λ r ns table before after x w. chain_write_at _ _ _ (length before) x r _ _ w.is;
  table_left = λ s before after x w. chainTable.refused_rows_lem s x before after w;
  buffer_left = λ r ns table before after x w. w.left;
}

-- the numbers of the ledger
pub thirteen : (why : Reason) → (1 ≤ reason_number why) × (reason_number why ≤ 13)
thirteen TextTooLong = (omega arith, omega arith)
thirteen WrongCount = (omega arith, omega arith)
thirteen ByteNotAllowed = (omega arith, omega arith)
thirteen NumberMisspelt = (omega arith, omega arith)
thirteen NumberOutOfRange = (omega arith, omega arith)
thirteen BadWord = (omega arith, omega arith)
thirteen SpanDisagrees = (omega arith, omega arith)
thirteen ListLength = (omega arith, omega arith)
thirteen BlockRules = (omega arith, omega arith)
thirteen CountsDisagree = (omega arith, omega arith)
thirteen NoRoom = (omega arith, omega arith)
thirteen NoPair = (omega arith, omega arith)
thirteen OutsideTarget = (omega arith, omega arith)

unlike : (n place : ℕ) (why : Reason) → 16 * n ≡ 16 * place + reason_number why → ⊥
unlike n place why e = let t = thirteen why in omega (arith, t.0, t.1)

tells : (p q : ℕ) (why other : Reason) → 16 * p + reason_number why ≡ 16 * q + reason_number other → (p ≡ q) × (why ≡ other)
tells p q why other e =
    let t = thirteen why in
    let u = thirteen other in
    (omega (arith, t.0, t.1, u.0, u.1), numbers_distinct why other (omega (arith, t.0, t.1, u.0, u.1)))

-- DEMAND 1
pub demand1 : Demand1
demand1 = record {
  beds = bed_refusals;
  psls = psl_refusals;
  chains = chain_refusals;
  numbers_reader = λ s before after x w. (rw (← w.is) at (numbers_read_in s (length before)), w.left);
  turner = λ c rows before after x w. (turn_at c rows (length before) x w.is, turnTable.refused_rows_lem c rows before after x w);
  tally_grows = tally_grows;
  tally = tally_left;
  tally_none = tally_added;
  batch = batch_refused;
  bed_slices = λ s ts ts' qs qs' zs zs' x w. (w.targets, w.queries, w.sizes);
  psl_slices = λ s ts ts' qs qs' zs zs' x w. (w.targets, w.queries, w.sizes);
  chain_slices = λ s ts ts' qs qs' zs zs' x w. (w.targets, w.queries, w.sizes);
  turn_slices = λ c rows ts qs zs ts' qs' zs' x w. (w.targets, w.queries, w.sizes);
  bed_buffer = λ r chrom name ts qs zs before after x w. w.left;
  psl_buffer = λ r qName tName ts qs zs before after x w. w.left;
  chain_buffer = λ r tName qName ts qs zs before after x w. w.left;
  check = check_ends;
  parse = λ kind s. record { ends = λ b b' a. parse_ends b b' a kind s; left = λ b b' a. desk.parse_left b b' a kind s };
  format = λ kind s. record { ends = λ b b' a. format_ends b b' a kind s; left = λ b b' a. desk.format_left b b' a kind s };
  numbers = λ s. record { ends = λ b b' a. numbers_ends b b' a s; left = λ b b' a. desk.numbers_left b b' a s };
  convert = λ start end size. record { ends = λ b b' a. convert_ends b b' a start end size; left = λ b b' a. desk.convert_left b b' a start end size };
  lift_position = λ s p. record { ends = λ b b' a. lift_position_ends b b' a s p; left = λ b b' a. desk.position_left b b' a s p };
  lift_region = λ s start end. record { ends = λ b b' a. lift_region_ends b b' a s start end; left = λ b b' a. desk.region_left b b' a s start end };
  turn_text = λ s. record { ends = λ b b' a. turned_ends b b' a s; left = λ b b' a. desk.turn_left b b' a s };
  tally_ends = tallied_ends;
  tally_left = desk.tally_left;
  batch_ends = batch_ends;
  batch_left = desk.batch_left;
  thirteen = thirteen;
  unlike = unlike;
  tells = tells;
}
