-- Demand 3 on turned chains, said of a lent table of rows. Assumes nothing.
use mathlib.Core.Path.{◌≡◌, sym, ap, ◌∙◌}
use mathlib.Core.List.{List, ◌++◌}
use Prim.Native.Nat.{ℕ}
use lib.ListN.{length, take, drop}
use lib.Seq.{take-append_seam}
use Rattle.ledger.specs.declared.Row.{Row}
use Rattle.ledger.specs.declared.Refusal.{Refusal}
use Rattle.chain.specs.declared.Chain.{Chain}
use Rattle.turn.specs.Turns.{turned_rows}
use Rattle.turn.proofs.TurnLaws.{counted_lem, Turnable, turnable, Turning, turning_of}
use Rattle.table_turn.specs.Turns.{RowsTurned}
use Rattle.std.specs.Prelude.{Ok, Err}

-- A REFUSAL leaves the table
pub refused_rows_lem : (c : Chain) (rows before after : List Row) (y : Refusal) → RowsTurned c rows before after (Err y) → after ≡ before
refused_rows_lem c rows before after y h = h.table

module _ (c : Chain) (rows before after : List Row) (d : Chain) (h : RowsTurned c rows before after (Ok d)) where
  made : Turnable c rows (length before) d
  made = turnable c rows (length before) d h.is

  -- the table begins with the turned rows
  begins : take c.blockCount after ≡ turned_rows c rows
  begins =
      ap (take c.blockCount) h.table ∙ ap (λ (n : ℕ). take n (turned_rows c rows ++ drop d.blockCount before)) (sym (counted_lem c rows made.ok))
      ∙ take-append_seam (turned_rows c rows) (drop d.blockCount before)

  -- A TURN THAT IS NOT REFUSED: the record and the table that it leaves are accepted, hold the pairs with the sides exchanged, lift back, and turn back
  pub rows_turning : Turning c rows d after
  rows_turning = turning_of c rows (length before) d made after begins
