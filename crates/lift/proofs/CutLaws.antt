-- An accepted chain is seen by as many first rows of its table as a record may have blocks. Assumes nothing.
use mathlib.Core.Path.{◌≡◌, refl, ap}
use mathlib.Core.Bool.{Bool, true, false, ◌&&◌}
use mathlib.Core.List.{List}
use Prim.Native.Nat.{ℕ, min}
use native.Mathlib.Omega.{arith}
use lib.ListN.{length}
use lib.Seq.{take-take}
use Rattle.ledger.specs.Limits.{block_limit}
use Rattle.ledger.specs.declared.Row.{Row}
use Rattle.rows.proofs.StagingLaws.{cut_rows, rows_cut}
use Rattle.chain.specs.declared.Chain.{Chain}
use Rattle.ledger.specs.Strands.{is_told}
use Rattle.chain.specs.Tests.{names_fit, fields_fit, spans_fit, rows_fit, chain_valid}
use Rattle.lift.specs.Accepted.{used, accepted}
use Rattle.lift.proofs.AcceptLaws.{accepted_rules}
use Rattle.blocks.specs.Blocks.{row_numbers_fit}

-- the chain rules, as they look at the rows in use
abbrev rules_seen : Chain → Bool → List ℕ → List ℕ → List ℕ → Bool
rules_seen c t ts qs zs =
    t && (names_fit c.tName.length c.qName.length && (is_told c.qStrand && (fields_fit c && (row_numbers_fit ts qs zs && (spans_fit c && rows_fit c ts qs zs)))))

-- a record is accepted with the rows that are staged exactly when it is with the table
pub accepted_cut : (c : Chain) (rows : List Row) → accepted c (cut_rows rows) ≡ accepted c rows
unfolding accepted chain_valid
accepted_cut c rows = rows_cut (rules_seen c) (λ a b d e f g. refl) c.blockCount rows

-- and then the rows in use are the same
pub used_cut : (c : Chain) (rows : List Row) → accepted c rows ≡ true → used c (cut_rows rows) ≡ used c rows
used_cut c rows ok =
    let r = accepted_rules c rows ok in
    take-take c.blockCount (min (length rows) block_limit) rows (omega (arith, r.few_blocks, r.in_table))

-- NO MORE ROWS THAN A RECORD MAY HAVE: what looks at whether a chain is accepted and, where it is, at the rows in use, says the same of the rows that are staged
-- as of the table
pub seen_cut : {X : Type 0} (g : Bool → List Row → X) → ((a b : List Row) → g false a ≡ g false b) → (c : Chain) (rows : List Row)
    → g (accepted c (cut_rows rows)) (used c (cut_rows rows)) ≡ g (accepted c rows) (used c rows)
seen_cut {X} g blind c rows = rw (accepted_cut c rows) (go (accepted c rows) refl)
  where
    go : (t : Bool) → accepted c rows ≡ t → g t (used c (cut_rows rows)) ≡ g t (used c rows)
    go true e = ap (g true) (used_cut c rows e)
    go false e = blind _ _
