-- The laws of chains, said of a lent table of rows. Assumes nothing.
use mathlib.Core.Path.{◌≡◌, sym, ap, ◌∙◌}
use mathlib.Core.List.{List, ◌++◌}
use Prim.Native.Nat.{ℕ, ◌≤◌}
use lib.ListN.{length, take, drop}
use Rattle.ledger.specs.Limits.{text_limit}
use Rattle.ledger.specs.declared.Row.{Row}
use Rattle.ledger.specs.declared.Refusal.{Refusal}
use Rattle.blocks.specs.Rows.{targets_of, queries_of, sizes_of}
use Rattle.rows.proofs.StagingLaws.{table_front, put_same}
use Rattle.rows.proofs.ReaderLaws.{read_of}
use Rattle.chain.specs.declared.Chain.{Chain}
use Rattle.chain.specs.Records.{chain_targets, chain_queries, chain_sizes, chain_rows}
use Rattle.chain.specs.Tests.{chain_valid}
use Rattle.chain.specs.Write.{write_check, chain_text, record_check}
use Rattle.chain.specs.Rules.{placed}
use Rattle.chain_laws.proofs.ValidLaws.{accepted_valid}
use Rattle.chain_laws.proofs.BackLaws.{back_read, back_targets, back_queries, back_sizes}
use Rattle.table_chain.specs.Rows.{table_after, RowsRead}
use Rattle.table_chain.proofs.RowLaws.{chain_reads, check_seen}
use Rattle.std.specs.Prelude.{Ok, Err, Result}

-- A REFUSAL leaves the table
pub refused_rows_lem : (s : List ℕ) (y : Refusal) (before after : List Row) → RowsRead s before after (Err y) → after ≡ before
refused_rows_lem s y before after h = h.rows

-- WHAT A READER LEFT IS VALID: the record checker accepts the record with the table
pub left_valid : (s : List ℕ) (r : Chain) (before after : List Row) → RowsRead s before after (Ok r) → record_check r (targets_of after) (queries_of after) (sizes_of after) ≡ Ok tt
unfolding record_check chain_valid
left_valid s r before after h =
    let l = chain_reads s in
    let o = read_of l (length before) r (sym h.is) in
    ap (λ (t : List Row). record_check r (targets_of t) (queries_of t) (sizes_of t)) h.rows
    ∙ put_same r.blockCount (chain_targets s r) (chain_queries s r) (chain_sizes s r) before (l.targets r o.0) (l.queries r o.0) (l.sizes r o.0) (check_seen r) o.1
    ∙ rw (accepted_valid s r o.0)

-- THE ROUND TRIP: the standard text of a record with the rows of a table is read as the same record, and those rows go to the front of any table that has rows
-- enough
module _ (r : Chain) (tName qName : List ℕ) (rows : List Row) (ok : write_check r tName qName (targets_of rows) (queries_of rows) (sizes_of rows) ≡ (Ok tt))
    (short : length (chain_text r tName qName (targets_of rows) (queries_of rows) (sizes_of rows)) ≤ text_limit) where
  abbrev text : List ℕ
  text = chain_text r tName qName (targets_of rows) (queries_of rows) (sizes_of rows)

  spelt_rows : chain_rows text (placed text r) ≡ take r.blockCount rows
  spelt_rows =
      rw (back_targets r tName qName (targets_of rows) (queries_of rows) (sizes_of rows) ok short, back_queries r tName qName (targets_of rows) (queries_of rows) (sizes_of rows) ok short, back_sizes r tName qName (targets_of rows) (queries_of rows) (sizes_of rows) ok short)
      (table_front r.blockCount rows)

  pub back_rows : (before after : List Row) (x : Result Chain Refusal) → r.blockCount ≤ length before → RowsRead text before after x
      → (x ≡ Ok (placed text r)) × (after ≡ take r.blockCount rows ++ drop r.blockCount before)
  unfolding placed
  back_rows before after x room h =
      let e : x ≡ Ok (placed text r) = h.is ∙ back_read r tName qName (targets_of rows) (queries_of rows) (sizes_of rows) ok short (length before) room in
      (e, h.rows ∙ ap (λ (y : Result Chain Refusal). table_after y text before) e ∙ ap (λ (l : List Row). l ++ drop r.blockCount before) spelt_rows)
