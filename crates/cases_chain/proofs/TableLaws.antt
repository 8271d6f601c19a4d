-- What each entry shows at its end, on plain values. Assumes nothing.
use mathlib.Core.Path.{◌≡◌, sym, ap, ◌∙◌}
use mathlib.Core.List.{List, ◌++◌}
use Prim.Native.Nat.{ℕ, min}
use native.Mathlib.Omega.{arith}
use lib.ListN.{length, take, drop, length-take, length-append, length-drop}
use lib.Seq.{length-take-le}
use Rattle.ledger.specs.declared.Row.{Row}
use Rattle.ledger.specs.Limits.{block_limit}
use Rattle.blocks.specs.Rows.{targets_of, queries_of, sizes_of}
use Rattle.rows.specs.Staging.{all_reach, Loaded, stored_rows, Columns, Fronts}
use Rattle.chain.specs.declared.Chain.{Chain}
use Rattle.chain.specs.Records.{chain_targets, chain_queries, chain_sizes}
use Rattle.chain.specs.Read.{chain_read}
use Rattle.chain.specs.Write.{record_check, ChainWrote}
use Rattle.table_chain.specs.Rows.{table_after, RowsRead}
use Rattle.rows.proofs.ReaderLaws.{read_of}
use Rattle.table_chain.proofs.RowLaws.{chain_reads}
use Rattle.cases_chain.specs.Tables.{table_limit, TableRead, TableChecked, TableWrote}
use Rattle.cases_chain.proofs.FillLaws.{filled_targets, filled_queries, filled_sizes, copied_lem}
use Rattle.std.specs.Prelude.{Ok, Result, ⊤}
use Rattle.ledger.specs.declared.Refusal.{Refusal}

-- a table filled from columns
module _ (n : ℕ) (ts qs zs : List ℕ) (marked table : List Row) (en : n ≡ min (length ts) table_limit) (long : length marked ≡ table_limit) (stored : table ≡ stored_rows n ts qs zs marked) where
  pub table_checked : (r : Chain) (x : Result ⊤ Refusal) → x ≡ record_check r (targets_of (take n table)) (queries_of (take n table)) (sizes_of (take n table)) → TableChecked r ts qs zs x
  table_checked r x e = record {
    is = λ even. rw (
      filled_targets n ts qs zs marked table en long stored even,
      filled_queries n ts qs zs marked table en long stored even,
      filled_sizes n ts qs zs marked table en long stored even,
    ) at e;
  }

  pub table_wrote : (r : Chain) (tName qName before after : List ℕ) (x : Result ℕ Refusal) → ChainWrote r tName qName (targets_of (take n table)) (queries_of (take n table)) (sizes_of (take n table)) before after x
      → TableWrote r tName qName ts qs zs before after x
  table_wrote r tName qName before after x e = record {
    is = λ even. rw (
      filled_targets n ts qs zs marked table en long stored even,
      filled_queries n ts qs zs marked table en long stored even,
      filled_sizes n ts qs zs marked table en long stored even,
    ) at e;
  }

-- a table of which a part from its front was lent has the length that it had
pub whole_length : (n room : ℕ) (marked after : List Row) → n ≡ min room block_limit → length marked ≡ block_limit → length after ≡ length (take n marked) → length (after ++ drop n marked) ≡ block_limit
whole_length n room marked after en long e = simp (length-append, length-drop) (omega (arith, e, length-take-le n marked (omega arith)))

-- rows copied out to columns
module _ (s : List ℕ) (room n : ℕ) (marked after : List Row) (ts ts' qs qs' zs zs' : List ℕ) (x : Result Chain Refusal) (en : n ≡ min room block_limit) (long : length marked ≡ block_limit) (read : RowsRead s (take n marked) after x)
    (all : length (after ++ drop n marked) ≡ block_limit) (loaded : Loaded (all_reach (length (after ++ drop n marked)) ts qs zs) (after ++ drop n marked) ts ts' qs qs' zs zs')
    (et : length ts' ≡ length ts) (eq : length qs' ≡ length qs) (ez : length zs' ≡ length zs) where
  lent : length (take n marked) ≡ n
  lent = rw length-take (omega arith)

  answer : x ≡ chain_read s (min room block_limit)
  answer = rw (lent, en) at read.is

  held : Columns ts qs zs → (r : Chain) → x ≡ Ok r → Fronts r.blockCount (min room block_limit) (chain_targets s r) (chain_queries s r) (chain_sizes s r) ts' qs' zs'
  held cols r k =
      let l = chain_reads s in
      let o = read_of l (length (take n marked)) r (sym read.is ∙ k) in
      copied_lem room n r.blockCount marked after ts ts' qs qs' zs zs' _ _ _ en long (omega (arith, o.1, lent)) (read.rows ∙ ap (λ (y : Result Chain Refusal). table_after y s (take n marked)) k)
      (l.targets r o.0) (l.queries r o.0) (l.sizes r o.0) all loaded et eq ez cols

  pub table_read : TableRead s room ts ts' qs qs' zs zs' x
  table_read = record { is = answer; columns = λ cols. record { is = answer; held = held cols } }
