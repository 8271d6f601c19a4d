-- What each step of reading a PSL line shows, on plain values. Assumes nothing.
use mathlib.Core.Path.{◌≡◌, sym, ap, ◌∙◌}
use mathlib.Core.Bool.{Bool, ◌&&◌}
use mathlib.Core.List.{List}
use Prim.Native.Nat.{ℕ, ◌+◌, ◌-◌, ◌*◌}
use native.Mathlib.Omega.{arith}
use lib.ListN.{length, take, drop}
use lib.Dec.{eqb}
use Rattle.ledger.specs.declared.Reason.TheVariants.{BlockRules, CountsDisagree}
use Rattle.ledger.specs.declared.Fault.{Fault}
use Rattle.ledger.specs.Limits.{block_limit}
use Rattle.ledger.specs.Refusals.{require}
use Rattle.text.specs.Checks.{fault}
use Rattle.text.specs.Steps.{Staged}
use Rattle.blocks.specs.Blocks.{capped, sum_of, gap_count, gap_bases}
use Rattle.blocks.proofs.GapLaws.{capped_eq}
use Rattle.blocks.proofs.TakeLaws.{part_all}
use Rattle.psl.specs.declared.Counts.{Counts}
use Rattle.psl.specs.declared.Psl.{Psl}
use Rattle.psl.specs.Records.{psl_record, psl_sizes, psl_queries, psl_targets}
use Rattle.psl.specs.Rows.{rows_fit, counts_fit}
use Rattle.psl.specs.Read.{span_check, row_check, after_line, psl_stages, psl_answer, psl_check, Listed, InRoom}
use Rattle.psl.specs.Steps.{CountsRange, Ready}
use Rattle.psl.proofs.AnswerLaws.{told_read}
use Rattle.std.specs.Prelude.{Ok, Err, Result, ⊤}
use Rattle.ledger.specs.declared.Refusal.{Refusal}

-- the counts, by sums that are capped
module _ (c : Counts) (range : CountsRange c) (ts qs zs : List ℕ) (sum qGaps qBases tGaps tBases : ℕ) (es : sum ≡ capped (sum_of zs)) (eq : qGaps ≡ gap_count qs zs) (eqb' : qBases ≡ capped (gap_bases qs zs))
    (et : tGaps ≡ gap_count ts zs) (etb : tBases ≡ capped (gap_bases ts zs)) where
  pub counts_are :
      (eqb sum (c.matches + c.misMatches + c.repMatches + c.nCount) && (eqb qGaps c.qNumInsert && (eqb qBases c.qBaseInsert && (eqb tGaps c.tNumInsert && eqb tBases c.tBaseInsert))))
      ≡ counts_fit c ts qs zs
  unfolding counts_fit
  counts_are = rw (
    es,
    eq,
    eqb',
    et,
    etb,
    capped_eq (sum_of zs) (c.matches + c.misMatches + c.repMatches + c.nCount) (omega (arith, range.matches, range.misMatches, range.repMatches, range.nCount)),
    capped_eq (gap_bases qs zs) c.qBaseInsert (omega (arith, range.qBaseInsert)),
    capped_eq (gap_bases ts zs) c.tBaseInsert (omega (arith, range.tBaseInsert)),
  )

-- the rows, tested in the working room
module _ (s : List ℕ) (r : Psl) (l : List ℕ) (ready : Ready s r l) where
  abbrev used : ℕ → List ℕ
  used b = take r.blockCount (take (length l - b) (drop b l))

  held_queries : used block_limit ≡ psl_queries s
  held_queries = rw (part_all l block_limit) ready.held.queries

  held_targets : used (2 * block_limit) ≡ psl_targets s
  held_targets = rw (part_all l (2 * block_limit)) ready.held.targets

  module _ (a : Bool) (ea : a ≡ rows_fit r (used (2 * block_limit)) (used block_limit) (take r.blockCount l)) where
    rows_are : a ≡ rows_fit r (psl_targets s) (psl_queries s) (psl_sizes s)
    rows_are = rw (held_targets, held_queries, ready.held.sizes) at ea

    module _ (b : Bool) (eb : b ≡ counts_fit r.counts (used (2 * block_limit)) (used block_limit) (take r.blockCount l)) where
      counts_held : b ≡ counts_fit r.counts (psl_targets s) (psl_queries s) (psl_sizes s)
      counts_held = rw (held_targets, held_queries, ready.held.sizes) at eb

      pub rows_checked : (c d : Result ⊤ Fault) → d ≡ require b (fault CountsDisagree (length s)) (Ok tt) → c ≡ require a (fault BlockRules (length s)) d → c ≡ row_check s r
      unfolding row_check
      rows_checked c d ed ec = rw (← rows_are, ← counts_held, ← ed) ec

-- a check that stops the reader, and both that pass
module _ (s vs : List ℕ) (r : Psl) (er : r ≡ psl_record vs) (c : Result ⊤ Fault) (ec : c ≡ span_check r vs) where
  pub spans_stop : (x : Fault) → c ≡ Err x → Err x ≡ after_line s vs
  unfolding after_line
  spans_stop x q = rw (← er, ← ec, q)

  module _ (q : c ≡ Ok tt) (d : Result ⊤ Fault) (ed : d ≡ row_check s r) where
    pub rows_stop : (x : Fault) → d ≡ Err x → Err x ≡ after_line s vs
    unfolding after_line
    rows_stop x k = rw (← er, ← ec, q, ← ed, k)

    pub line_reads : d ≡ Ok tt → Ok r ≡ after_line s vs
    unfolding after_line
    line_reads k = rw (← er, ← ec, q, ← ed, k)

pub ready_as : (s : List ℕ) (r b : Psl) (l : List ℕ) → r ≡ b → Ready s b l → Ready s r l
ready_as s r b l e h = rw e h

-- the text checker, and the reader into working room
module _ (s lists lists' : List ℕ) (a : Result Psl Fault) (staged : Staged Ok (Listed s) (psl_stages s) lists' a) (x : Result Psl Refusal) (told : x ≡ psl_answer a) where
  pub text_checked : x ≡ psl_check s
  unfolding psl_check
  text_checked = told ∙ ap psl_answer staged.is

  pub room_read : InRoom s lists lists' x
  room_read = record { is = text_checked; held = λ l r q. staged.held r (told_read a r (sym told ∙ q)) }

pub room_other : (s lists : List ℕ) (x : Result Psl Refusal) → (length lists ≡ 3 * block_limit → ⊥) → x ≡ psl_check s → InRoom s lists lists x
room_other s lists x n h = record { is = h; held = λ l. absurd (n l) }
