-- What the tests of a chain record show, on plain values. Assumes nothing.
use mathlib.Core.Path.{◌≡◌}
use mathlib.Core.Bool.{Bool, ◌&&◌}
use mathlib.Core.List.{List}
use Prim.Native.Nat.{ℕ}
use lib.ListN.{length}
use lib.Dec.{leb}
use Rattle.ledger.specs.Limits.{largest_position, chain_score_limit, chain_id_limit}
use Rattle.blocks.specs.Blocks.{blocks_fill, span_fits}
use Rattle.chain.specs.declared.Chain.{Chain}
use Rattle.chain.specs.Tests.{names_fit, size_fits, fields_fit, spans_fit, rows_fit}
use Rattle.chain.specs.Write.{names_show}
use Rattle.columns.specs.Names.{length_fits, all_graphic}

module _ (a b : Bool) where
  pub names_are : (t q : ℕ) → a ≡ length_fits t → b ≡ length_fits q → (a && b) ≡ names_fit t q
  unfolding names_fit
  names_are t q e f = rw (e, f)

  pub spans_are : (r : Chain) → a ≡ span_fits r.tStart r.tEnd r.tSize → b ≡ span_fits r.qStart r.qEnd r.qSize → (a && b) ≡ spans_fit r
  unfolding spans_fit
  spans_are r e f = rw (e, f)

  pub rows_are : (r : Chain) (ts qs zs : List ℕ) → a ≡ blocks_fill r.tStart r.tEnd ts zs → b ≡ blocks_fill r.qStart r.qEnd qs zs → (a && b) ≡ rows_fit r ts qs zs
  unfolding rows_fit
  rows_are r ts qs zs e f = rw (e, f)

  pub fields_are : (r : Chain) → a ≡ size_fits r.tSize → b ≡ size_fits r.qSize
      → (leb r.score chain_score_limit && (a && (leb r.tStart largest_position && (leb r.tEnd largest_position && (b && (leb r.qStart largest_position && (leb r.qEnd largest_position && leb r.id chain_id_limit))))))) ≡ fields_fit r
  unfolding fields_fit
  fields_are r e f = rw (e, f)

  module _ (c : Bool) where
    pub shown_are : (t q : List ℕ) → a ≡ names_fit (length t) (length q) → b ≡ all_graphic t → c ≡ all_graphic q → (a && (b && c)) ≡ names_show t q
    unfolding names_show
    shown_are t q e f g = rw (e, f, g)
