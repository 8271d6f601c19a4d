-- Lifting through a chain's text: the chain that a text says is accepted, so its rows are not tested again. Assumes nothing.
use mathlib.Core.Path.{◌≡◌, sym, ◌∙◌}
use mathlib.Core.List.{List}
use Prim.Native.Nat.{ℕ, ◌+◌, ◌-◌, ◌*◌}
use native.Mathlib.Omega.{arith}
use lib.ListN.{length, take, drop, length-take}
use Rattle.ledger.specs.declared.Refusal.{Refusal}
use Rattle.ledger.specs.Limits.{block_limit}
use Rattle.blocks.specs.Rows.{table_of}
use Rattle.chain.specs.declared.Chain.{Chain}
use Rattle.chain.specs.Records.{chain_targets, chain_queries, chain_sizes, chain_rows}
use Rattle.chain.specs.Read.{InRoom}
use Rattle.chain_laws.proofs.ValidLaws.{accepted_valid}
use Rattle.lift.specs.Accepted.{Ready}
use Rattle.lift.specs.Positions.{lift_position}
use Rattle.lift.specs.Texts.{text_position, ChainHeld}
use Rattle.lift.proofs.AcceptLaws.{table_accepted, ready}
use Rattle.std.specs.Prelude.{Ok, Err, Result, ℤ}

-- the rows in the working room
module _ (s : List ℕ) (c : Chain) (l : List ℕ) (h : ChainHeld s c l) where
  pub rows_count : c.blockCount ≡ length (take c.blockCount l)
  rows_count = rw length-take (omega (arith, h.held.few, h.held.long))

  text_ready : Ready c (chain_targets s c) (chain_queries s c) (chain_sizes s c)
  text_ready = ready c (chain_targets s c) (chain_queries s c) (chain_sizes s c) (sym (table_accepted c (chain_targets s c) (chain_queries s c) (chain_sizes s c)) ∙ accepted_valid s c h.is)

  module _ (n b d e f : ℕ) (en : n ≡ c.blockCount) (eb : b ≡ block_limit) (ed : d ≡ 2 * b) (ee : e ≡ b + n) (ef : f ≡ d + n) where
    targets_are : take n l ≡ chain_targets s c
    targets_are = rw en h.held.targets

    queries_are : take (e - b) (drop b l) ≡ chain_queries s c
    queries_are = let q : e - b ≡ c.blockCount = omega arith in rw (q, eb) h.held.queries

    sizes_are : take (f - d) (drop d l) ≡ chain_sizes s c
    sizes_are =
        let q : f - d ≡ c.blockCount = omega arith in
        let z : d ≡ 2 * block_limit = omega arith in
        rw (q, z) h.held.sizes

    pub rows_ready : Ready c (take n l) (take (e - b) (drop b l)) (take (f - d) (drop d l))
    rows_ready = rw (targets_are, queries_are, sizes_are) text_ready

    pub rows_are : table_of (take n l) (take (e - b) (drop b l)) (take (f - d) (drop d l)) ≡ chain_rows s c
    rows_are = rw (targets_are, queries_are, sizes_are)

    pub rows_lifted : (r : Result (ℕ × ℤ) Refusal) (p : ℕ) → r ≡ lift_position c (table_of (take n l) (take (e - b) (drop b l)) (take (f - d) (drop d l))) p → r ≡ lift_position c (chain_rows s c) p
    rows_lifted r p k = rw rows_are at k

-- the text
module _ (s rows rows' : List ℕ) (x : Result Chain Refusal) (read : InRoom s rows rows' x) where
  pub text_held : (c : Chain) → x ≡ Ok c → length rows ≡ 3 * block_limit → ChainHeld s c rows'
  text_held c q l = record { is = sym read.is ∙ q; held = read.held l c q }

  module _ (p : ℕ) where
    pub text_refused : (y : Refusal) → x ≡ Err y → Err y ≡ text_position s p
    unfolding text_position
    text_refused y q = rw (← read.is, q)

    pub text_lifted_lem : (c : Chain) → x ≡ Ok c → (r : Result (ℕ × ℤ) Refusal) → r ≡ lift_position c (chain_rows s c) p → r ≡ text_position s p
    unfolding text_position
    text_lifted_lem c q r k = rw (← read.is, q) k
