-- Reading into room for any record's blocks: the reader is then its text checker, and the rows stand at the front. Assumes nothing.
use mathlib.Core.Path.{◌≡◌, sym, ap, ◌∙◌}
use mathlib.Core.List.{List, ◌++◌}
use Prim.Native.Nat.{ℕ, ◌+◌, ◌*◌, ◌≤◌}
use native.Mathlib.Omega.{arith}
use lib.ListN.{length, take, drop, length-take, length-drop}
use lib.Seq.{sets, sets-eq, length-sets, take-append_seam, take-take}
use Rattle.std.specs.Prelude.{Result}
use Rattle.ledger.specs.Limits.{block_limit}
use Rattle.ledger.specs.declared.Refusal.{Refusal}
use Rattle.blocks.specs.Readers.{rows_after}
use Rattle.blocks.specs.Blocks.{rows_of}
use Rattle.rows.proofs.ReaderLaws.{Reads}
use Rattle.bed.specs.Records.{bed_targets, bed_queries, bed_sizes}
use Rattle.bed.specs.Read.{BedRead}
use Rattle.bed.specs.Read as bed-read
use Rattle.bed.specs.declared.Bed.{Bed}
use Rattle.table_bed.proofs.RowLaws.{bed_reads}
use Rattle.psl.specs.declared.Psl.{Psl}
use Rattle.psl.specs.Records.{psl_targets, psl_queries, psl_sizes}
use Rattle.psl.specs.Read.{PslRead}
use Rattle.psl.specs.Read as psl-read
use Rattle.table_psl.proofs.RowLaws.{psl_reads}
use Rattle.chain.specs.Records.{chain_targets, chain_queries, chain_sizes}
use Rattle.chain.specs.Read.{ChainRead}
use Rattle.chain.specs.Read as chain-read
use Rattle.chain.specs.declared.Chain.{Chain}
use Rattle.table_chain.proofs.RowLaws.{chain_reads}
use Rattle.entries.specs.Records.{Staging, Held, BedStaged, PslStaged, ChainStaged}

-- what was stored at the front stands there
pub front : (n : ℕ) (xs b : List ℕ) → length xs ≡ n → n ≤ length b → take n (sets b 0 xs) ≡ xs
front n xs b e h =
    let s : sets b 0 xs ≡ xs ++ drop (0 + length xs) b = sets-eq xs b 0 (omega arith) in
    rw (s, ← e) (take-append_seam xs (drop (0 + length xs) b))

-- the rows of an accepted text
pub record Rows (n : ℕ) (ts qs zs : List ℕ) : Type 0 where
  pub few : n ≤ block_limit
  pub targets : length ts ≡ n
  pub queries : length qs ≡ n
  pub sizes : length zs ≡ n

module _ (b₁ b₂ b₃ : List ℕ) (st : Staging b₁ b₂ b₃) where
  pub room_is : rows_of b₁ b₂ b₃ ≡ block_limit
  room_is = omega arith

  pub held_front : (n : ℕ) (ts qs zs : List ℕ) → Rows n ts qs zs → Held n ts qs zs (sets b₁ 0 ts) (sets b₂ 0 qs) (sets b₃ 0 zs)
  held_front n ts qs zs r = record {
    few = r.few;
    stage = record {
      targets = length-sets b₁ 0 ts ∙ st.targets;
      queries = length-sets b₂ 0 qs ∙ st.queries;
      sizes = length-sets b₃ 0 zs ∙ st.sizes;
    };
    targets = front n ts b₁ r.targets (omega arith);
    queries = front n qs b₂ r.queries (omega arith);
    sizes = front n zs b₃ r.sizes (omega arith);
  }

-- any format's reader into room for all blocks: it answers as its text checker, and the rows of what it accepts stand at the fronts
module _ {R A : Type 0} {acc : R → A} {ref : Refusal → A} {blocks : R → ℕ} {filled : A → ℕ} {check : A} {read : ℕ → A} {no_room : Refusal} {xs ys ws : R → List ℕ}
    (f : Reads acc ref blocks filled check read no_room xs ys ws) (b₁ b₂ b₃ : List ℕ) (st : Staging b₁ b₂ b₃) (x : A) (is : x ≡ read (rows_of b₁ b₂ b₃)) where
  staged_is : x ≡ check
  staged_is =
      let e : x ≡ read block_limit = is ∙ ap read (room_is b₁ b₂ b₃ st) in
      f.cases check _ (λ r k. e ∙ f.roomy r block_limit k (f.few r k) ∙ sym k) (λ y k. e ∙ f.refused y block_limit k ∙ sym k)

  staged_held : (ts qs zs : List ℕ) (r : R) → x ≡ acc r → ts ≡ sets b₁ 0 (xs r) → qs ≡ sets b₂ 0 (ys r) → zs ≡ sets b₃ 0 (ws r) → Held (blocks r) (xs r) (ys r) (ws r) ts qs zs
  staged_held ts qs zs r e et eq ez =
      let ok : check ≡ acc r = sym staged_is ∙ e in
      rw (et, eq, ez)
      (held_front b₁ b₂ b₃ st (blocks r) (xs r) (ys r) (ws r) (record { few = f.few r ok; targets = f.targets r ok; queries = f.queries r ok; sizes = f.sizes r ok }))

module _ (s b₁ ts b₂ qs b₃ zs : List ℕ) (st : Staging b₁ b₂ b₃) where
  pub bed_staged : (x : Result Bed Refusal) → BedRead s b₁ ts b₂ qs b₃ zs x → BedStaged s ts qs zs x
  bed_staged x f = record {
    is = staged_is (bed_reads s) b₁ b₂ b₃ st x f.is;
    held = λ r e. staged_held (bed_reads s) b₁ b₂ b₃ st x f.is ts qs zs r e
        (f.targets ∙ ap (λ (y : Result Bed Refusal). rows_after bed-read.on_answer y (bed_targets s) b₁) e)
        (f.queries ∙ ap (λ (y : Result Bed Refusal). rows_after bed-read.on_answer y (bed_queries s) b₂) e)
        (f.sizes ∙ ap (λ (y : Result Bed Refusal). rows_after bed-read.on_answer y (bed_sizes s) b₃) e);
  }

  pub psl_staged : (x : Result Psl Refusal) → PslRead s b₁ ts b₂ qs b₃ zs x → PslStaged s ts qs zs x
  psl_staged x f = record {
    is = staged_is (psl_reads s) b₁ b₂ b₃ st x f.is;
    held = λ r e. staged_held (psl_reads s) b₁ b₂ b₃ st x f.is ts qs zs r e
        (f.targets ∙ ap (λ (y : Result Psl Refusal). rows_after psl-read.on_answer y (λ (r : Psl). psl_targets s) b₁) e)
        (f.queries ∙ ap (λ (y : Result Psl Refusal). rows_after psl-read.on_answer y (λ (r : Psl). psl_queries s) b₂) e)
        (f.sizes ∙ ap (λ (y : Result Psl Refusal). rows_after psl-read.on_answer y (λ (r : Psl). psl_sizes s) b₃) e);
  }

  pub chain_staged : (x : Result Chain Refusal) → ChainRead s b₁ ts b₂ qs b₃ zs x → ChainStaged s ts qs zs x
  chain_staged x f = record {
    is = staged_is (chain_reads s) b₁ b₂ b₃ st x f.is;
    held = λ r e. staged_held (chain_reads s) b₁ b₂ b₃ st x f.is ts qs zs r e
        (f.targets ∙ ap (λ (y : Result Chain Refusal). rows_after chain-read.on_answer y (chain_targets s) b₁) e)
        (f.queries ∙ ap (λ (y : Result Chain Refusal). rows_after chain-read.on_answer y (chain_queries s) b₂) e)
        (f.sizes ∙ ap (λ (y : Result Chain Refusal). rows_after chain-read.on_answer y (chain_sizes s) b₃) e);
  }

-- the working rooms of two readers as three parts
part_length : (l : List ℕ) (at : ℕ) → length l ≡ 3 * block_limit → at ≤ 2 * block_limit → length (take block_limit (drop at l)) ≡ block_limit
part_length l at e h = rw (length-take, length-drop) (omega arith)

pub room_front : (l : List ℕ) → length l ≡ 3 * block_limit → length (take block_limit l) ≡ block_limit
room_front l e = rw length-take (omega arith)

pub chain_parts : (s rows rows' : List ℕ) (x : Result Chain Refusal) → chain-read.InRoom s rows rows' x → length rows ≡ 3 * block_limit
    → ChainStaged s (take block_limit rows') (take block_limit (drop block_limit rows')) (take block_limit (drop (2 * block_limit) rows')) x
chain_parts s rows rows' x f l = record {
  is = f.is;
  held = λ r e.
      let h = f.held l r e in
      record {
        few = h.few;
        stage = record { targets = room_front rows' h.long; queries = part_length rows' block_limit h.long (omega arith); sizes = part_length rows' (2 * block_limit) h.long (omega arith) };
        targets = take-take r.blockCount block_limit rows' h.few ∙ h.targets;
        queries = take-take r.blockCount block_limit (drop block_limit rows') h.few ∙ h.queries;
        sizes = take-take r.blockCount block_limit (drop (2 * block_limit) rows') h.few ∙ h.sizes;
      };
}

pub psl_parts : (s lists lists' : List ℕ) (x : Result Psl Refusal) → psl-read.InRoom s lists lists' x → length lists ≡ 3 * block_limit
    → PslStaged s (take block_limit (drop (2 * block_limit) lists')) (take block_limit (drop block_limit lists')) (take block_limit lists') x
psl_parts s lists lists' x f l = record {
  is = f.is;
  held = λ r e.
      let h = f.held l r e in
      record {
        few = h.few;
        stage = record { targets = part_length lists' (2 * block_limit) h.long (omega arith); queries = part_length lists' block_limit h.long (omega arith); sizes = room_front lists' h.long };
        targets = take-take r.blockCount block_limit (drop (2 * block_limit) lists') h.few ∙ h.targets;
        queries = take-take r.blockCount block_limit (drop block_limit lists') h.few ∙ h.queries;
        sizes = take-take r.blockCount block_limit lists' h.few ∙ h.sizes;
      };
}
