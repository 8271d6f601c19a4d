-- A chain's text says a valid record: its fields are in their ranges, and its rows obey the rules of blocks. Assumes nothing.
use mathlib.Core.Path.{◌≡◌, refl, sym, ap, ◌∙◌}
use mathlib.Core.Bool.{true, false}
use mathlib.Core.List.{List, [], ◌∷◌}
use Prim.Native.Nat.{ℕ, suc, ◌+◌, ◌-◌, ◌≤◌, ◌<◌}
use native.Mathlib.Omega.{arith}
use lib.ListN.{length, get_or}
use lib.Dec.{eqb}
use borrow.Author.Tests.{le-leb, eqb-true, eq-eqb}
use Rattle.ledger.specs.declared.Part.{Part}
use Rattle.ledger.specs.declared.Strand.TheVariants.{Dot}
use Rattle.ledger.specs.Limits.{name_limit, largest_position}
use Rattle.ledger.specs.Strands.{strand_letter}
use Rattle.text.specs.Pieces.{line_of, words_of}
use Rattle.text.specs.Words.{word_at}
use Rattle.text.proofs.TextLaws.{both}
use Rattle.text.proofs.PieceLaws.{word_bytes}
use Rattle.kinds.specs.declared.Range.{Range}
use Rattle.kinds.specs.declared.Range.TheVariants.{Coordinate, Size, ChainScore, ChainId}
use Rattle.kinds.specs.declared.Kind.TheVariants.{Name, Number}
use Rattle.kinds.specs.Kinds.{least_of, most_of, is_strand}
use Rattle.kinds.proofs.RangeLaws.{number_spelt, name_spelt, strand_spelt}
use Rattle.columns.proofs.Meant.{Meant, spells_meant}
use Rattle.columns.specs.Names.{part_of}
use Rattle.columns.specs.Places.{kind_at}
use Rattle.columns.proofs.PlaceLaws.{spelt_at}
use Rattle.columns.proofs.WordLaws.{word_length}
use Rattle.blocks.specs.Blocks.{order_from, blocks_fill, all_between}
use Rattle.blocks.specs.Rules.{RowsInUse}
use Rattle.blocks.proofs.RuleLaws.{fills_of, ranged_of, fill_low, wider}
use Rattle.chain.specs.declared.Chain.{Chain}
use Rattle.chain.specs.Columns as column
use Rattle.chain.specs.Table.{chain_columns, block_columns}
use Rattle.chain.specs.Records.{chain_targets, chain_queries, chain_sizes}
use Rattle.chain.specs.Read.{chain_check}
use Rattle.chain.specs.Tests.{chain_valid}
use Rattle.chain.specs.Rules.{BlockLines, last_line, more_lines, ChainText, ChainRules}
use Rattle.chain_laws.proofs.RuleLaws.{rules_is}
use Rattle.chain_laws.proofs.TextLaws.{text_of_lem}
use Rattle.std.specs.Prelude.{Ok}

-- a block before others that start after its end
fill_more : (t z a last : ℕ) (ss zs : List ℕ) → t + z ≤ a → blocks_fill a last ss zs ≡ true → blocks_fill t last (t ∷ ss) (z ∷ zs) ≡ true
unfolding blocks_fill order_from
fill_more t z a last [] zs h e = absurd (let q : ◌≡◌ {A = ℕ} 0 1 = cc in omega arith)
fill_more t z a last (x ∷ ss) [] h e = absurd (let q : ◌≡◌ {A = ℕ} 0 1 = cc in omega arith)
fill_more t z a last (x ∷ ss) (y ∷ zs) h e =
    let b = both (eqb x a) (order_from x y last ss zs) e in
    let q = eqb-true x a b.0 in
    rw (eq-eqb t t refl, le-leb (t + z) x (omega arith)) b.1

fill_one : (t z last : ℕ) → t + z ≡ last → blocks_fill t last (t ∷ []) (z ∷ []) ≡ true
unfolding blocks_fill order_from
fill_one t z last e = rw (eq-eqb t t refl, eq-eqb (t + z) last e)

-- the rows that block lines say
pub lines_fill_target : {te qe : ℕ} {ls : List (List ℕ)} {t q : ℕ} {ts qs zs : List ℕ} → BlockLines te qe ls t q ts qs zs → blocks_fill t te ts zs ≡ true
lines_fill_target {te} (last_line {t = t} {z = z} sp et eq) = fill_one t z te et
lines_fill_target {te} (more_lines {t = t} {z = z} {dt = dt} {ts = ts} {zs = zs} sp b) = fill_more t z (t + z + dt) te ts zs (omega arith) (lines_fill_target b)

pub lines_fill_query : {te qe : ℕ} {ls : List (List ℕ)} {t q : ℕ} {ts qs zs : List ℕ} → BlockLines te qe ls t q ts qs zs → blocks_fill q qe qs zs ≡ true
lines_fill_query {qe = qe} (last_line {q = q} {z = z} sp et eq) = fill_one q z qe eq
lines_fill_query {qe = qe} (more_lines {q = q} {z = z} {dq = dq} {qs = qs} {zs = zs} sp b) = fill_more q z (q + z + dq) qe qs zs (omega arith) (lines_fill_query b)

size_last : (ws : List (List ℕ)) (z : ℕ) → Meant (Number Size ∷ []) 0 ws (z ∷ []) → (1 ≤ z) × (z ≤ largest_position)
size_last ws z sp = number_spelt Size _ _ _ (spelt_at sp 0 (omega arith))

size_more : (ws : List (List ℕ)) (z dt dq : ℕ) → Meant block_columns 0 ws (z ∷ dt ∷ dq ∷ []) → (1 ≤ z) × (z ≤ largest_position)
unfolding block_columns
size_more ws z dt dq sp = number_spelt Size _ _ _ (spelt_at sp 0 (omega arith))

pub lines_sizes : {te qe : ℕ} {ls : List (List ℕ)} {t q : ℕ} {ts qs zs : List ℕ} → BlockLines te qe ls t q ts qs zs → all_between 1 largest_position zs ≡ true
unfolding all_between block_columns
lines_sizes (last_line {z = z} sp et eq) = let p = size_last _ z (spells_meant sp) in rw (le-leb 1 z p.0, le-leb z largest_position p.1)
lines_sizes (more_lines {z = z} {dt = dt} {dq = dq} sp b) = let p = size_more _ z dt dq (spells_meant sp) in rw (le-leb 1 z p.0, le-leb z largest_position p.1) (lines_sizes b)

pub lines_target_count : {te qe : ℕ} {ls : List (List ℕ)} {t q : ℕ} {ts qs zs : List ℕ} → BlockLines te qe ls t q ts qs zs → length ts ≡ length zs
lines_target_count (last_line sp et eq) = refl
lines_target_count (more_lines sp b) = ap suc (lines_target_count b)

pub lines_query_count : {te qe : ℕ} {ls : List (List ℕ)} {t q : ℕ} {ts qs zs : List ℕ} → BlockLines te qe ls t q ts qs zs → length qs ≡ length zs
lines_query_count (last_line sp et eq) = refl
lines_query_count (more_lines sp b) = ap suc (lines_query_count b)

lines_some : {te qe : ℕ} {ls : List (List ℕ)} {t q : ℕ} {ts qs zs : List ℕ} → BlockLines te qe ls t q ts qs zs → 1 ≤ length zs
lines_some (last_line sp et eq) = omega arith
lines_some (more_lines sp b) = omega arith

-- A TEXT'S RECORD WITH ITS ROWS OBEYS THE RULES
module _ (s vs : List ℕ) (ls : List (List ℕ)) (r : Chain) (ts qs zs : List ℕ) (c : ChainText s vs ls r ts qs zs) where
  number_at : (k : ℕ) (g : Range) → k < column.header_count → kind_at chain_columns k ≡ Number g → (least_of g ≤ get_or vs k 0) × (get_or vs k 0 ≤ most_of g)
  unfolding chain_columns
  number_at k g h q = number_spelt g _ _ (get_or vs k 0) (rw q at (spelt_at (spells_meant c.spelt) k h))

  name_at : (k : ℕ) (p : Part) → k < column.header_count → kind_at chain_columns k ≡ Name → p ≡ part_of (word_at s 0 k) → (1 ≤ p.length) × (p.length ≤ name_limit)
  unfolding chain_columns
  name_at k p h q e =
      let n = name_spelt _ (get_or (words_of (line_of s)) k []) (get_or vs k 0) (rw q at (spelt_at (spells_meant c.spelt) k h)) in
      let w : length (get_or (words_of (line_of s)) k []) ≡ (word_at s 0 k).end - (word_at s 0 k).start = sym (ap length (word_bytes s 0 k)) ∙ word_length s k in
      let l : p.length ≡ get_or vs k 0 = ap (λ (x : Part). x.length) e ∙ sym (n.0 ∙ w) in
      (rw l n.1, rw l n.2)

  strand_at : r.qStrand ≡ Dot → ⊥
  unfolding chain_columns
  strand_at d =
      let n = strand_spelt false _ _ (get_or vs column.q_strand 0) (spelt_at (spells_meant c.spelt) column.q_strand (omega arith)) in
      let v : get_or vs column.q_strand 0 ≡ strand_letter Dot = sym c.qStrand ∙ ap strand_letter d in
      let x : is_strand false (strand_letter Dot ∷ []) ≡ true = rw v at n.0 in
      let z : ◌≡◌ {A = ℕ} 0 1 = cc in
      omega arith

  zs_count : length zs ≡ r.blockCount
  zs_count = c.count

  ts_count : length ts ≡ r.blockCount
  ts_count = lines_target_count c.blocks ∙ c.count

  qs_count : length qs ≡ r.blockCount
  qs_count = lines_query_count c.blocks ∙ c.count

  rows_used : r.tEnd ≤ largest_position → r.qEnd ≤ largest_position → RowsInUse r.blockCount ts qs zs
  rows_used te qe =
      let n = r.blockCount in
      let some = lines_some c.blocks in
      let tFill = lines_fill_target c.blocks in
      let qFill = lines_fill_query c.blocks in
      record {
        some_block = omega (arith, c.count);
        few_blocks = c.few;
        target_rows = omega (arith, ts_count);
        query_rows = omega (arith, qs_count);
        size_rows = omega (arith, zs_count);
        target_range = ranged_of 0 largest_position n ts ts_count (wider r.tStart r.tEnd 0 largest_position ts (omega arith) te (fill_low r.tStart r.tEnd ts zs tFill));
        query_range = ranged_of 0 largest_position n qs qs_count (wider r.qStart r.qEnd 0 largest_position qs (omega arith) qe (fill_low r.qStart r.qEnd qs zs qFill));
        size_range = ranged_of 1 largest_position n zs zs_count (lines_sizes c.blocks);
      }

  pub text_rules : ChainRules r ts qs zs
  unfolding chain_columns
  text_rules =
      let n = r.blockCount in
      let tName = name_at column.t_name r.tName (omega arith) refl c.tName in
      let qName = name_at column.q_name r.qName (omega arith) refl c.qName in
      let score = number_at column.score ChainScore (omega arith) refl in
      let tSize = number_at column.t_size Size (omega arith) refl in
      let tStart = number_at column.t_start Coordinate (omega arith) refl in
      let tEnd = number_at column.t_end Coordinate (omega arith) refl in
      let qSize = number_at column.q_size Size (omega arith) refl in
      let qStart = number_at column.q_start Coordinate (omega arith) refl in
      let qEnd = number_at column.q_end Coordinate (omega arith) refl in
      let id = number_at column.id ChainId (omega arith) refl in
      let tFill = lines_fill_target c.blocks in
      let qFill = lines_fill_query c.blocks in
      let te : r.tEnd ≤ largest_position = rw c.tEnd tEnd.1 in
      let qe : r.qEnd ≤ largest_position = rw c.qEnd qEnd.1 in
      record {
        rows = rows_used te qe;
        t_name_some = tName.0;
        t_name_short = tName.1;
        q_name_some = qName.0;
        q_name_short = qName.1;
        stranded = strand_at;
        score_range = rw c.score score.1;
        t_size_some = rw c.tSize tSize.0;
        t_size_range = rw c.tSize tSize.1;
        t_start_range = rw c.tStart tStart.1;
        t_end_range = te;
        q_size_some = rw c.qSize qSize.0;
        q_size_range = rw c.qSize qSize.1;
        q_start_range = rw c.qStart qStart.1;
        q_end_range = qe;
        id_range = rw c.id id.1;
        t_span = c.t_span;
        t_inside = c.t_inside;
        q_span = c.q_span;
        q_inside = c.q_inside;
        t_blocks = fills_of r.tStart r.tEnd n ts zs ts_count zs_count tFill;
        q_blocks = fills_of r.qStart r.qEnd n qs zs qs_count zs_count qFill;
      }

-- AN ACCEPTED RECORD IS VALID
pub accepted_valid : (s : List ℕ) (r : Chain) → chain_check s ≡ Ok r → chain_valid r (chain_targets s r) (chain_queries s r) (chain_sizes s r) ≡ true
accepted_valid s r ok = rules_is r (chain_targets s r) (chain_queries s r) (chain_sizes s r) (text_rules s _ _ r (chain_targets s r) (chain_queries s r) (chain_sizes s r) (text_of_lem s r ok))
