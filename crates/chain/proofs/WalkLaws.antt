-- The walk over the block lines: its invariant, and what each way out of it shows. Assumes nothing.
use mathlib.Core.Path.{◌≡◌, refl, sym, ap, ◌∙◌}
use mathlib.Core.List.{List, [], ◌∷◌, ◌++◌, append_assoc}
use Prim.Native.Nat.{ℕ, zero, suc, ◌+◌, ◌-◌, ◌*◌, ◌≤◌, ◌<◌}
use native.Mathlib.Omega.{arith}
use lib.ListN.{length, set, take, drop, length-set, length-drop}
use lib.Seq.{take-suc-set, take-set-le, drop-set-lt, drop-set-add}
use mir.Val.{Fits}
use mir.Syntax.{w64}
use borrow.Author.Tests.{lt-ltb, le-ltb}
use Rattle.ledger.specs.Limits.{block_limit, largest_position}
use Rattle.ledger.specs.declared.Fault.{Fault}
use Rattle.text.specs.Checks.{then_check}
use Rattle.text.specs.Words.{next_line}
use Rattle.chain.specs.declared.BlockLine.{BlockLine}
use Rattle.chain.specs.declared.BlockLine.TheVariants.{Last, Gap}
use Rattle.chain.specs.declared.Ending.{Ending}
use Rattle.chain.specs.Records.{size_at, target_gap, query_gap, targets_from, queries_from, sizes_from}
use Rattle.chain.specs.Read.{limit_check, then_block, block_line, ends_early, lines_from, ending_at}
use Rattle.chain.specs.Steps.{block_one, BlockRead, Placed, Begins, Walked}
use Rattle.chain.proofs.BlockLaws.{limit_ahead, gap_holds, last_holds}
use Rattle.std.specs.Prelude.{Ok, Err, Result}

-- a block with the gap after it takes at most so much of a side
abbrev pub step_limit : ℕ
step_limit = 2 * largest_position

-- before the line at a place: the walk from here is the walk from the start, and the rows so far are those of the lines before
pub record Walking (s : List ℕ) (from t₀ q₀ : ℕ) (rows : List ℕ) (line t q left : ℕ) : Type 0 where
  pub long : length rows ≡ 3 * block_limit
  pub few : left ≤ block_limit
  pub target : t + left * step_limit ≤ step_limit + block_limit * step_limit
  pub query : q + left * step_limit ≤ step_limit + block_limit * step_limit
  pub is : lines_from left s line t q ≡ lines_from block_limit s from t₀ q₀
  pub targets : (n : ℕ) → take (block_limit - left) rows ++ targets_from n s line t ≡ targets_from (block_limit - left + n) s from t₀
  pub queries : (n : ℕ) → take (block_limit - left) (drop block_limit rows) ++ queries_from n s line q ≡ queries_from (block_limit - left + n) s from q₀
  pub sizes : (n : ℕ) → take (block_limit - left) (drop (2 * block_limit) rows) ++ sizes_from n s line ≡ sizes_from (block_limit - left + n) s from

pub walk_start : (s : List ℕ) (from t q : ℕ) (rows : List ℕ) → Begins t q rows → Walking s from t q rows from t q block_limit
walk_start s from t q rows b =
    let z : (n : ℕ) → 0 + n ≡ n = λ n. omega arith in
    record {
      long = b.long;
      few = omega arith;
      target = omega (arith, b.target);
      query = omega (arith, b.query);
      is = refl;
      targets = λ n. rw (z n);
      queries = λ n. rw (z n);
      sizes = λ n. rw (z n);
    }

-- one row more in the working room
abbrev with_row : List ℕ → ℕ → ℕ → ℕ → ℕ → List ℕ
with_row l i t q z = set (set (set l i t) (block_limit + i) q) (2 * block_limit + i) z

module _ (l : List ℕ) (i t q z : ℕ) (h : i < block_limit) (long : length l ≡ 3 * block_limit) where
  row_length : length (with_row l i t q z) ≡ 3 * block_limit
  row_length = length-set (set (set l i t) (block_limit + i) q) (2 * block_limit + i) z ∙ length-set (set l i t) (block_limit + i) q ∙ length-set l i t ∙ long

  row_target : take (suc i) (with_row l i t q z) ≡ take i l ++ (t ∷ [])
  row_target =
      take-set-le (suc i) (set (set l i t) (block_limit + i) q) (2 * block_limit + i) z (omega arith)
      ∙ take-set-le (suc i) (set l i t) (block_limit + i) q (omega arith)
      ∙ take-suc-set l i t (omega arith)

  drop_last : (n : ℕ) → n ≤ 2 * block_limit → n + suc i ≤ 2 * block_limit + i → take (suc i) (drop n (with_row l i t q z)) ≡ take (suc i) (drop n (set (set l i t) (block_limit + i) q))
  drop_last n k m =
      let e : 2 * block_limit + i ≡ n + (2 * block_limit + i - n) = omega arith in
      let d : drop n (set (set (set l i t) (block_limit + i) q) (n + (2 * block_limit + i - n)) z) ≡ set (drop n (set (set l i t) (block_limit + i) q)) (2 * block_limit + i - n) z = drop-set-add n (set (set l i t) (block_limit + i) q) (2 * block_limit + i - n) z in
      let d' = rw (← e) at d in
      ap (take (suc i)) d' ∙ take-set-le (suc i) (drop n (set (set l i t) (block_limit + i) q)) (2 * block_limit + i - n) z (omega arith)

  row_query : take (suc i) (drop block_limit (with_row l i t q z)) ≡ take i (drop block_limit l) ++ (q ∷ [])
  row_query =
      drop_last block_limit (omega arith) (omega arith)
      ∙ ap (take (suc i)) (drop-set-add block_limit (set l i t) i q ∙ ap (λ (x : List ℕ). set x i q) (drop-set-lt block_limit l i t h))
      ∙ take-suc-set (drop block_limit l) i q (rw length-drop (omega arith))

  row_size : take (suc i) (drop (2 * block_limit) (with_row l i t q z)) ≡ take i (drop (2 * block_limit) l) ++ (z ∷ [])
  row_size =
      let a : drop (2 * block_limit) (set (set l i t) (block_limit + i) q) ≡ drop (2 * block_limit) (set l i t) = drop-set-lt (2 * block_limit) (set l i t) (block_limit + i) q (omega arith) in
      let b : drop (2 * block_limit) (set l i t) ≡ drop (2 * block_limit) l = drop-set-lt (2 * block_limit) l i t (omega arith) in
      ap (take (suc i)) (drop-set-add (2 * block_limit) (set (set l i t) (block_limit + i) q) i z ∙ ap (λ (x : List ℕ). set x i z) (a ∙ b))
      ∙ take-suc-set (drop (2 * block_limit) l) i z (rw length-drop (omega arith))

-- a column of rows with one more, before the rest
extend : (l l' : List ℕ) (x : ℕ) (rest all : List ℕ) → l' ≡ l ++ (x ∷ []) → l ++ (x ∷ rest) ≡ all → l' ++ rest ≡ all
extend l l' x rest all e h = rw (e, append_assoc) h

-- the walk at a line, way by way
module _ (s : List ℕ) (line t q : ℕ) where
  from_past : (k : ℕ) → length s ≤ line → lines_from k s line t q ≡ ends_early s
  unfolding lines_from
  from_past zero h = rw (le-ltb line (length s) h)
  from_past (suc k) h = rw (le-ltb line (length s) h)

  module _ (h : line < length s) where
    -- past the last allowed line the limit refuses, before it the line itself
    from_refused : (k : ℕ) (x : Fault) → then_check Err (limit_check line k) (block_line s line) ≡ Err x → lines_from k s line t q ≡ Err x
    unfolding lines_from limit_check
    from_refused zero x g = rw (lt-ltb line (length s) h) (ap (λ (b : Result BlockLine Fault). then_block b (λ z. Err x) (λ z dt dq. Err x)) g)
    from_refused (suc k) x g = rw (lt-ltb line (length s) h, g)

    pub from_last : (k z : ℕ) → (k ≡ 0 → ⊥) → block_line s line ≡ Ok (Last z) → lines_from k s line t q ≡ Ok (ending_at line (block_limit - (k - 1)) (t + z) (q + z))
    unfolding lines_from
    from_last zero z y g = absurd (y refl)
    from_last (suc k) z y g = let o : suc k - 1 ≡ k = omega arith in rw (lt-ltb line (length s) h, g, o)

    pub from_gap : (k z dt dq : ℕ) → (k ≡ 0 → ⊥) → block_line s line ≡ Ok (Gap z dt dq) → lines_from k s line t q ≡ lines_from (k - 1) s (next_line s line) (t + z + dt) (q + z + dq)
    unfolding lines_from
    from_gap zero z dt dq y g = absurd (y refl)
    from_gap (suc k) z dt dq y g = let o : suc k - 1 ≡ k = omega arith in rw (lt-ltb line (length s) h, g, o)

low : (z k : ℕ) → (k ≡ 0 → ⊥) → k ≤ block_limit → (a d : ℕ) → d ≤ largest_position → z ≤ largest_position → a + k * step_limit ≤ step_limit + block_limit * step_limit → a + z + d + (k - 1) * step_limit ≤ step_limit + block_limit * step_limit
low z zero y f a d bd bz e = absurd (y refl)
low z (suc k) y f a d bd bz e = omega arith

below : (k : ℕ) → (k ≡ 0 → ⊥) → k ≤ block_limit → block_limit - k < block_limit
below zero y f = absurd (y refl)
below (suc k) y f = omega arith

none : (l : List ℕ) → l ++ [] ≡ l
none [] = refl
none (x ∷ l) = ap (λ (m : List ℕ). x ∷ m) (none l)

module _ (s : List ℕ) (from t₀ q₀ : ℕ) (rows : List ℕ) (line t q left : ℕ) (w : Walking s from t₀ q₀ rows line t q left) where
  pub walk_past : (rows₀ : List ℕ) → length s ≤ line → Walked s from t₀ q₀ rows₀ rows (ends_early s)
  walk_past rows₀ h = record { is = sym (from_past s line t q left h) ∙ w.is; long = w.long; held = λ e z. absurd (let k : ◌≡◌ {A = ℕ} 0 1 = cc in omega arith) }

  module _ (h : line < length s) where
    module _ (b : Result BlockLine Fault) (read : BlockRead s line left b) where
      pub walk_refused : (rows₀ : List ℕ) (x : Fault) → b ≡ Err x → Walked s from t₀ q₀ rows₀ rows (Err x)
      walk_refused rows₀ x eb = record { is = sym (from_refused s line t q h left x (sym read.is ∙ eb)) ∙ w.is; long = w.long; held = λ e y. absurd (let k : ◌≡◌ {A = ℕ} 0 1 = cc in omega arith) }

      module _ (rows' : List ℕ) (z : ℕ) (er : rows' ≡ with_row rows (block_limit - left) t q z) (one : block_one b ≡ 1) where
        some : left ≡ 0 → ⊥
        some e = absurd (omega (arith, read.room))

        line_is : b ≡ block_line s line
        line_is = read.is ∙ rw (← limit_ahead line left some)

        index : block_limit - left < block_limit
        index = below left some w.few

        long' : length rows' ≡ 3 * block_limit
        long' = rw er (row_length rows (block_limit - left) t q z index w.long)

        -- the number of rows then
        one_more : block_limit - (left - 1) ≡ suc (block_limit - left)
        one_more = omega (arith, index, w.few)

        after : (n : ℕ) → block_limit - (left - 1) + n ≡ block_limit - left + suc n
        after n = omega (arith, one_more)

        targets_next : (n : ℕ) (t' : ℕ) → t' ≡ t + size_at s line + target_gap s line → take (block_limit - (left - 1)) rows' ++ targets_from n s (next_line s line) t' ≡ targets_from (block_limit - (left - 1) + n) s from t₀
        unfolding targets_from
        targets_next n t' e =
            let r = row_target rows (block_limit - left) t q z index w.long in
            let v : take (block_limit - left) rows ++ (t ∷ targets_from n s (next_line s line) t') ≡ targets_from (block_limit - left + suc n) s from t₀ = rw e (w.targets (suc n)) in
            rw (after n, one_more, er) (extend (take (block_limit - left) rows) _ t (targets_from n s (next_line s line) t') _ r v)

        queries_next : (n : ℕ) (q' : ℕ) → q' ≡ q + size_at s line + query_gap s line → take (block_limit - (left - 1)) (drop block_limit rows') ++ queries_from n s (next_line s line) q' ≡ queries_from (block_limit - (left - 1) + n) s from q₀
        unfolding queries_from
        queries_next n q' e =
            let r = row_query rows (block_limit - left) t q z index w.long in
            let v : take (block_limit - left) (drop block_limit rows) ++ (q ∷ queries_from n s (next_line s line) q') ≡ queries_from (block_limit - left + suc n) s from q₀ = rw e (w.queries (suc n)) in
            rw (after n, one_more, er) (extend (take (block_limit - left) (drop block_limit rows)) _ q (queries_from n s (next_line s line) q') _ r v)

        sizes_next : (n : ℕ) → size_at s line ≡ z → take (block_limit - (left - 1)) (drop (2 * block_limit) rows') ++ sizes_from n s (next_line s line) ≡ sizes_from (block_limit - (left - 1) + n) s from
        unfolding sizes_from
        sizes_next n e =
            let r = row_size rows (block_limit - left) t q z index w.long in
            let v : take (block_limit - left) (drop (2 * block_limit) rows) ++ (z ∷ sizes_from n s (next_line s line)) ≡ sizes_from (block_limit - left + suc n) s from = rw e at (w.sizes (suc n)) in
            rw (after n, one_more, er) (extend (take (block_limit - left) (drop (2 * block_limit) rows)) _ z (sizes_from n s (next_line s line)) _ r v)

        zero_more : block_limit - (left - 1) + 0 ≡ block_limit - (left - 1)
        zero_more = omega arith

        held_last : block_line s line ≡ Ok (Last z) → Placed s from t₀ q₀ (block_limit - (left - 1)) rows'
        unfolding targets_from queries_from sizes_from
        held_last g = record {
          few = omega arith;
          targets = sym (none _) ∙ (rw zero_more at (targets_next 0 _ refl));
          queries = sym (none _) ∙ (rw zero_more at (queries_next 0 _ refl));
          sizes = sym (none _) ∙ (rw zero_more at (sizes_next 0 (last_holds s line z g)));
        }

        ended : (rows₀ : List ℕ) → b ≡ Ok (Last z) → Walked s from t₀ q₀ rows₀ rows' (Ok (ending_at line (block_limit - (left - 1)) (t + z) (q + z)))
        ended rows₀ eb =
            let g : block_line s line ≡ Ok (Last z) = sym line_is ∙ eb in
            record { is = sym (from_last s line t q h left z some g) ∙ w.is; long = long'; held = λ e y. let p : ending_at line (block_limit - (left - 1)) (t + z) (q + z) ≡ e = cc in rw (ap (λ (x : Ending). x.count) p) at (held_last g) }

        went : (dt dq line' : ℕ) → b ≡ Ok (Gap z dt dq) → line' ≡ next_line s line → Walking s from t₀ q₀ rows' line' (t + z + dt) (q + z + dq) (left - 1)
        went dt dq line' eb el =
            let g : block_line s line ≡ Ok (Gap z dt dq) = sym line_is ∙ eb in
            let k = gap_holds s line z dt dq g in
            let bz : z ≤ largest_position = rw eb at read.size in
            let bt : dt ≤ largest_position = rw eb at read.target_gap in
            let bq : dq ≤ largest_position = rw eb at read.query_gap in
            record {
              long = long';
              few = omega (arith, w.few);
              target = low z left some w.few t dt bt bz w.target;
              query = low z left some w.few q dq bq bz w.query;
              is = rw el (sym (from_gap s line t q h left z dt dq some g) ∙ w.is);
              targets = rw el (λ n. targets_next n (t + z + dt) (rw (k.0, k.1)));
              queries = rw el (λ n. queries_next n (q + z + dq) (rw (k.0, k.2)));
              sizes = rw el (λ n. sizes_next n k.0);
            }

      pub walk_last : (rows' : List ℕ) (z : ℕ) → rows' ≡ with_row rows (block_limit - left) t q z → (rows₀ : List ℕ) → b ≡ Ok (Last z) → Walked s from t₀ q₀ rows₀ rows' (Ok (ending_at line (block_limit - (left - 1)) (t + z) (q + z)))
      walk_last rows' z er rows₀ eb = ended rows' z er (ap block_one eb) rows₀ eb

      pub walk_more : (rows' : List ℕ) (z : ℕ) → rows' ≡ with_row rows (block_limit - left) t q z → (dt dq line' : ℕ) → b ≡ Ok (Gap z dt dq) → line' ≡ next_line s line → Walking s from t₀ q₀ rows' line' (t + z + dt) (q + z + dq) (left - 1)
      walk_more rows' z er dt dq line' eb el = went rows' z er (ap block_one eb) dt dq line' eb el

-- a block that is read is not past the last allowed one
module _ (s : List ℕ) (line left : ℕ) (b : Result BlockLine Fault) (read : BlockRead s line left b) (z : ℕ) where
  module _ (eb : b ≡ Ok (Last z)) where
    pub last_some : 1 ≤ left
    last_some = rw eb at read.room

    pub last_index : block_limit - left < block_limit
    last_index = omega (arith, last_some)

  module _ (dt dq : ℕ) (eb : b ≡ Ok (Gap z dt dq)) where
    pub gap_some : 1 ≤ left
    gap_some = rw eb at read.room

    pub gap_index : block_limit - left < block_limit
    gap_index = omega (arith, gap_some)

    pub gap_less : left - 1 < left
    gap_less = omega (arith, gap_some)

-- the sums of the walk fit
module _ (s : List ℕ) (from t₀ q₀ : ℕ) (rows : List ℕ) (line t q left : ℕ) (w : Walking s from t₀ q₀ rows line t q left) (b : Result BlockLine Fault) (read : BlockRead s line left b) (z : ℕ) where
  module _ (eb : b ≡ Ok (Last z)) where
    last_size : z ≤ largest_position
    last_size = rw eb at read.size

    pub last_target_fits : Fits w64 (t + z)
    last_target_fits = omega (arith, w.target, last_size)

    pub last_query_fits : Fits w64 (q + z)
    last_query_fits = omega (arith, w.query, last_size)

  module _ (dt dq : ℕ) (eb : b ≡ Ok (Gap z dt dq)) where
    gap_size : z ≤ largest_position
    gap_size = rw eb at read.size

    gap_target : dt ≤ largest_position
    gap_target = rw eb at read.target_gap

    gap_query : dq ≤ largest_position
    gap_query = rw eb at read.query_gap

    pub gap_target_fits : Fits w64 (t + z)
    gap_target_fits = omega (arith, w.target, gap_size)

    pub gap_query_fits : Fits w64 (q + z)
    gap_query_fits = omega (arith, w.query, gap_size)

    pub next_target_fits : Fits w64 (t + z + dt)
    next_target_fits = omega (arith, w.target, gap_size, gap_target)

    pub next_query_fits : Fits w64 (q + z + dq)
    next_query_fits = omega (arith, w.query, gap_size, gap_query)
