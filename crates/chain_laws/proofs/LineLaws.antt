-- Block lines: what one says where it is read, and that it is read where it says so; then the walk over all of them. Assumes nothing.
use mathlib.Core.Path.{◌≡◌, refl, sym, ap, ◌∙◌}
use mathlib.Core.Bool.{Bool, true, false, cond}
use mathlib.Core.List.{List, [], ◌∷◌}
use Prim.Native.Nat.{ℕ, zero, suc, ◌+◌, ◌-◌, ◌≤◌, ◌<◌}
use native.Mathlib.Omega.{arith}
use lib.ListN.{length, get_or, take, drop, drop_of_length-le}
use lib.Dec.{ltb}
use borrow.Author.Tests.{leb-true, ltb-true, eq-eqb}
use Rattle.ledger.specs.Limits.{block_limit}
use Rattle.ledger.specs.declared.Fault.{Fault}
use Rattle.text.specs.declared.Class.TheVariants.{Line}
use Rattle.text.specs.Scan.{run, end_of}
use Rattle.text.specs.Checks.{then_check, last_line_check, words_check}
use Rattle.text.specs.Pieces.{lines_of, line_of, words_of}
use Rattle.text.specs.Words.{line_end, next_line, word_count}
use Rattle.text.proofs.Laws.{either, line_last}
use Rattle.text.proofs.PieceLaws.{lines_none, lines_step}
use Rattle.text.proofs.StageLaws.{require_passes}
use Rattle.columns.specs.Columns.{columns_from, values_from, value_of, then_next}
use Rattle.columns.specs.Spells.{firsts}
use Rattle.columns.proofs.Meant.{Meant, meant_length, meant_spells, spells_meant}
use Rattle.columns.proofs.SpellsLaws.{columns_mean, Reads, meant_read}
use Rattle.columns.proofs.PlaceLaws.{value_first}
use Rattle.chain.specs.declared.BlockLine.{BlockLine}
use Rattle.chain.specs.declared.BlockLine.TheVariants.{Last, Gap}
use Rattle.chain.specs.declared.Ending.{Ending}
use Rattle.chain.specs.Columns as column
use Rattle.chain.specs.Table.{block_columns}
use Rattle.chain.specs.Records.{targets_from, queries_from, sizes_from}
use Rattle.chain.specs.Read.{block_words, limit_check, block_is, block_numbers, block_line, then_block, ending_at, lines_from}
use Rattle.chain.specs.Rules.{BlockLines, last_line, more_lines}
use Rattle.chain.proofs.BlockLaws.{count_split, words_good, gap_holds, last_holds}
use Rattle.chain.proofs.WalkLaws.{from_last, from_gap}
use Rattle.std.specs.Prelude.{Ok, Err, Result, ⊤}

-- the lines from a place on
module _ (s : List ℕ) (i : ℕ) where
  line_at : take (line_end s i - i) (drop i s) ≡ line_of (drop i s)
  unfolding line_end end_of line_of
  line_at =
      let q : i + run Line (drop i s) - i ≡ run Line (drop i s) = omega arith in
      rw q

  pub lines_at : i < length s → lines_of (drop i s) ≡ line_of (drop i s) ∷ lines_of (drop (next_line s i) s)
  lines_at h = lines_step s i h ∙ ap (λ (l : List ℕ). l ∷ lines_of (drop (next_line s i) s)) line_at

  pub lines_past : length s ≤ i → lines_of (drop i s) ≡ []
  lines_past h = rw (drop_of_length-le s h, lines_none)

  -- a place with a line is inside the text
  pub line_there : (l : List ℕ) (ls : List (List ℕ)) → lines_of (drop i s) ≡ l ∷ ls → i < length s
  line_there l ls e = either (length s) i _ (λ h. let p = lines_past h in absurd (let z : ◌≡◌ {A = ℕ} 0 1 = cc in omega arith)) (λ h. h)

  pub no_line : lines_of (drop i s) ≡ [] → length s ≤ i
  no_line e = either (length s) i _ (λ h. h) (λ h. let p = lines_at h in absurd (let z : ◌≡◌ {A = ℕ} 0 1 = cc in omega arith))

-- lists of three and of one
three_is : (l : List ℕ) → length l ≡ 3 → l ≡ get_or l 0 0 ∷ get_or l 1 0 ∷ get_or l 2 0 ∷ []
three_is [] e = absurd (omega arith)
three_is (a ∷ []) e = absurd (omega arith)
three_is (a ∷ b ∷ []) e = absurd (omega arith)
three_is (a ∷ b ∷ c ∷ []) e = refl
three_is (a ∷ b ∷ c ∷ d ∷ l) e = absurd (omega arith)

one_is : (l : List ℕ) → length l ≡ 1 → l ≡ get_or l 0 0 ∷ []
one_is [] e = absurd (omega arith)
one_is (a ∷ []) e = refl
one_is (a ∷ b ∷ l) e = absurd (omega arith)

-- a block line that is read
record Good (s : List ℕ) (line : ℕ) (b : Result BlockLine Fault) : Type 0 where
  count : block_words s line (word_count s line) ≡ Ok tt
  end : ℕ
  read : columns_from (take (word_count s line) block_columns) 0 s line ≡ Ok end
  is : b ≡ block_is (word_count s line) (values_from (take (word_count s line) block_columns) 0 s line)

module _ (s : List ℕ) (line : ℕ) where
  good_of : (b : Result BlockLine Fault) → ((x : Fault) → b ≡ Err x → ⊥) → block_line s line ≡ b → Good s line b
  unfolding block_line block_numbers
  good_of b never e = go (block_words s line (word_count s line)) (columns_from (take (word_count s line) block_columns) 0 s line) refl refl e
    where
      go : (c : Result ⊤ Fault) (d : Result ℕ Fault) → block_words s line (word_count s line) ≡ c → columns_from (take (word_count s line) block_columns) 0 s line ≡ d
          → then_check Err c (then_next Err d (block_is (word_count s line) (values_from (take (word_count s line) block_columns) 0 s line))) ≡ b → Good s line b
      go (Ok tt) (Ok f) p q k = record { count = p; end = f; read = q; is = sym k }
      go (Ok tt) (Err x) p q k = absurd (never x (sym k))
      go (Err x) d p q k = absurd (never x (sym k))

  abbrev here : List (List ℕ)
  here = words_of (line_of (drop line s))

  three_spell : (z dt dq e : ℕ) → word_count s line ≡ column.gap_count → columns_from (take column.gap_count block_columns) 0 s line ≡ Ok e → Ok (Gap z dt dq) ≡ block_is column.gap_count (values_from (take column.gap_count block_columns) 0 s line) → Meant block_columns 0 here (z ∷ dt ∷ dq ∷ [])
  unfolding block_columns
  three_spell z dt dq e w read is =
      let vs = values_from (take column.gap_count block_columns) 0 s line in
      let sp : Meant block_columns 0 here (firsts vs) = columns_mean (take column.gap_count block_columns) 0 s line e w read in
      let a : get_or (firsts vs) column.size 0 ≡ z = value_first vs column.size ∙ cc in
      let b : get_or (firsts vs) column.dt 0 ≡ dt = value_first vs column.dt ∙ cc in
      let c : get_or (firsts vs) column.dq 0 ≡ dq = value_first vs column.dq ∙ cc in
      let f : firsts vs ≡ z ∷ dt ∷ dq ∷ [] = three_is (firsts vs) (meant_length sp).1 ∙ rw (a, b, c) in
      rw f at sp

  one_spell : (z e : ℕ) → word_count s line ≡ column.last_count → columns_from (take column.last_count block_columns) 0 s line ≡ Ok e → Ok (Last z) ≡ block_is column.last_count (values_from (take column.last_count block_columns) 0 s line) → Meant (take column.last_count block_columns) 0 here (z ∷ [])
  unfolding block_columns
  one_spell z e w read is =
      let vs = values_from (take column.last_count block_columns) 0 s line in
      let sp : Meant (take column.last_count block_columns) 0 here (firsts vs) = columns_mean (take column.last_count block_columns) 0 s line e w read in
      let a : get_or (firsts vs) column.size 0 ≡ z = value_first vs column.size ∙ cc in
      let f : firsts vs ≡ z ∷ [] = one_is (firsts vs) (meant_length sp).1 ∙ rw a in
      rw f at sp

  pub gap_spells : (z dt dq : ℕ) → block_line s line ≡ Ok (Gap z dt dq) → Meant block_columns 0 here (z ∷ dt ∷ dq ∷ [])
  gap_spells z dt dq e =
      let g = good_of (Ok (Gap z dt dq)) (λ x q. let k : ◌≡◌ {A = ℕ} 0 1 = cc in omega arith) e in
      count_split (word_count s line) (words_good s line (word_count s line) g.count) _
      (λ q. absurd (let k = rw (eq-eqb (word_count s line) column.last_count q) at g.is in let z : ◌≡◌ {A = ℕ} 0 1 = cc in omega arith))
      (λ q. three_spell z dt dq g.end q (rw q at g.read) (rw q at g.is))

  pub last_spells : (z : ℕ) → block_line s line ≡ Ok (Last z) → Meant (take column.last_count block_columns) 0 here (z ∷ [])
  last_spells z e =
      let g = good_of (Ok (Last z)) (λ x q. let k : ◌≡◌ {A = ℕ} 0 1 = cc in omega arith) e in
      count_split (word_count s line) (words_good s line (word_count s line) g.count) _
      (λ q. one_spell z g.end q (rw q at g.read) (rw q at g.is))
      (λ q. absurd (let k = rw q at g.is in let z : ◌≡◌ {A = ℕ} 0 1 = cc in omega arith))

  pub spells_gap : (z dt dq : ℕ) → Meant block_columns 0 here (z ∷ dt ∷ dq ∷ []) → block_line s line ≡ Ok (Gap z dt dq)
  unfolding block_line block_words words_check block_numbers block_columns word_count
  spells_gap z dt dq sp =
      let w : length here ≡ column.gap_count = (meant_length sp).0 in
      let rd : Reads (take column.gap_count block_columns) 0 s line (z ∷ dt ∷ dq ∷ []) = meant_read (take column.gap_count block_columns) 0 s line here (z ∷ dt ∷ dq ∷ []) w refl sp in
      let vs = values_from (take column.gap_count block_columns) 0 s line in
      let a : value_of vs column.size ≡ z = sym (value_first vs column.size) ∙ ap (λ (l : List ℕ). get_or l column.size 0) rd.values in
      let b : value_of vs column.dt ≡ dt = sym (value_first vs column.dt) ∙ ap (λ (l : List ℕ). get_or l column.dt 0) rd.values in
      let c : value_of vs column.dq ≡ dq = sym (value_first vs column.dq) ∙ ap (λ (l : List ℕ). get_or l column.dq 0) rd.values in
      rw (w, rd.read, a, b, c)

  pub spells_last : (z : ℕ) → Meant (take column.last_count block_columns) 0 here (z ∷ []) → block_line s line ≡ Ok (Last z)
  unfolding block_line block_words words_check block_numbers block_columns word_count
  spells_last z sp =
      let w : length here ≡ column.last_count = (meant_length sp).0 in
      let rd : Reads (take column.last_count block_columns) 0 s line (z ∷ []) = meant_read (take column.last_count block_columns) 0 s line here (z ∷ []) w refl sp in
      let vs = values_from (take column.last_count block_columns) 0 s line in
      let a : value_of vs column.size ≡ z = sym (value_first vs column.size) ∙ ap (λ (l : List ℕ). get_or l column.size 0) rd.values in
      rw (w, rd.read, a)

-- the block lines that a walk passed say its rows
pub record Ends (te qe : ℕ) (s : List ℕ) (k line t q count : ℕ) : Type 0 where
  pub n : ℕ
  pub some : 1 ≤ n
  pub few : n ≤ k
  pub is : count ≡ block_limit - k + n
  pub says : BlockLines te qe (lines_of (drop line s)) t q (targets_from n s line t) (queries_from n s line q) (sizes_from n s line)

module _ (te qe : ℕ) (s : List ℕ) (k line t q count : ℕ) (fits : suc k ≤ block_limit) (h : line < length s) where
  last_ends : (z : ℕ) → block_line s line ≡ Ok (Last z) → last_line_check s line ≡ Ok tt → t + z ≡ te → q + z ≡ qe → count ≡ block_limit - k → Ends te qe s (suc k) line t q count
  unfolding last_line_check targets_from queries_from sizes_from
  last_ends z g l et eq ec =
      let past : length s ≤ next_line s line = leb-true (length s) (next_line s line) (require_passes _ _ _ l).0 in
      let one : lines_of (drop line s) ≡ line_of (drop line s) ∷ [] = lines_at s line h ∙ ap (λ (x : List (List ℕ)). line_of (drop line s) ∷ x) (lines_past s (next_line s line) past) in
      record { n = 1; some = omega arith; few = omega arith; is = omega arith; says = rw (one, last_holds s line z g) (last_line (meant_spells (last_spells s line z g)) et eq) }

  more_ends : (z dt dq : ℕ) → block_line s line ≡ Ok (Gap z dt dq) → Ends te qe s k (next_line s line) (t + z + dt) (q + z + dq) count → Ends te qe s (suc k) line t q count
  unfolding targets_from queries_from sizes_from
  more_ends z dt dq g r =
      let v = gap_holds s line z dt dq g in
      let a = r.few in
      let b = r.is in
      record { n = suc r.n; some = omega arith; few = omega arith; is = omega arith; says = rw (lines_at s line h, v.0, v.1, v.2) (more_lines (meant_spells (gap_spells s line z dt dq g)) r.says) }

pub walk_says : (s : List ℕ) (k : ℕ) → k ≤ block_limit → (line t q : ℕ) (e : Ending) → lines_from k s line t q ≡ Ok e → last_line_check s e.line ≡ Ok tt → Ends e.target e.query s k line t q e.count
unfolding lines_from limit_check
walk_says s zero fits line t q e w l = absurd (go (ltb line (length s)) _ _ w)
  where
    go : (b : Bool) (x y : Fault) → cond b (Err x) (Err y) ≡ Ok e → ⊥
    go true x y k = let z : ◌≡◌ {A = ℕ} 0 1 = cc in omega arith
    go false x y k = let z : ◌≡◌ {A = ℕ} 0 1 = cc in omega arith
walk_says s (suc k) fits line t q e w l = go (ltb line (length s)) (block_line s line) _ refl refl w (λ z dt dq v. walk_says s k (omega arith) (next_line s line) (t + z + dt) (q + z + dq) e v l)
  where
    go : (b : Bool) (x : Result BlockLine Fault) (y : Fault) → ltb line (length s) ≡ b → block_line s line ≡ x
        → cond b (then_block x (λ z. Ok (ending_at line (block_limit - k) (t + z) (q + z))) (λ z dt dq. lines_from k s (next_line s line) (t + z + dt) (q + z + dq))) (Err y) ≡ Ok e
        → ((z dt dq : ℕ) → lines_from k s (next_line s line) (t + z + dt) (q + z + dq) ≡ Ok e → Ends e.target e.query s k (next_line s line) (t + z + dt) (q + z + dq) e.count)
        → Ends e.target e.query s (suc k) line t q e.count
    go true (Ok (Last z)) y p g v ih =
        let i : ending_at line (block_limit - k) (t + z) (q + z) ≡ e = cc in
        let el : e.line ≡ line = sym (ap (λ (x : Ending). x.line) i) in
        last_ends e.target e.query s k line t q e.count fits (ltb-true line (length s) p) z g (rw el at l) (ap (λ (x : Ending). x.target) i) (ap (λ (x : Ending). x.query) i) (sym (ap (λ (x : Ending). x.count) i))
    go true (Ok (Gap z dt dq)) y p g v ih =
        more_ends e.target e.query s k line t q e.count fits (ltb-true line (length s) p) z dt dq g (ih z dt dq v)
    go true (Err x) y p g v ih = absurd (let z : ◌≡◌ {A = ℕ} 0 1 = cc in omega arith)
    go false x y p g v ih = absurd (let z : ◌≡◌ {A = ℕ} 0 1 = cc in omega arith)

-- and block lines that say rows are passed by the walk, with just those rows
pub record Ran (te qe : ℕ) (s : List ℕ) (k line t q : ℕ) (ts qs zs : List ℕ) : Type 0 where
  pub end : Ending
  pub ran : lines_from k s line t q ≡ Ok end
  pub last : last_line_check s end.line ≡ Ok tt
  pub target : end.target ≡ te
  pub query : end.query ≡ qe
  pub count : end.count ≡ block_limit - k + length zs
  pub targets : ts ≡ targets_from (length zs) s line t
  pub queries : qs ≡ queries_from (length zs) s line q
  pub sizes : zs ≡ sizes_from (length zs) s line

not_zero : (k : ℕ) → suc k ≡ 0 → ⊥
not_zero k e = omega arith

module _ (te qe : ℕ) (s : List ℕ) (k line t q : ℕ) (fits : suc k ≤ block_limit) (l : List ℕ) (ls : List (List ℕ)) (e : lines_of (drop line s) ≡ l ∷ ls) where
  inside : line < length s
  inside = line_there s line l ls e

  this_line : l ≡ line_of (drop line s)
  this_line = let p = lines_at s line inside in cc

  pub rest_lines : lines_of (drop (next_line s line) s) ≡ ls
  rest_lines = let p = lines_at s line inside in cc

  less : suc k - 1 ≡ k
  less = omega arith

  last_ran : (z : ℕ) → ls ≡ [] → Meant (take column.last_count block_columns) 0 (words_of l) (z ∷ []) → t + z ≡ te → q + z ≡ qe → Ran te qe s (suc k) line t q (t ∷ []) (q ∷ []) (z ∷ [])
  unfolding targets_from queries_from sizes_from
  last_ran z none sp et eq =
      let g : block_line s line ≡ Ok (Last z) = spells_last s line z (rw this_line at sp) in
      let past : length s ≤ next_line s line = no_line s (next_line s line) (rest_lines ∙ none) in
      let c : block_limit - k ≡ block_limit - suc k + 1 = omega arith in
      record {
        end = ending_at line (block_limit - k) (t + z) (q + z);
        ran = rw less at (from_last s line t q inside (suc k) z (not_zero k) g);
        last = sym (line_last s line (next_line s line) refl past);
        target = et;
        query = eq;
        count = c;
        targets = refl;
        queries = refl;
        sizes = rw (last_holds s line z g);
      }

  more_ran : (z dt dq : ℕ) (ts qs zs : List ℕ) → Meant block_columns 0 (words_of l) (z ∷ dt ∷ dq ∷ []) → Ran te qe s k (next_line s line) (t + z + dt) (q + z + dq) ts qs zs → Ran te qe s (suc k) line t q (t ∷ ts) (q ∷ qs) (z ∷ zs)
  unfolding targets_from queries_from sizes_from
  more_ran z dt dq ts qs zs sp r =
      let g : block_line s line ≡ Ok (Gap z dt dq) = spells_gap s line z dt dq (rw this_line at sp) in
      let v = gap_holds s line z dt dq g in
      let c = r.count in
      let d : r.end.count ≡ block_limit - suc k + suc (length zs) = omega arith in
      record {
        end = r.end;
        ran = (rw less at (from_gap s line t q inside (suc k) z dt dq (not_zero k) g)) ∙ r.ran;
        last = r.last;
        target = r.target;
        query = r.query;
        count = d;
        targets = rw (v.0, v.1) (ap (λ (x : List ℕ). t ∷ x) r.targets);
        queries = rw (v.0, v.2) (ap (λ (x : List ℕ). q ∷ x) r.queries);
        sizes = rw v.0 (ap (λ (x : List ℕ). z ∷ x) r.sizes);
      }

pub lines_run : {te qe : ℕ} (s : List ℕ) (k line : ℕ) {t q : ℕ} {ls : List (List ℕ)} {ts qs zs : List ℕ} → BlockLines te qe ls t q ts qs zs → length zs ≤ k → k ≤ block_limit → lines_of (drop line s) ≡ ls → Ran te qe s k line t q ts qs zs
lines_run s zero line (last_line sp et eq) few fits e = absurd (omega arith)
lines_run {te} {qe} s (suc k) line (last_line {line = l} {t = t} {q = q} {z = z} sp et eq) few fits e = last_ran te qe s k line t q fits l [] e z refl (spells_meant sp) et eq
lines_run s zero line (more_lines sp b) few fits e = absurd (omega arith)
lines_run {te} {qe} s (suc k) line (more_lines {line = l} {lines = ls} {t = t} {q = q} {z = z} {dt = dt} {dq = dq} {ts = ts} {qs = qs} {zs = zs} sp b) few fits e =
    more_ran te qe s k line t q fits l ls e z dt dq ts qs zs (spells_meant sp) (lines_run s k (next_line s line) b (omega arith) (omega arith) (rest_lines te qe s k line t q fits l ls e))
