-- Request 9: what the rows of a batch are, and the tally after every list of calls. Assumes nothing.
use mathlib.Core.Path.{◌≡◌, refl, sym, ap, ◌∙◌}
use mathlib.Core.Bool.{Bool, true, false, not}
use mathlib.Core.List.{List, [], ◌∷◌, ◌++◌, map, append_assoc, append-nil}
use Prim.Native.Nat.{ℕ, zero, suc, ◌+◌, ◌-◌, ◌≤◌, ◌<◌}
use native.Mathlib.Numerals.{add-one}
use native.Mathlib.Omega.{arith}
use lib.ListN.{length, take, drop, get_or, set, length-map, length-append, length-drop, drop_of_length-le, take-append-drop, get_or-append, get_or-map}
use lib.Seq.{drop-cons, take-suc-set, drop-set-lt, drop_at}
use lib.Dec.{leb}
use borrow.Author.Tests.{lt-leb, le-leb, leb-true, not-true}
use Rattle.ledger.specs.declared.Row.{Row}
use Rattle.ledger.specs.declared.Refusal.{Refusal}
use Rattle.ledger.specs.declared.Reason.TheVariants.{BlockRules}
use Rattle.ledger.specs.Reasons.{reason_number}
use Rattle.blocks.specs.Rows.{table_of}
use Rattle.chain.specs.declared.Chain.{Chain}
use Rattle.lift.specs.Accepted.{accepted, Ready}
use Rattle.region.specs.declared.Reach.{Reach}
use Rattle.region.specs.declared.Region.{Region}
use Rattle.region.specs.declared.Tally.{Tally}
use Rattle.region.specs.declared.Tallied.{Tallied}
use Rattle.region.specs.declared.Batched.{Batched}
use Rattle.region.specs.Regions.{not_lifted}
use Rattle.region.specs.Reaches.{Found}
use Rattle.region.specs.Tallies.{tally_step, Sent, sent_through}
use Rattle.region.specs.Steps.{step_ready, no_room, refused_rows, AnsweredAll}
use Rattle.region.specs.Batches.{answer_row, step_of, answer_rows, sent_as, sent_if, sent_batch, batch_check, BatchDone}
use Rattle.region.proofs.TallyLaws.{ready_step}
use Rattle.std.specs.Prelude.{Ok, Err, Result}

-- ---- the ways out of `answer_row`
pub row_lifted : (x : Result Region Refusal) (r : Region) → x ≡ Ok r → 0 ∷ r.kept ∷ r.dropped ∷ r.start ∷ r.end ∷ [] ≡ answer_row x
row_lifted x r e = rw e

pub row_refused : (x : Result Region Refusal) (r : Refusal) (n : ℕ) → x ≡ Err r → n ≡ reason_number r.reason → n ∷ 0 ∷ 0 ∷ 0 ∷ 0 ∷ [] ≡ answer_row x
row_refused x r n e k = rw (e, k)

-- ---- rows stored one after the other
pub store_next : (out goal more : List (List ℕ)) (n i : ℕ) (row : List ℕ) → i < n → n ≤ length out → take i out ++ ((row ∷ more) ++ drop n out) ≡ goal
    → take (i + 1) (set out i row) ++ (more ++ drop n (set out i row)) ≡ goal
store_next out goal more n i row h w inv =
    let l : i < length out = omega arith in
    let k : take (i + 1) (set out i row) ≡ take i out ++ (row ∷ []) = rw (add-one i) (take-suc-set out i row l) in
    rw (k, drop-set-lt n out i row h, append_assoc) inv

pub store_done : (out goal : List (List ℕ)) (n i : ℕ) → n ≡ i → take i out ++ drop n out ≡ goal → out ≡ goal
store_done out goal n i e inv = sym (take-append-drop i out) ∙ ap (λ (j : ℕ). take i out ++ drop j out) (sym e) ∙ inv

-- ---- the loop of `answer_all`
module _ (c : Chain) (ts qs zs : List ℕ) (regions : List (List ℕ)) (t u : Tally) (i : ℕ) (h : i < length regions) (g : Reach) (r : Tallied) (is : Ready c ts qs zs)
    (f : Found c (table_of ts qs zs) (get_or (get_or regions i []) 0 0) (get_or (get_or regions i []) 1 0) g) (e : r ≡ step_ready t c.tSize g (get_or (get_or regions i []) 0 0) (get_or (get_or regions i []) 1 0)) where
  stepped : r ≡ tally_step t c (table_of ts qs zs) (get_or (get_or regions i []) 0 0) (get_or (get_or regions i []) 1 0)
  stepped = e ∙ ready_step t c (table_of ts qs zs) _ _ g is.ok f

  next : map (sent_as c (table_of ts qs zs)) (drop i regions) ≡ sent_as c (table_of ts qs zs) (get_or regions i []) ∷ map (sent_as c (table_of ts qs zs)) (drop (i + 1) regions)
  next = rw (add-one i, drop-cons regions i [] h)

  pub tally_next : sent_through t (map (sent_as c (table_of ts qs zs)) (drop i regions)) ≡ sent_through u (map (sent_as c (table_of ts qs zs)) regions)
      → sent_through r.tally (map (sent_as c (table_of ts qs zs)) (drop (i + 1) regions)) ≡ sent_through u (map (sent_as c (table_of ts qs zs)) regions)
  unfolding sent_through
  tally_next k = rw stepped (sym (ap (sent_through t) next) ∙ k)

  pub rows_next : (out : List (List ℕ)) (goal : List (List ℕ)) (row : List ℕ) → length regions ≤ length out → row ≡ answer_row r.answer
      → take i out ++ (answer_rows t (map (sent_as c (table_of ts qs zs)) (drop i regions)) ++ drop (length regions) out) ≡ goal
      → take (i + 1) (set out i row) ++ (answer_rows r.tally (map (sent_as c (table_of ts qs zs)) (drop (i + 1) regions)) ++ drop (length regions) (set out i row)) ≡ goal
  unfolding answer_rows
  rows_next out goal row w k inv =
      let f : answer_rows t (map (sent_as c (table_of ts qs zs)) (drop i regions)) ≡ row ∷ answer_rows r.tally (map (sent_as c (table_of ts qs zs)) (drop (i + 1) regions))
      = ap (answer_rows t) next ∙ rw (k, stepped) in
      store_next out goal (answer_rows r.tally (map (sent_as c (table_of ts qs zs)) (drop (i + 1) regions))) (length regions) i row h w
      (sym (ap (λ (x : List (List ℕ)). take i out ++ (x ++ drop (length regions) out)) f) ∙ inv)

pub all_answered : (c : Chain) (rows : List Row) (regions before after : List (List ℕ)) (t u : Tally) (i : ℕ) → i ≤ length regions → length regions ≤ i
    → sent_through u (map (sent_as c rows) (drop i regions)) ≡ sent_through t (map (sent_as c rows) regions)
    → take i after ++ (answer_rows u (map (sent_as c rows) (drop i regions)) ++ drop (length regions) after) ≡ answer_rows t (map (sent_as c rows) regions) ++ drop (length regions) before
    → AnsweredAll t c rows regions before after u
unfolding sent_through answer_rows
all_answered c rows regions before after t u i h k f g =
    let d : drop i regions ≡ [] = drop_of_length-le regions k in
    let e : length regions ≡ i = omega arith in
    let m : sent_through u (map (sent_as c rows) []) ≡ sent_through t (map (sent_as c rows) regions) = rw d at f in
    let n : take i after ++ drop (length regions) after ≡ answer_rows t (map (sent_as c rows) regions) ++ drop (length regions) before = rw d at g in
    record { tally = m; answers = store_done after _ (length regions) i e n }

-- ---- the loop of `refuse_all`
pub refused_first : (out : List (List ℕ)) (n : ℕ) → take 0 out ++ (refused_rows (n - 0) ++ drop n out) ≡ refused_rows n ++ drop n out
refused_first out n = let m : n - 0 ≡ n = omega arith in rw m

pub refused_row : (x : Result Region Refusal) (row : List ℕ) → x ≡ not_lifted BlockRules → row ≡ answer_row x → row ≡ answer_row (not_lifted BlockRules)
refused_row x row e k = k ∙ ap answer_row e

pub refused_next : (out goal : List (List ℕ)) (n i : ℕ) (row : List ℕ) → i < n → n ≤ length out → row ≡ answer_row (not_lifted BlockRules)
    → take i out ++ (refused_rows (n - i) ++ drop n out) ≡ goal → take (i + 1) (set out i row) ++ (refused_rows (n - (i + 1)) ++ drop n (set out i row)) ≡ goal
unfolding refused_rows
refused_next out goal n i row h w k inv =
    let m : n - i ≡ suc (n - (i + 1)) = omega arith in
    store_next out goal (refused_rows (n - (i + 1))) n i row h w (rw k (rw m at inv))

pub refused_done : (out goal : List (List ℕ)) (n i : ℕ) → i ≤ n → n ≤ i → take i out ++ (refused_rows (n - i) ++ drop n out) ≡ goal → out ≡ goal
unfolding refused_rows
refused_done out goal n i h k inv = let m : n - i ≡ 0 = omega arith in store_done out goal n i (omega arith) (rw m at inv)

-- ---- the ways out of `tally_batch`
module _ (t : Tally) (c : Chain) (rows : List Row) (regions before : List (List ℕ)) where
  pub batch_refused : (r : Batched) → length before < length regions → r ≡ no_room t → BatchDone t c rows regions before before r
  unfolding batch_check sent_batch sent_through answer_rows
  batch_refused r h k =
      let e = lt-leb (length regions) (length before) h in
      record { check = rw e (ap (λ (x : Batched). x.check) k); tally = rw e (ap (λ (x : Batched). x.tally) k); answers = rw e }

  module _ (h : length regions ≤ length before) (after : List (List ℕ)) (r : Batched) (k : r.check ≡ Ok tt) where
    pub batch_answered : (u : Tally) → AnsweredAll t c rows regions before after u → r.tally ≡ u → BatchDone t c rows regions before after r
    unfolding batch_check sent_batch
    batch_answered u a l =
        let e = le-leb (length regions) (length before) h in
        record { check = rw e k; tally = rw e (l ∙ a.tally); answers = rw (e, length-map) a.answers }

    -- through no accepted chain every region is refused by 9
    pub batch_not_accepted : (v : Bool) → v ≡ accepted c rows → not v ≡ true → after ≡ refused_rows (length regions) ++ drop (length regions) before → r.tally ≡ t
        → BatchDone t c rows regions before after r
    unfolding sent_through tally_step refused_rows answer_rows
    batch_not_accepted v is l a b = batch_answered t (record { tally = stays regions; answers = a ∙ ap (λ (x : List (List ℕ)). x ++ drop (length regions) before) (nines regions) }) b
      where
        no : accepted c rows ≡ false
        no = sym is ∙ not-true v l

        nine : (a e : ℕ) → tally_step t c rows a e ≡ record { tally = t; answer = not_lifted BlockRules }
        nine a e = rw no

        stays : (xs : List (List ℕ)) → t ≡ sent_through t (map (sent_as c rows) xs)
        stays [] = refl
        stays (x ∷ xs) = stays xs ∙ ap (λ (y : Tallied). sent_through y.tally (map (sent_as c rows) xs)) (sym (nine (get_or x 0 0) (get_or x 1 0)))

        nines : (xs : List (List ℕ)) → refused_rows (length xs) ≡ answer_rows t (map (sent_as c rows) xs)
        nines [] = refl
        nines (x ∷ xs) =
            ap (λ (l : List (List ℕ)). answer_row (not_lifted BlockRules) ∷ l) (nines xs)
            ∙ ap (λ (y : Tallied). answer_row y.answer ∷ answer_rows y.tally (map (sent_as c rows) xs)) (sym (nine (get_or x 0 0) (get_or x 1 0)))

-- ---- what a batch tells
rows_length : (t : Tally) (rs : List Sent) → length (answer_rows t rs) ≡ length rs
unfolding answer_rows
rows_length t [] = refl
rows_length t (r ∷ rs) = ap suc (rows_length (step_of t r).tally rs)

row_at_lem : (t : Tally) (rs : List Sent) (r₀ : Sent) (i : ℕ) → i < length rs → get_or (answer_rows t rs) i [] ≡ answer_row (step_of (sent_through t (take i rs)) (get_or rs i r₀)).answer
unfolding answer_rows sent_through
row_at_lem t [] r₀ i h = absurd (omega arith)
row_at_lem t (r ∷ rs) r₀ zero h = refl
row_at_lem t (r ∷ rs) r₀ (suc i) h = row_at_lem (step_of t r).tally rs r₀ i (omega arith)

take_each : {X Y : Type 0} (f : X → Y) (n : ℕ) (xs : List X) → take n (map f xs) ≡ map f (take n xs)
take_each f zero xs = refl
take_each f (suc n) [] = refl
take_each f (suc n) (x ∷ xs) = ap (λ (l : List _). f x ∷ l) (take_each f n xs)

-- THE ROWS: row i is the answer of the single step i, with the tally as the ones before left it; the rows past them stay
module _ (t : Tally) (c : Chain) (rows : List Row) (regions before after : List (List ℕ)) (r : Batched) (d : BatchDone t c rows regions before after r) where
  module _ (h : length regions ≤ length before) where
    sent_all : sent_batch c rows regions (length before) ≡ map (sent_as c rows) regions
    unfolding sent_batch
    sent_all = rw (le-leb (length regions) (length before) h)

    rows_all : after ≡ answer_rows t (map (sent_as c rows) regions) ++ drop (length regions) before
    rows_all = rw (sent_all, length-map) at d.answers

    count : length (answer_rows t (map (sent_as c rows) regions)) ≡ length regions
    count = rows_length t (map (sent_as c rows) regions) ∙ length-map regions (sent_as c rows)

    pub batch_row : (i : ℕ) → i < length regions
        → get_or after i [] ≡ answer_row (tally_step (sent_through t (map (sent_as c rows) (take i regions))) c rows (get_or (get_or regions i []) 0 0) (get_or (get_or regions i []) 1 0)).answer
    batch_row i k =
        let l : i < length (answer_rows t (map (sent_as c rows) regions)) = omega (arith, count) in
        let m : i < length (map (sent_as c rows) regions) = omega (arith, length-map regions (sent_as c rows)) in
        ap (λ (x : List (List ℕ)). get_or x i []) rows_all
        ∙ get_or-append (answer_rows t (map (sent_as c rows) regions)) (drop (length regions) before) [] i l
        ∙ row_at_lem t (map (sent_as c rows) regions) (sent_as c rows []) i m
        ∙ rw (take_each (sent_as c rows) i regions, get_or-map (sent_as c rows) regions i [])

    pub batch_rest : drop (length regions) after ≡ drop (length regions) before
    batch_rest = ap (drop (length regions)) rows_all ∙ drop_at (answer_rows t (map (sent_as c rows) regions)) (drop (length regions) before) (length regions) count

    pub batch_tally : r.tally ≡ sent_through t (map (sent_as c rows) regions)
    batch_tally = rw sent_all at d.tally

  -- with a row for each region and none more
  pub batch_full : length before ≡ length regions → after ≡ answer_rows t (map (sent_as c rows) regions)
  batch_full e =
      let k : length before ≤ length regions = omega arith in
      let n : drop (length regions) before ≡ [] = drop_of_length-le before k in
      rows_all (omega arith) ∙ ap (λ (l : List (List ℕ)). answer_rows t (map (sent_as c rows) regions) ++ l) n ∙ append-nil (answer_rows t (map (sent_as c rows) regions))

  -- as many rows as before
  pub batch_many : length after ≡ length before
  batch_many = ap length d.answers ∙ kept
    where
      rs : List Sent
      rs = sent_batch c rows regions (length before)

      few : (v : Bool) → leb (length regions) (length before) ≡ v → length (sent_if v (map (sent_as c rows) regions)) ≤ length before
      few true e = let l = length-map regions (sent_as c rows) in omega (arith, leb-true (length regions) (length before) e)
      few false e = omega arith

      fits : length rs ≤ length before
      fits = unfold sent_batch in few (leb (length regions) (length before)) refl

      kept : length (answer_rows t rs ++ drop (length rs) before) ≡ length before
      kept = length-append (answer_rows t rs) (drop (length rs) before) ∙ omega (arith, rows_length t rs, length-drop (length rs) before, fits)

  -- fewer rows than regions: nothing moves
  pub batch_left : length before < length regions → (after ≡ before) × (r.tally ≡ t)
  unfolding answer_rows sent_through
  batch_left h = let e = none_sent h in (rw e at d.answers, rw e at d.tally)
    where
      none_sent : length before < length regions → sent_batch c rows regions (length before) ≡ []
      none_sent k = unfold sent_batch in rw (lt-leb (length regions) (length before) k)

-- rows whose steps are the same give the same batch
module _ (c : Chain) (rows rows' : List Row) (same : (t : Tally) (a e : ℕ) → tally_step t c rows a e ≡ tally_step t c rows' a e) where
  through_same : (t : Tally) (xs : List (List ℕ)) → sent_through t (map (sent_as c rows) xs) ≡ sent_through t (map (sent_as c rows') xs)
  unfolding sent_through
  through_same t [] = refl
  through_same t (x ∷ xs) =
      ap (λ (y : Tallied). sent_through y.tally (map (sent_as c rows) xs)) (same t (get_or x 0 0) (get_or x 1 0))
      ∙ through_same (tally_step t c rows' (get_or x 0 0) (get_or x 1 0)).tally xs

  rows_same : (t : Tally) (xs : List (List ℕ)) → answer_rows t (map (sent_as c rows) xs) ≡ answer_rows t (map (sent_as c rows') xs)
  unfolding answer_rows
  rows_same t [] = refl
  rows_same t (x ∷ xs) =
      rw (same t (get_or x 0 0) (get_or x 1 0)) (ap (λ (l : List (List ℕ)). answer_row (tally_step t c rows' (get_or x 0 0) (get_or x 1 0)).answer ∷ l) (rows_same (tally_step t c rows' (get_or x 0 0) (get_or x 1 0)).tally xs))

  pub done_same : (t : Tally) (regions before after : List (List ℕ)) (r : Batched) → BatchDone t c rows regions before after r → BatchDone t c rows' regions before after r
  unfolding sent_batch
  done_same t regions before after r d = record {
    check = d.check;
    tally = d.tally ∙ tallies (leb (length regions) (length before));
    answers = d.answers ∙ answers (leb (length regions) (length before));
  }
    where
      tallies : (b : Bool) → sent_through t (sent_if b (map (sent_as c rows) regions)) ≡ sent_through t (sent_if b (map (sent_as c rows') regions))
      tallies true = through_same t regions
      tallies false = refl

      answers : (b : Bool) → answer_rows t (sent_if b (map (sent_as c rows) regions)) ++ drop (length (sent_if b (map (sent_as c rows) regions))) before
          ≡ answer_rows t (sent_if b (map (sent_as c rows') regions)) ++ drop (length (sent_if b (map (sent_as c rows') regions))) before
      answers true = rw (length-map regions (sent_as c rows), length-map regions (sent_as c rows')) (ap (λ (l : List (List ℕ)). l ++ drop (length regions) before) (rows_same t regions))
      answers false = refl
