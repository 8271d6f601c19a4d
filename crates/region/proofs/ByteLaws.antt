-- A batch on bytes: the loop that reads regions and puts rows, and the ways out through a text. Assumes nothing.
use mathlib.Core.Path.{◌≡◌, refl, sym, ap, ◌∙◌}
use mathlib.Core.Bool.{Bool, true, false, not}
use mathlib.Core.List.{List, [], ◌∷◌, ◌++◌, map, append_assoc, append-nil}
use Prim.Native.Nat.{ℕ, zero, suc, ◌+◌, ◌-◌, ◌*◌, ◌/◌, ◌%◌, ◌≤◌, ◌<◌}
use native.Mathlib.Omega.{arith}
use lib.ListN.{length, take, drop, get_or, length-append, length-map, length-take, length-drop, drop_of_length-le}
use lib.Seq.{sets, sets-eq, length-sets, get_or-take, get_or-drop}
use borrow.Rule.Slice.PartMut.{put_mid, post_of, Post-is}
use lib.Dec.{leb, eqb}
use borrow.Author.Tests.{not-true, not-false, leb-true}
use Rattle.ledger.specs.Limits.{largest_place, block_limit}
use Rattle.ledger.specs.declared.Row.{Row}
use Rattle.ledger.specs.declared.Refusal.{Refusal}
use Rattle.ledger.specs.declared.Reason.TheVariants.{NoRoom}
use Rattle.ledger.specs.Refusals.{require}
use Rattle.text.specs.Checks.{refused}
use Rattle.blocks.proofs.RuleLaws.{both}
use Rattle.writing.specs.Puts.{Put}
use Rattle.writing.proofs.PutLaws.{Completes, completes_all, completes_step, completes_done}
use Rattle.binary.specs.Bytes.{word_size, words_bytes, low_at}
use Rattle.binary.proofs.BackLaws.{words_length}
use Rattle.blocks.specs.Rows.{table_of}
use Rattle.chain.specs.declared.Chain.{Chain}
use Rattle.chain.specs.Records.{chain_rows}
use Rattle.chain.specs.Read.{chain_check, InRoom}
use Rattle.lift.specs.Accepted.{Ready}
use Rattle.lift.specs.Texts.{of_checked, ChainHeld}
use Rattle.lift.proofs.TextLaws.{rows_are}
use Rattle.region.specs.declared.Reach.{Reach}
use Rattle.region.specs.declared.Tally.{Tally}
use Rattle.region.specs.declared.Tallied.{Tallied}
use Rattle.region.specs.declared.Batched.{Batched}
use Rattle.region.specs.Tallies.{tally_step, Sent, sent_through}
use Rattle.region.specs.Reaches.{Found}
use Rattle.region.specs.Steps.{step_ready, no_room, RowsPut}
use Rattle.region.specs.Batches.{answer_row, step_of, answer_rows, sent_as, sent_if, region_size, row_size, regions_from, regions_in, rows_bytes, room_in_bytes, sent_bytes, sent_text, text_batch_check, TextBatch}
use Rattle.region.proofs.TallyLaws.{ready_step}
use Rattle.std.specs.Prelude.{Ok, Err, Result}
use Rattle.region.specs.declared.Region.{Region}

minus_none : (m : ℕ) → m - 0 ≡ m
minus_none m = omega arith

module _ (c : Chain) (rows : List Row) (s : List ℕ) (m : ℕ) (t : Tally) where
  pub sent_first : sent_through t (map (sent_as c rows) (regions_from (m - 0) s 0)) ≡ sent_through t (map (sent_as c rows) (regions_from m s 0))
  sent_first = rw (minus_none m)

  pub put_first : (b : List ℕ) → Completes (rows_bytes (answer_rows t (map (sent_as c rows) (regions_from (m - 0) s 0)))) 0 b (rows_bytes (answer_rows t (map (sent_as c rows) (regions_from m s 0)))) 0 b
  put_first b = rw (minus_none m) (completes_all (rows_bytes (answer_rows t (map (sent_as c rows) (regions_from m s 0)))) 0 b)

row_length : (x : Result Region Refusal) → length (words_bytes (answer_row x)) ≡ row_size
row_length (Ok x) = words_length (answer_row (Ok x))
row_length (Err x) = words_length (answer_row (Err x))

-- ---- a region and a row, each a part of the bytes
low_part : (k n a j : ℕ) (s : List ℕ) → j + k ≤ n → low_at k (take n (drop a s)) j ≡ low_at k s (a + j)
unfolding low_at
low_part zero n a j s h = refl
low_part (suc k) n a j s h =
    let g : get_or (take n (drop a s)) j 0 ≡ get_or s (a + j) 0 = get_or-take n (drop a s) j 0 (omega arith) ∙ get_or-drop a s j 0 in
    let e : a + suc j ≡ suc (a + j) = omega arith in
    rw (g, low_part k n a (suc j) s (omega arith), e)

pub part_words : (s r : List ℕ) (i a e : ℕ) → a ≡ region_size * i → e ≡ a + region_size
    → r ≡ low_at word_size (take (e - a) (drop a s)) 0 ∷ low_at word_size (take (e - a) (drop a s)) word_size ∷ []
    → r ≡ low_at word_size s (region_size * i) ∷ low_at word_size s (region_size * i + word_size) ∷ []
part_words s r i a e ea ee h =
    let n : e - a ≡ region_size = omega arith in
    let x : a + 0 ≡ region_size * i = omega arith in
    let y : a + word_size ≡ region_size * i + word_size = omega arith in
    let u : low_at word_size (take (e - a) (drop a s)) 0 ≡ low_at word_size s (region_size * i) = low_part word_size (e - a) a 0 s (omega arith) ∙ ap (low_at word_size s) x in
    let v : low_at word_size (take (e - a) (drop a s)) word_size ≡ low_at word_size s (region_size * i + word_size) = low_part word_size (e - a) a word_size s (omega arith) ∙ ap (low_at word_size s) y in
    h ∙ rw (u, v)

-- as many bytes as a part has, stored in it
whole_stored : (b xs : List ℕ) → length xs ≡ length b → sets b 0 xs ≡ xs
whole_stored b xs e =
    let n : drop (0 + length xs) b ≡ [] = let k : length b ≤ 0 + length xs = omega arith in drop_of_length-le b k in
    sets-eq xs b 0 (omega arith) ∙ rw n (append-nil xs)

pub part_row : (b y row : List ℕ) (i a e : ℕ) → a ≡ row_size * i → e ≡ a + row_size → length row ≡ 5 → row_size * i + row_size ≤ length b → y ≡ sets (take (e - a) (drop a b)) 0 (words_bytes row)
    → put_mid a (e - a) b y ≡ sets b (row_size * i) (words_bytes row)
part_row b y row i a e ea ee k h ey =
    let n : length (words_bytes row) ≡ row_size = words_length row ∙ omega arith in
    let m : length (take (e - a) (drop a b)) ≡ row_size = rw (length-take, length-drop) (omega arith) in
    let q : y ≡ words_bytes row = ey ∙ whole_stored (take (e - a) (drop a b)) (words_bytes row) (omega arith) in
    let p : post_of a (e - a) b ≡ drop e b = Post-is a e b (omega arith) in
    let z : row_size * i + length (words_bytes row) ≡ e = omega arith in
    rw (q, p, ea) (sym (sets-eq (words_bytes row) b (row_size * i) (omega arith) ∙ rw z (append_assoc (take (row_size * i) b) (words_bytes row) (drop e b))))

pub region_there : (i n : ℕ) → i < n / region_size → region_size * i + region_size ≤ n
region_there i n h = omega arith

pub row_there : (i m : ℕ) (b b₀ : List ℕ) → i < m → row_size * m ≤ length b₀ → length b ≡ length b₀ → row_size * i + row_size ≤ length b
row_there i m b b₀ h k e = omega arith

pub row_put : (b b₁ row : List ℕ) (x : Result Region Refusal) (i : ℕ) → row ≡ answer_row x → row_size * i + row_size ≤ length b → length b ≤ largest_place → b₁ ≡ sets b (row_size * i) (words_bytes row)
    → Put (words_bytes row) (row_size * i) b b₁ (row_size * (i + 1))
row_put b b₁ row x i e h l k =
    let n : length (words_bytes row) ≡ row_size = ap (λ (r : List ℕ). length (words_bytes r)) e ∙ row_length x in
    record { next = omega arith; stored = k; room = l }

pub row_kept : (b b₁ b₀ bytes : List ℕ) (at : ℕ) → b₁ ≡ sets b at bytes → length b ≡ length b₀ → length b ≤ largest_place → (length b₁ ≡ length b₀) × (length b₁ ≤ largest_place)
row_kept b b₁ b₀ bytes at e k l = let n : length b₁ ≡ length b = ap length e ∙ length-sets b at bytes in (n ∙ k, omega arith)

module _ (c : Chain) (ts qs zs : List ℕ) (s : List ℕ) (m i : ℕ) (t : Tally) where
  module _ (h : i < m) (a e : ℕ) (ea : a ≡ low_at word_size s (region_size * i)) (ee : e ≡ low_at word_size s (region_size * i + word_size)) (is : Ready c ts qs zs) (g : Reach) (f : Found c (table_of ts qs zs) a e g)
      (r : Tallied) (es : r ≡ step_ready t c.tSize g a e) where
    er : r ≡ tally_step t c (table_of ts qs zs) a e
    er = es ∙ ready_step t c (table_of ts qs zs) a e g is.ok f

    next : map (sent_as c (table_of ts qs zs)) (regions_from (m - i) s (region_size * i)) ≡ sent_as c (table_of ts qs zs) (a ∷ e ∷ []) ∷ map (sent_as c (table_of ts qs zs)) (regions_from (m - (i + 1)) s (region_size * (i + 1)))
    unfolding regions_from
    next =
        let k : m - i ≡ suc (m - (i + 1)) = omega arith in
        let l : region_size * (i + 1) ≡ region_size * i + region_size = omega arith in
        rw (k, l, ea, ee)

    pub sent_next : (z : Tally) → sent_through t (map (sent_as c (table_of ts qs zs)) (regions_from (m - i) s (region_size * i))) ≡ z
        → sent_through r.tally (map (sent_as c (table_of ts qs zs)) (regions_from (m - (i + 1)) s (region_size * (i + 1)))) ≡ z
    unfolding sent_through
    sent_next z k = rw er (sym (ap (sent_through t) next) ∙ k)

    pub put_next : (row all b b₁ b₀ : List ℕ) (p q : ℕ) → row ≡ answer_row r.answer → Put (words_bytes row) p b b₁ q
        → Completes (rows_bytes (answer_rows t (map (sent_as c (table_of ts qs zs)) (regions_from (m - i) s (region_size * i))))) p b all 0 b₀
        → Completes (rows_bytes (answer_rows r.tally (map (sent_as c (table_of ts qs zs)) (regions_from (m - (i + 1)) s (region_size * (i + 1)))))) q b₁ all 0 b₀
    unfolding answer_rows rows_bytes
    put_next row all b b₁ b₀ p q ew f k =
        let g : rows_bytes (answer_rows t (map (sent_as c (table_of ts qs zs)) (regions_from (m - i) s (region_size * i))))
        ≡ words_bytes row ++ rows_bytes (answer_rows r.tally (map (sent_as c (table_of ts qs zs)) (regions_from (m - (i + 1)) s (region_size * (i + 1)))))
        = ap (λ (x : List Sent). rows_bytes (answer_rows t x)) next ∙ rw (ew, er) in
        completes_step (rows_bytes (answer_rows t (map (sent_as c (table_of ts qs zs)) (regions_from (m - i) s (region_size * i))))) (words_bytes row)
        (rows_bytes (answer_rows r.tally (map (sent_as c (table_of ts qs zs)) (regions_from (m - (i + 1)) s (region_size * (i + 1)))))) all p q 0 b b₁ b₀ k g f

pub all_put : (c : Chain) (rows : List Row) (s : List ℕ) (m i p : ℕ) (t u : Tally) (b b₀ : List ℕ) → m ≡ length s / region_size → m ≤ i → p ≤ largest_place → length b ≤ largest_place
    → sent_through u (map (sent_as c rows) (regions_from (m - i) s (region_size * i))) ≡ sent_through t (map (sent_as c rows) (regions_from m s 0))
    → Completes (rows_bytes (answer_rows u (map (sent_as c rows) (regions_from (m - i) s (region_size * i))))) p b (rows_bytes (answer_rows t (map (sent_as c rows) (regions_from m s 0)))) 0 b₀
    → RowsPut t c rows s b₀ b u
unfolding sent_through answer_rows rows_bytes regions_from
all_put c rows s m i p t u b b₀ em h l n f g =
    let z : m - i ≡ 0 = omega arith in
    let d : sent_through u [] ≡ sent_through t (map (sent_as c rows) (regions_from m s 0)) = rw z at f in
    let e : rows_bytes (answer_rows u (map (sent_as c rows) (regions_from (m - i) s (region_size * i)))) ≡ [] = rw z in
    let k = completes_done (rows_bytes (answer_rows u (map (sent_as c rows) (regions_from (m - i) s (region_size * i))))) (rows_bytes (answer_rows t (map (sent_as c rows) (regions_from m s 0)))) p 0 b b₀ g e l n in
    record { tally = d ∙ ap (λ (x : ℕ). sent_through t (map (sent_as c rows) (regions_from x s 0))) em; stored = k.stored ∙ ap (λ (x : ℕ). sets b₀ 0 (rows_bytes (answer_rows t (map (sent_as c rows) (regions_from x s 0))))) em }

-- ---- the bytes of so many rows
pub bytes_length : (t : Tally) (rs : List Sent) → length (rows_bytes (answer_rows t rs)) ≡ row_size * length rs
unfolding rows_bytes answer_rows
bytes_length t [] = refl
bytes_length t (r ∷ rs) =
    length-append (words_bytes (answer_row (step_of t r).answer)) (rows_bytes (answer_rows (step_of t r).tally rs))
    ∙ omega (arith, row_length (step_of t r).answer, bytes_length (step_of t r).tally rs)

pub regions_length : (n : ℕ) (s : List ℕ) (at : ℕ) → length (regions_from n s at) ≡ n
unfolding regions_from
regions_length zero s at = refl
regions_length (suc n) s at = ap suc (regions_length n s (at + region_size))

-- ---- the rows in the working room
pub rows_put : (s : List ℕ) (c : Chain) (l : List ℕ) → ChainHeld s c l → (n b d e f : ℕ) → n ≡ c.blockCount → b ≡ block_limit → d ≡ 2 * b → e ≡ b + n → f ≡ d + n
    → (t u : Tally) (regions before after : List ℕ) → RowsPut t c (table_of (take n l) (take (e - b) (drop b l)) (take (f - d) (drop d l))) regions before after u → RowsPut t c (chain_rows s c) regions before after u
rows_put s c l h n b d e f en eb ed ee ef t u regions before after k = rw (rows_are s c l h n b d e f en eb ed ee ef) at k

pub room_there : (regions : List ℕ) (room : ℕ) (fits : Bool) → fits ≡ room_in_bytes regions room → not fits ≡ false → row_size * (length regions / region_size) ≤ room
room_there regions room fits e h =
    let k = leb-true (length regions / region_size) (room / row_size) (both (eqb (length regions % region_size) 0) (leb (length regions / region_size) (room / row_size)) (sym e ∙ not-false fits h)).1 in
    omega arith

-- ---- the ways out of `batch_text`
module _ (s : List ℕ) (t : Tally) (regions before : List ℕ) (fits : Bool) (is : fits ≡ room_in_bytes regions (length before)) where
  pub text_no_room : (r : Batched) → not fits ≡ true → r ≡ no_room t → TextBatch s t regions before before r
  unfolding sent_through answer_rows rows_bytes sent_text sent_bytes text_batch_check
  text_no_room r h k =
      let e = sym is ∙ not-true fits h in
      let z : sent_text s regions (length before) ≡ [] = none (chain_check s) e in
      record { check = rw e (ap (λ (x : Batched). x.check) k); tally = rw z (ap (λ (x : Batched). x.tally) k); answers = rw z }
    where
      none : (x : Result Chain Refusal) → room_in_bytes regions (length before) ≡ false → of_checked {A = List Sent} (λ _. []) (λ c. sent_bytes c (chain_rows s c) regions (length before)) x ≡ []
      none (Ok c) e = rw e
      none (Err y) e = refl

  module _ (h : not fits ≡ false) (room room' : List ℕ) (x : Result Chain Refusal) (read : InRoom s room room' x) where
    has_room : room_in_bytes regions (length before) ≡ true
    has_room = sym is ∙ not-false fits h

    pub text_refused : (y : Refusal) → x ≡ Err y → TextBatch s t regions before before (record { tally = t; check = Err y })
    unfolding sent_text text_batch_check sent_through answer_rows rows_bytes
    text_refused y q = let e = sym read.is ∙ q in record { check = rw (has_room, e); tally = rw e; answers = rw e }

    module _ (c : Chain) (q : x ≡ Ok c) where
      sent_all : sent_text s regions (length before) ≡ map (sent_as c (chain_rows s c)) (regions_in regions)
      unfolding sent_text sent_bytes
      sent_all = rw (sym read.is ∙ q, has_room)

      -- the rows fit
      rows_fit : length (rows_bytes (answer_rows t (map (sent_as c (chain_rows s c)) (regions_in regions)))) ≤ length before
      rows_fit =
          let w = room_there regions (length before) fits is h in
          let n = bytes_length t (map (sent_as c (chain_rows s c)) (regions_in regions)) in
          let k = length-map (regions_in regions) (sent_as c (chain_rows s c)) in
          let v = regions_length (length regions / region_size) regions 0 in
          omega arith

      pub text_answered : (after : List ℕ) (u : Tally) (r : Batched) → RowsPut t c (chain_rows s c) regions before after u → r.tally ≡ u → r.check ≡ Ok tt → TextBatch s t regions before after r
      unfolding text_batch_check
      text_answered after u r a l k =
          let z : 0 + length (rows_bytes (answer_rows t (map (sent_as c (chain_rows s c)) (regions_in regions)))) ≡ length (rows_bytes (answer_rows t (map (sent_as c (chain_rows s c)) (regions_in regions)))) = omega arith in
          let w = sets-eq (rows_bytes (answer_rows t (map (sent_as c (chain_rows s c)) (regions_in regions)))) before 0 (omega (arith, rows_fit)) in
          record { check = rw (has_room, sym read.is ∙ q) k; tally = rw sent_all (l ∙ a.tally); answers = rw sent_all (a.stored ∙ (rw z at w)) }

-- a batch that is refused sends nothing
pub refused_none : (s regions : List ℕ) (room : ℕ) (x : Refusal) → text_batch_check s regions room ≡ Err x → sent_text s regions room ≡ []
unfolding text_batch_check sent_text sent_bytes
refused_none s regions room x = go (room_in_bytes regions room) (chain_check s)
  where
    go : (v : Bool) (y : Result Chain Refusal) → require v (refused NoRoom) (of_checked Err (λ _. Ok tt) y) ≡ Err x
        → of_checked {A = List Sent} (λ _. []) (λ c. sent_if v (map (sent_as c (chain_rows s c)) (regions_in regions))) y ≡ []
    go true (Ok c) e = absurd (let z : ◌≡◌ {A = ℕ} 0 1 = cc in omega arith)
    go true (Err y) e = refl
    go false (Ok c) e = refl
    go false (Err y) e = refl
