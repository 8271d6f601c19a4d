-- Laws of the readers: the checks one after the other, the quick way through a text, and the numbers handed over. Assumes nothing.
use mathlib.Core.Path.{◌≡◌, refl, sym, ap, ◌∙◌}
use mathlib.Core.Bool.{Bool, true, false, cond}
use mathlib.Core.Logic.{◌⊎◌, inl, inr}
use mathlib.Core.List.{List, [], ◌∷◌, ◌++◌, map}
use Prim.Native.Nat.{ℕ, suc, ◌+◌, ◌-◌, ◌*◌, ◌/◌, ◌≤◌, ◌<◌}
use native.Mathlib.Omega.{arith}
use lib.ListN.{length, take, drop, get_or, length-map, length-append, take-append-drop, drop_of_length-le}
use lib.Seq.{sets, take-length, length-take-le, drop-cons}
use lib.Dec.{leb, eqb}
use borrow.Author.Tests.{leb-true, leb-false, le-leb, lt-leb, eqb-true, ne_eqb}
use Rattle.std.specs.Prelude.{Ok, Err, Result, Option, Some, ⊤}
use Rattle.ledger.specs.Limits.{text_limit}
use Rattle.ledger.specs.declared.Reason.TheVariants.{NoRoom}
use Rattle.ledger.specs.declared.Fault.{Fault}
use Rattle.ledger.specs.Refusals.{refusal_at}
use Rattle.ledger.specs.declared.Refusal.{Refusal}
use Rattle.text.specs.declared.Class.TheVariants.{Blank, Line, Allowed}
use Rattle.text.specs.Scan.{is_in, run, end_of}
use Rattle.text.specs.Checks.{then_check, text_check, last_line_check}
use Rattle.text.specs.Pieces.{line_of, words_of}
use Rattle.text.specs.Words.{line_end, next_line, word_count}
use Rattle.text.proofs.Laws.{run_append, next_fed, next_none, line_last}
use Rattle.text.proofs.CheckLaws.{text_is}
use Rattle.text.proofs.PieceLaws.{line_fed}
use Rattle.numbers.specs.Numbers.{value}
use Rattle.writing.specs.Puts.{Put}
use Rattle.binary.specs.Bytes.{word_size, words_bytes}
use Rattle.number_line.specs.Numbers.{words_from, numbers_in, numbers_answer, numbers_stages, numbers_check, numbers_read, bytes_after, NumbersStored}
use Rattle.number_line.specs.Walks.{Walked, line_check, feedless, is_gap, QuickRead, QuickText, Handed, bytes_held, NumbersHeld}
use Rattle.number_line.proofs.LineLaws.{words_good, all_good, checked_of, checked_is}

-- ---- small tests
pub fit_is : (n room : ℕ) → leb n (room / word_size) ≡ leb (word_size * n) room
fit_is n room = go (leb n (room / word_size)) refl
  where
    go : (t : Bool) → leb n (room / word_size) ≡ t → t ≡ leb (word_size * n) room
    go true e = sym (le-leb (word_size * n) room (omega (arith, leb-true n (room / word_size) e)))
    go false e = sym (lt-leb (word_size * n) room (omega (arith, leb-false n (room / word_size) e)))

pub gap_past : (line : List ℕ) (i : ℕ) → length line ≤ i → true ≡ is_gap line i
gap_past line i h = rw (le-leb (length line) i h)

pub gap_byte : (line : List ℕ) (i : ℕ) (t : Bool) → i < length line → t ≡ is_in Blank (get_or line i 0) → t ≡ is_gap line i
gap_byte line i t h e = rw (lt-leb (length line) i h, e)

pub feedless_none : (s : List ℕ) → length s ≡ 0 → 0 ≡ feedless s
unfolding feedless
feedless_none [] h = refl
feedless_none (b ∷ s) h = absurd (omega arith)

pub feedless_fed : (s : List ℕ) → get_or s (length s - 1) 0 ≡ 10 → length s - 1 ≡ feedless s
unfolding feedless
feedless_fed s e = rw e

pub feedless_open : (s : List ℕ) → (get_or s (length s - 1) 0 ≡ 10 → ⊥) → length s ≡ feedless s
unfolding feedless
feedless_open s h = rw (ne_eqb (get_or s (length s - 1) 0) 10 h)

feedless_few : (s : List ℕ) → feedless s ≤ length s
unfolding feedless
feedless_few s = go (eqb (get_or s (length s - 1) 0) 10)
  where
    go : (t : Bool) → cond t (length s - 1) (length s) ≤ length s
    go true = omega arith
    go false = omega arith

pub feedless_count : (s : List ℕ) (m : ℕ) → m ≡ feedless s → m ≡ length (take m s)
feedless_count s m e = sym (length-take-le m s (omega (arith, e, feedless_few s)))

-- ---- the checks one after the other
module _ (s before after : List ℕ) (r : Result ℕ Fault) (walked : Walked s before after r) where
  words_hold : (n : ℕ) → r ≡ Ok n → (words_from s 0 (words_of (line_of s)) ≡ Ok tt) × (n ≡ word_count s 0)
  words_hold n e = go (words_from s 0 (words_of (line_of s))) refl (sym e ∙ walked.is)
    where
      go : (c : Result ⊤ Fault) → words_from s 0 (words_of (line_of s)) ≡ c → Ok n ≡ then_check Err c (Ok (word_count s 0)) → (words_from s 0 (words_of (line_of s)) ≡ Ok tt) × (n ≡ word_count s 0)
      go (Ok tt) p k = (p, cc)
      go (Err x) p k = absurd (let o : ◌≡◌ {A = ℕ} 0 1 = cc in omega arith)

  count_is : word_count s 0 ≡ length (numbers_in s)
  unfolding word_count numbers_in
  count_is = sym (length-map (words_of (line_of s)) value)

  pub line_bad : (x : Fault) → r ≡ Err x → Err x ≡ line_check s
  unfolding line_check
  line_bad x e = go (words_from s 0 (words_of (line_of s))) refl (sym e ∙ walked.is)
    where
      go : (c : Result ⊤ Fault) → words_from s 0 (words_of (line_of s)) ≡ c → Err x ≡ then_check Err c (Ok (word_count s 0)) → Err x ≡ then_check Err (words_from s 0 (words_of (line_of s))) (then_check Err (last_line_check s 0) (Ok (length (numbers_in s))))
      go (Ok tt) p k = absurd (let o : ◌≡◌ {A = ℕ} 0 1 = cc in omega arith)
      go (Err y) p k = rw p k

  module _ (n : ℕ) (e : r ≡ Ok n) (c : Result ⊤ Fault) (ec : c ≡ last_line_check s 0) where
    pub line_surplus : (x : Fault) → c ≡ Err x → Err x ≡ line_check s
    unfolding line_check
    line_surplus x q = rw ((words_hold n e).0, ← ec, q)

    pub line_good : c ≡ Ok tt → Ok n ≡ line_check s
    unfolding line_check
    line_good q = rw ((words_hold n e).0, ← ec, q, (words_hold n e).1, count_is)

  -- the second walk, after all was tested
  pub tested_read : (x : Result ℕ Fault) (n : ℕ) (t : Bool) → x ≡ numbers_stages s → x ≡ Ok n → t ≡ leb (word_size * n) (length before) → t ≡ true → NumbersHeld s before after r
  unfolding numbers_in
  tested_read x n t ex q et yes' =
      let e : Ok n ≡ numbers_stages s = sym q ∙ ex in
      let c = checked_of s n (sym e) in
      let g = words_good s 0 (words_of (line_of s)) c.words in
      let a : r ≡ Ok n = walked.is ∙ rw (c.words, count_is, c.count) in
      record {
        is = rw (← e, ← et, yes') a;
        left = rw a (walked.stored ∙ ap (λ (vs : List ℕ). sets before 0 (words_bytes vs)) g.values);
      }

module _ (s : List ℕ) (c : Result ⊤ Fault) (ec : c ≡ text_check s) where
  pub text_bad : (x : Fault) → c ≡ Err x → Err x ≡ numbers_stages s
  unfolding numbers_stages
  text_bad x q = rw (← ec, q)

  pub text_good : (r : Result ℕ Fault) → c ≡ Ok tt → r ≡ line_check s → r ≡ numbers_stages s
  unfolding numbers_stages line_check
  text_good r q e = rw (← ec, q) e

module _ (s before : List ℕ) (r : Result ℕ Fault) (er : r ≡ numbers_stages s) where
  pub tested_bad : (x : Fault) → r ≡ Err x → NumbersHeld s before before (Err x)
  tested_bad x q = record { is = rw (← er, q); left = refl }

  pub tested_full : (n : ℕ) (t : Bool) → r ≡ Ok n → t ≡ leb (word_size * n) (length before) → t ≡ false → NumbersHeld s before before (Err (record { reason = NoRoom; place = length s }))
  tested_full n t q et no' = record { is = rw (← er, q, ← et, no'); left = refl }

-- ---- the quick way through a text
-- a text is its line, with a line feed at its end or without
fed_or_not : (s : List ℕ) → (s ≡ take (feedless s) s ++ (10 ∷ [])) ⊎ (s ≡ take (feedless s) s)
unfolding feedless
fed_or_not [] = inr refl
fed_or_not (b ∷ s) = go (eqb (get_or (b ∷ s) (length (b ∷ s) - 1) 0) 10) refl
  where
    n : ℕ
    n = length (b ∷ s) - 1

    last : drop n (b ∷ s) ≡ get_or (b ∷ s) n 0 ∷ []
    last =
        let e : length (b ∷ s) ≤ suc n = omega arith in
        drop-cons (b ∷ s) n 0 (omega arith) ∙ ap (λ (xs : List ℕ). get_or (b ∷ s) n 0 ∷ xs) (drop_of_length-le (b ∷ s) e)

    go : (t : Bool) → eqb (get_or (b ∷ s) n 0) 10 ≡ t → (b ∷ s ≡ take (feedless (b ∷ s)) (b ∷ s) ++ (10 ∷ [])) ⊎ (b ∷ s ≡ take (feedless (b ∷ s)) (b ∷ s))
    go true e =
        let f : feedless (b ∷ s) ≡ n = rw e in
        inl (rw f (sym (take-append-drop n (b ∷ s)) ∙ ap (λ (xs : List ℕ). take n (b ∷ s) ++ xs) (last ∙ ap (λ (k : ℕ). k ∷ []) (eqb-true (get_or (b ∷ s) n 0) 10 e))))
    go false e =
        let f : feedless (b ∷ s) ≡ length (b ∷ s) = rw e in
        inr (rw f (sym (take-length (b ∷ s))))

-- so it is allowed, that line, and no line more
record Lined (s line : List ℕ) : Type 0 where
  pub allowed : run Allowed s ≡ length s
  pub first : line_of s ≡ line
  pub last : last_line_check s 0 ≡ Ok tt

feed_lined : (t line : List ℕ) → t ≡ line ++ (10 ∷ []) → run Allowed line ≡ length line → run Line line ≡ length line → Lined t line
unfolding line_end end_of run
feed_lined t line p a l =
    let n : length t ≡ length line + 1 = ap length p ∙ length-append line (10 ∷ []) in
    let z : run Line t ≡ length line + 0 = ap (run Line) p ∙ run_append Line line (10 ∷ []) l in
    let y : run Allowed t ≡ length line + 1 = ap (run Allowed) p ∙ run_append Allowed line (10 ∷ []) a in
    let k : line_end t 0 < length t = omega (arith, z, n) in
    record {
      allowed = omega (arith, n, y);
      first = ap line_of p ∙ line_fed line [] l;
      last = sym (line_last t 0 (next_line t 0) refl (omega (arith, n, z, next_fed t 0 (line_end t 0) refl k)));
    }

bare_lined : (t line : List ℕ) → t ≡ line → run Allowed line ≡ length line → run Line line ≡ length line → Lined t line
unfolding line_of line_end end_of
bare_lined t line p a l =
    let z : run Line t ≡ length t = ap (run Line) p ∙ l ∙ ap length (sym p) in
    let m : length t ≤ line_end t 0 = omega (arith, z) in
    record {
      allowed = ap (run Allowed) p ∙ a ∙ ap length (sym p);
      first = ap (λ (k : ℕ). take k t) z ∙ take-length t ∙ p;
      last = sym (line_last t 0 (next_line t 0) refl (omega (arith, m, next_none t 0 (line_end t 0) refl m)));
    }

lined : (s line : List ℕ) → (s ≡ line ++ (10 ∷ [])) ⊎ (s ≡ line) → run Allowed line ≡ length line → run Line line ≡ length line → Lined s line
lined s line (inl e) a l = feed_lined s line e a l
lined s line (inr e) a l = bare_lined s line e a l

module _ (s room : List ℕ) (m : ℕ) (em : m ≡ feedless s) (short : length s ≤ text_limit) (r : Option ℕ) (q : QuickRead (take m s) room r) where
  pub quick_whole : QuickText s room r
  unfolding numbers_in
  quick_whole = record {
    is = λ n g. checked_is s n (record { text = text_is s short (whole n g).allowed; words = good n g; last = (whole n g).last; count = count_is n g });
    values = λ n g. ap (map value) (ap words_of (whole n g).first) ∙ sym (words_good s 0 (words_of (take m s)) (good_line n g)).values ∙ (q.plain n g).values;
    few = q.few;
  }
    where
      whole : (n : ℕ) → r ≡ Some n → Lined s (take m s)
      whole n g = lined s (take m s) (rw em (fed_or_not s)) (q.plain n g).allowed (q.plain n g).in_line

      good_line : (n : ℕ) → r ≡ Some n → words_from s 0 (words_of (take m s)) ≡ Ok tt
      good_line n g = all_good s 0 (words_of (take m s)) (ap length (q.plain n g).values ∙ length-take-le n room (q.few n g) ∙ sym (q.plain n g).count)

      good : (n : ℕ) → r ≡ Some n → words_from s 0 (words_of (line_of s)) ≡ Ok tt
      good n g = rw (whole n g).first (good_line n g)

      count_is : (n : ℕ) → r ≡ Some n → n ≡ length (map value (words_of (line_of s)))
      count_is n g = rw ((whole n g).first, length-map (words_of (take m s)) value) (sym (q.plain n g).count)

-- ---- the numbers handed over
module _ (end : ℕ) (vs before : List ℕ) (t : Bool) (et : t ≡ leb (word_size * length vs) (length before)) where
  pub handed_put : (after : List ℕ) (p : ℕ) → t ≡ true → Put (words_bytes vs) 0 before after p → Handed end vs before after (Ok (length vs))
  handed_put after p q f = record { is = rw (← et, q); left = f.stored }

  pub handed_full : t ≡ false → Handed end vs before before (Err (record { reason = NoRoom; place = end }))
  handed_full q = record { is = rw (← et, q); left = refl }

pub handed_read : (s room before after : List ℕ) (q : Option ℕ) (n : ℕ) (r : Result ℕ Fault) → QuickText s room q → q ≡ Some n → Handed (length s) (take n room) before after r → NumbersHeld s before after r
handed_read s room before after q n r t g h =
    let l : length (take n room) ≡ n = length-take-le n room (t.few n g) in
    let v : take n room ≡ numbers_in s = sym (t.values n g) in
    record { is = rw (t.is n g, ← l) h.is; left = rw (← v) h.left }

-- what is told of a record, and of a fault
pub told_ok : (x : Result ℕ Fault) (r : ℕ) → x ≡ Ok r → Ok r ≡ numbers_answer x
told_ok x r e = sym (ap numbers_answer e)

pub told_fault : (x : Result ℕ Fault) (y : Fault) → x ≡ Err y → Err (refusal_at y) ≡ numbers_answer x
told_fault x y e = sym (ap numbers_answer e)

-- as a caller is told
bytes_told : (x : Result ℕ Fault) (vs before : List ℕ) → bytes_after (numbers_answer x) vs before ≡ bytes_held x vs before
bytes_told (Ok n) vs before = refl
bytes_told (Err y) vs before = refl

pub numbers_told : (s before after : List ℕ) (x : Result ℕ Fault) (r : Result ℕ Refusal) → NumbersHeld s before after x → r ≡ numbers_answer x → NumbersStored s before after r
unfolding numbers_read
numbers_told s before after x r h e = record {
  is = e ∙ ap numbers_answer h.is;
  left = h.left ∙ sym (rw e (bytes_told x (numbers_in s) before));
}

pub check_told : (s : List ℕ) (x : Result ℕ Fault) (r : Result ℕ Refusal) → x ≡ numbers_stages s → r ≡ numbers_answer x → r ≡ numbers_check s
unfolding numbers_check
check_told s x r e q = q ∙ ap numbers_answer e
