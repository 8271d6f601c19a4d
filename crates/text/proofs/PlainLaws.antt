-- A line in standard form, found word by word: what stands from a place on is laid so, and hence the whole text. Assumes nothing.
use mathlib.Core.Path.{◌≡◌, refl, sym, ap, ◌∙◌}
use mathlib.Core.Bool.{Bool, true, false}
use mathlib.Core.List.{List, [], ◌∷◌, ◌++◌, append-nil}
use Prim.Native.Nat.{ℕ, ◌+◌, ◌-◌, ◌≤◌, ◌<◌}
use native.Mathlib.Omega.{arith}
use native.Mathlib.Numerals.{add-one}
use lib.ListN.{length, take, drop, get_or, take-append-drop, length-take, length-drop}
use lib.Seq.{drop-cons, drop-drop, take_all, take-append_seam}
use lib.Dec.{eqb}
use borrow.Author.Tests.{eqb-true}
use Rattle.text.specs.declared.Class.TheVariants.{Line, Graphic}
use Rattle.text.specs.Scan.{run, end_of, Scanned}
use Rattle.text.specs.Pieces.{words_of, line_of, joined, Plain}
use Rattle.text.proofs.Laws.{run_append}
use Rattle.text.proofs.TextLaws.{All}
use Rattle.text.proofs.ShowLaws.{take_run}
use Rattle.text.proofs.PieceLaws.{Worded, worded_none, worded_more, words_joined, joined_in_line}

-- at least one word that shows, a tab between each two, and then the line's end
pub record Laid (s : List ℕ) : Type 0 where
  pub word : List ℕ
  pub more : List (List ℕ)
  pub rest : List ℕ
  pub worded : Worded (word ∷ more)
  pub ends : run Line rest ≡ 0
  pub is : s ≡ joined 9 (word ∷ more) ++ rest

line_before : (line rest : List ℕ) → All Line line → run Line rest ≡ 0 → line_of (line ++ rest) ≡ line
unfolding line_of
line_before line rest h e =
    let r : run Line (line ++ rest) ≡ length line = omega (arith, run_append Line line rest h) in
    rw r (take-append_seam line rest)

pub laid_plain : (s : List ℕ) → Laid s → Plain s
laid_plain s l =
    let ws = l.word ∷ l.more in
    let line : line_of s ≡ joined 9 ws = ap line_of l.is ∙ line_before (joined 9 ws) l.rest (joined_in_line 9 ws refl l.worded) l.ends in
    let words : words_of (line_of s) ≡ ws = ap words_of line ∙ words_joined 9 ws refl l.worded in
    record { is = line ∙ ap (joined 9) (sym words) }

more_appended : (w v : List ℕ) (ws : List (List ℕ)) (x : List ℕ) → w ++ (9 ∷ (joined 9 (v ∷ ws) ++ x)) ≡ joined 9 (w ∷ (v ∷ ws)) ++ x
unfolding joined
more_appended [] v ws x = refl
more_appended (b ∷ w) v ws x = ap (λ (y : List ℕ). b ∷ y) (more_appended w v ws x)

one_appended : (w x : List ℕ) → w ++ x ≡ joined 9 (w ∷ []) ++ x
unfolding joined
one_appended w x = refl

fed_ends : (x : List ℕ) → run Line (10 ∷ x) ≡ 0
unfolding run
fed_ends x = refl

none_ends : run Line [] ≡ 0
unfolding run
none_ends = refl

-- one word, from a place to where its scan ends
module _ (s : List ℕ) (at e : ℕ) (found : Scanned Graphic s at e) (some : at < e) (inside : e ≤ length s) where
  abbrev w : List ℕ
  w = take (e - at) (drop at s)

  word_shows : All Graphic w
  unfolding end_of
  word_shows = let n : e - at ≡ run Graphic (drop at s) = omega (arith, found.is) in rw n (take_run Graphic (drop at s))

  word_some : 0 < length w
  word_some = rw (length-take, length-drop) (omega arith)

  word_first : e < length s → (b : ℕ) → get_or s e 0 ≡ b → drop at s ≡ w ++ (b ∷ drop (e + 1) s)
  word_first h b q =
      let d : at + (e - at) ≡ e = omega arith in
      let r : drop e s ≡ b ∷ drop (e + 1) s = rw (add-one, ← q) (drop-cons s e 0 h) in
      sym (take-append-drop (e - at) (drop at s)) ∙ ap (λ (x : List ℕ). w ++ x) (drop-drop (e - at) at s ∙ ap (λ k. drop k s) d ∙ r)

  pub laid_more : e < length s → get_or s e 0 ≡ 9 → Laid (drop (e + 1) s) → Laid (drop at s)
  laid_more h q l = record {
    word = w;
    more = l.word ∷ l.more;
    rest = l.rest;
    worded = worded_more w word_some word_shows l.worded;
    ends = l.ends;
    is = word_first h 9 q ∙ ap (λ (x : List ℕ). w ++ (9 ∷ x)) l.is ∙ more_appended w l.word l.more l.rest;
  }

  pub laid_fed : e < length s → get_or s e 0 ≡ 10 → Laid (drop at s)
  laid_fed h q = record {
    word = w;
    more = [];
    rest = 10 ∷ drop (e + 1) s;
    worded = worded_more w word_some word_shows worded_none;
    ends = fed_ends (drop (e + 1) s);
    is = word_first h 10 q ∙ one_appended w (10 ∷ drop (e + 1) s);
  }

  pub laid_last : length s ≤ e → Laid (drop at s)
  laid_last h =
      let l : length (drop at s) ≤ e - at = rw length-drop (omega arith) in
      record {
        word = w;
        more = [];
        rest = [];
        worded = worded_more w word_some word_shows worded_none;
        ends = none_ends;
        is = sym (take_all (e - at) (drop at s) l) ∙ sym (append-nil w) ∙ one_appended w [];
      }

-- the loop: what is laid from here on is laid from the start
abbrev pub Onward : List ℕ → ℕ → Type 0
Onward s at = Laid (drop at s) → Laid s

module _ (s : List ℕ) (at e : ℕ) (inv : Onward s at) (found : Scanned Graphic s at e) (some : at < e) where
  pub onward_more : e < length s → get_or s e 0 ≡ 9 → Onward s (e + 1)
  onward_more h q l = inv (laid_more s at e found some (omega arith) h q l)

  pub onward_fed : e < length s → (r : Bool) → r ≡ eqb (get_or s e 0) 10 → r ≡ true → Plain s
  onward_fed h r is q = laid_plain s (inv (laid_fed s at e found some (omega arith) h (eqb-true (get_or s e 0) 10 (sym is ∙ q))))

  pub onward_last : at < length s → length s ≤ e → Plain s
  onward_last h l = laid_plain s (inv (laid_last s at e found some (omega (arith, found.high)) l))

pub not_plain : (s : List ℕ) → false ≡ true → Plain s
not_plain s e = absurd (let z : ◌≡◌ {A = ℕ} 0 1 = cc in omega arith)
