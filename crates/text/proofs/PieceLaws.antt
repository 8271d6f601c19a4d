-- Laws of pieces: a list of pieces, lines or words by its first one and what follows it; words by their places; words put together. Assumes nothing.
use mathlib.Core.Path.{◌≡◌, refl, sym, ap, ◌∙◌}
use mathlib.Core.Bool.{Bool, true, false, not, ◌||◌}
use mathlib.Core.List.{List, [], ◌∷◌, ◌++◌}
use Prim.Native.Nat.{ℕ, zero, suc, ◌+◌, ◌-◌, ◌≤◌, ◌<◌}
use native.Mathlib.Omega.{arith}
use lib.ListN.{length, take, drop, get_or, drop_of_length-le}
use lib.Seq.{drop-cons, drop-drop, take-append_seam}
use lib.Dec.{eqb}
use Rattle.text.specs.declared.Class.{Class}
use Rattle.text.specs.declared.Class.TheVariants.{Blank, Word, Line, Graphic}
use Rattle.text.specs.declared.Extent.{Extent}
use Rattle.text.specs.Scan.{is_in, one_more, run, end_of}
use Rattle.text.specs.Pieces.{onto, pieces_of, lines_of, non_empty, words_of, line_of, joined}
use Rattle.text.specs.Words.{line_end, next_line, next_word, word_at, word_count, bytes_of}
use Rattle.text.proofs.Laws.{more_ones, run_append, no_line, word_ends, starts_unblank, blank_line, word_line, either, word_stays, next_fed, next_none}
use Rattle.text.proofs.TextLaws.{All, all_append, in_word_lem, in_line}

-- the first piece is the run of bytes of the class, and the others are what follows the byte that ends it
abbrev First : Class → ℕ → List ℕ → Type 0
First c b w = pieces_of c (b ∷ w) ≡ take (run c (b ∷ w)) (b ∷ w) ∷ pieces_of c (drop (suc (run c (b ∷ w))) (b ∷ w))

module _ (c : Class) where
  first_empty : (b : ℕ) (w : List ℕ) → is_in c b ≡ false → First c b w
  unfolding pieces_of run
  first_empty b w e = rw e

  first_more : (b d : ℕ) (w : List ℕ) → is_in c b ≡ true → First c d w → First c b (d ∷ w)
  unfolding pieces_of run
  first_more b d w e h = rw (e, h)

  first_last : (b : ℕ) → is_in c b ≡ true → First c b []
  unfolding pieces_of run
  first_last b e = rw e

  first_by : (b : ℕ) (w : List ℕ) (t : Bool) → is_in c b ≡ t → (is_in c b ≡ true → First c b w) → First c b w
  first_by b w true e k = k e
  first_by b w false e k = first_empty b w e

  pieces_run : (b : ℕ) (w : List ℕ) → First c b w
  pieces_run b [] = first_by b [] (is_in c b) refl (λ e. first_last b e)
  pieces_run b (d ∷ w) = first_by b (d ∷ w) (is_in c b) refl (λ e. first_more b d w e (pieces_run d w))

  -- the same at a place
  pub pieces_step : (w : List ℕ) (i e : ℕ) → i < length w → e ≡ end_of c w i → pieces_of c (drop i w) ≡ take (e - i) (drop i w) ∷ pieces_of c (drop (e + 1) w)
  unfolding end_of
  pieces_step w i e h p =
      let d = drop-cons w i 0 h in
      let r : pieces_of c (drop i w) ≡ take (run c (drop i w)) (drop i w) ∷ pieces_of c (drop (suc (run c (drop i w))) (drop i w)) = rw d (pieces_run _ _) in
      let n : e - i ≡ run c (drop i w) = omega arith in
      let m : i + suc (run c (drop i w)) ≡ e + 1 = omega arith in
      rw (n, ← m) (rw drop-drop at r)

  -- a piece, the byte that ends it, and more
  pub pieces_join : (xs : List ℕ) (b : ℕ) (rest : List ℕ) → run c xs ≡ length xs → is_in c b ≡ false → pieces_of c (xs ++ (b ∷ rest)) ≡ xs ∷ pieces_of c rest
  unfolding pieces_of run
  pieces_join [] b rest h e = rw e
  pieces_join (x ∷ xs) b rest h e =
      let m = more_ones (is_in c x) (run c xs) (length xs) h in
      rw (m.0, pieces_join xs b rest m.1 e)

  -- a piece that nothing ends
  pub pieces_last : (x : ℕ) (xs : List ℕ) → run c (x ∷ xs) ≡ length (x ∷ xs) → pieces_of c (x ∷ xs) ≡ (x ∷ xs) ∷ []
  unfolding pieces_of run
  pieces_last x [] h = rw (more_ones (is_in c x) 0 0 h).0
  pieces_last x (y ∷ xs) h =
      let m = more_ones (is_in c x) (run c (y ∷ xs)) (length (y ∷ xs)) h in
      rw (m.0, pieces_last y xs m.1)

-- an empty text has no line, and a lone line feed is one of no bytes
pub lines_none : lines_of [] ≡ []
unfolding lines_of pieces_of
lines_none = refl

-- past the end there is nothing, one place later or not
rest_same : (s : List ℕ) (e : ℕ) → length s ≤ e → drop (e + 1) s ≡ drop e s
rest_same s e h = let k : length s ≤ e + 1 = omega arith in drop_of_length-le s k ∙ sym (drop_of_length-le s h)

after_line_lem : (s : List ℕ) (i : ℕ) → drop (line_end s i + 1) s ≡ drop (next_line s i) s
after_line_lem s i =
    either (length s) (line_end s i) _
    (λ h. rest_same s (line_end s i) h ∙ ap (λ (n : ℕ). drop n s) (next_none s i (line_end s i) refl h))
    (λ h. ap (λ (n : ℕ). drop n s) (next_fed s i (line_end s i) refl h))

line_end_is : (s : List ℕ) (i : ℕ) → line_end s i ≡ end_of Line s i
unfolding line_end
line_end_is s i = refl

-- the lines from a place on: the one that begins there, and those from the next one's place on
pub lines_step : (s : List ℕ) (i : ℕ) → i < length s → lines_of (drop i s) ≡ take (line_end s i - i) (drop i s) ∷ lines_of (drop (next_line s i) s)
unfolding lines_of
lines_step s i h = rw (← after_line_lem) (pieces_step Line s i (line_end s i) h (line_end_is s i))

-- a blank at the front of a line doesn't count, nor do many
blank_word : (a b d : Bool) → (a || b) ≡ true → not (a || b || d) ≡ false
blank_word true b d h = refl
blank_word false true d h = refl
blank_word false false d h = cc

skip_blank : (x : ℕ) (t : List ℕ) → is_in Blank x ≡ true → words_of (line_of (x ∷ t)) ≡ words_of (line_of t)
unfolding words_of line_of run pieces_of non_empty
skip_blank x t h = rw (blank_line x h, blank_word (eqb x 32) (eqb x 9) (eqb x 10) h)

skip_blanks : (t : List ℕ) → words_of (line_of (drop (run Blank t) t)) ≡ words_of (line_of t)
unfolding run
skip_blanks [] = refl
skip_blanks (x ∷ t) = go (is_in Blank x) refl (skip_blanks t)
  where
    go : (b : Bool) → is_in Blank x ≡ b → words_of (line_of (drop (run Blank t) t)) ≡ words_of (line_of t) → words_of (line_of (drop (run Blank (x ∷ t)) (x ∷ t))) ≡ words_of (line_of (x ∷ t))
    go true e h = rw e (h ∙ sym (skip_blank x t e))
    go false e h = rw e

-- a word's first byte before the rest of its line
onto_twice : (b x : ℕ) (z : List ℕ) (ps qs : List (List ℕ)) → non_empty (onto x ps) ≡ (x ∷ z) ∷ qs → non_empty (onto b (onto x ps)) ≡ (b ∷ (x ∷ z)) ∷ qs
unfolding non_empty
onto_twice b x z [] qs h = cc
onto_twice b x z (p ∷ ps) qs h = cc

abbrev Front : ℕ → List ℕ → Type 0
Front b u = non_empty (onto b (pieces_of Word (line_of u))) ≡ (b ∷ take (run Word u) u) ∷ words_of (line_of (drop (run Word u) u))

front_more : (b x : ℕ) (u : List ℕ) → is_in Word x ≡ true → Front x u → Front b (x ∷ u)
unfolding line_of run pieces_of
front_more b x u e h = rw (word_line x e, e) (onto_twice b x (take (run Word u) u) (pieces_of Word (line_of u)) (words_of (line_of (drop (run Word u) u))) h)

front_blank : (b x : ℕ) (u : List ℕ) → is_in Word x ≡ false → is_in Line x ≡ true → Front b (x ∷ u)
unfolding words_of line_of run pieces_of non_empty
front_blank b x u e f = rw (f, e, f, e)

front_feed : (b x : ℕ) (u : List ℕ) → is_in Word x ≡ false → is_in Line x ≡ false → Front b (x ∷ u)
unfolding words_of line_of run pieces_of non_empty
front_feed b x u e f = rw (f, e, f)

front_by : (b x : ℕ) (u : List ℕ) (t l : Bool) → is_in Word x ≡ t → is_in Line x ≡ l → Front x u → Front b (x ∷ u)
front_by b x u true l e f h = front_more b x u e h
front_by b x u false true e f h = front_blank b x u e f
front_by b x u false false e f h = front_feed b x u e f

first_word : (b : ℕ) (u : List ℕ) → Front b u
unfolding words_of line_of run pieces_of non_empty
first_word b [] = refl
first_word b (x ∷ u) = front_by b x u (is_in Word x) (is_in Line x) refl refl (first_word x u)

line_word : (b : ℕ) (u : List ℕ) → is_in Word b ≡ true → words_of (line_of (b ∷ u)) ≡ non_empty (onto b (pieces_of Word (line_of u)))
unfolding words_of line_of run pieces_of
line_word b u e = rw (word_line b e, e)

-- a word at the front, and the words after it
words_front : (u : List ℕ) → 0 < run Word u → words_of (line_of u) ≡ take (run Word u) u ∷ words_of (line_of (drop (run Word u) u))
unfolding run
words_front [] h = absurd (omega arith)
words_front (b ∷ u) h = go (is_in Word b) refl h
  where
    go : (t : Bool) → is_in Word b ≡ t → 0 < one_more t (run Word u) → words_of (line_of (b ∷ u)) ≡ take (run Word (b ∷ u)) (b ∷ u) ∷ words_of (line_of (drop (run Word (b ∷ u)) (b ∷ u)))
    go true e k = rw e (line_word b u e ∙ first_word b u)
    go false e k = absurd (omega arith)

step_at : (s : List ℕ) (a e : ℕ) → e ≡ end_of Word s a → a < e → words_of (line_of (drop a s)) ≡ take (e - a) (drop a s) ∷ words_of (line_of (drop e s))
unfolding end_of
step_at s a e p h =
    let k : 0 < run Word (drop a s) = omega arith in
    let n : e - a ≡ run Word (drop a s) = omega arith in
    rw n (rw (drop-drop, ← p) at (words_front (drop a s) k))

none_at : (s : List ℕ) → run Blank s ≡ 0 → run Word s ≡ 0 → words_of (line_of s) ≡ []
unfolding words_of line_of pieces_of non_empty
none_at s h k = rw (no_line s h k)

-- the words from a place to the line's end: none, or the next one and those after it
module _ (s : List ℕ) (i : ℕ) where
  -- blanks passed, the words are the same
  pub words_same : words_of (line_of (drop (next_word s i).start s)) ≡ words_of (line_of (drop i s))
  unfolding next_word end_of
  words_same = rw (← drop-drop) (skip_blanks (drop i s))

  pub words_step : (next_word s i).start < (next_word s i).end → words_of (line_of (drop i s)) ≡ bytes_of s (next_word s i) ∷ words_of (line_of (drop (next_word s i).end s))
  unfolding word_at bytes_of
  words_step h = sym words_same ∙ step_at s (next_word s i).start (next_word s i).end (word_ends s i 0) h

  pub words_none : (next_word s i).start ≡ (next_word s i).end → words_of (line_of (drop i s)) ≡ []
  unfolding word_at end_of
  words_none h = sym words_same ∙ none_at (drop (next_word s i).start s) (starts_unblank s i 0) (omega (arith, word_ends s i 0))

  pub count_more : (next_word s i).start < (next_word s i).end → word_count s i ≡ suc (word_count s (next_word s i).end)
  unfolding word_count
  count_more h = rw (words_step h)

  pub count_none : (next_word s i).start ≡ (next_word s i).end → word_count s i ≡ 0
  unfolding word_count
  count_none h = rw (words_none h)

  word_order : (next_word s i).start ≤ (next_word s i).end
  unfolding word_at end_of
  word_order = omega (arith, word_ends s i 0)

  -- there is a word, or there is none
  by_word : (P : Type 0) → ((next_word s i).start < (next_word s i).end → P) → ((next_word s i).start ≡ (next_word s i).end → P) → P
  by_word P f g = either (next_word s i).end (next_word s i).start P (λ h. g (omega (arith, word_order))) f

  none_later : (k : ℕ) → (next_word s i).start ≡ (next_word s i).end → word_at s i k ≡ next_word s i
  unfolding word_at
  none_later k h = sym (word_stays s i 0 k (next_word s i) refl h (omega arith))

-- a later word of a line is an earlier one of what follows the first
word_later : (s : List ℕ) (line k : ℕ) → word_at s line (suc k) ≡ word_at s (next_word s line).end k
unfolding word_at
word_later s line zero = refl
word_later s line (suc k) = ap (λ (w : Extent). next_word s w.end) (word_later s line k)

no_bytes : (s : List ℕ) (w : Extent) → w.start ≡ w.end → bytes_of s w ≡ []
unfolding bytes_of
no_bytes s w h = let z : w.end - w.start ≡ 0 = omega arith in rw z

-- the words by their places are the words of the line: those below the count are there, each with its bytes, and the others are empty
pub word_bytes : (s : List ℕ) (line k : ℕ) → bytes_of s (word_at s line k) ≡ get_or (words_of (line_of (drop line s))) k []
unfolding word_at
word_bytes s line zero = by_word s line _ (λ h. rw (words_step s line h)) (λ h. rw (words_none s line h) (no_bytes s (next_word s line) h))
word_bytes s line (suc k) =
    by_word s line _
    (λ h. rw (word_later s line k, words_step s line h) (word_bytes s (next_word s line).end k))
    (λ h. rw (none_later s line (suc k) h, words_none s line h) (no_bytes s (next_word s line) h))

pub word_is : (s : List ℕ) (line k : ℕ) → k < word_count s line → (word_at s line k).start < (word_at s line k).end
unfolding word_at
word_is s line zero l = by_word s line _ (λ h. h) (λ h. absurd (omega (arith, count_none s line h)))
word_is s line (suc k) l =
    by_word s line _
    (λ h. rw (word_later s line k) (word_is s (next_word s line).end k (omega (arith, count_more s line h))))
    (λ h. absurd (omega (arith, count_none s line h)))

-- counting words one after the other
same_word : (s : List ℕ) (a : ℕ) → run Blank (drop a s) ≡ 0 → next_word s a ≡ record { start = a; end = end_of Word s a }
unfolding next_word end_of
same_word s a z = let q : a + 0 ≡ a = omega arith in rw (z, q)

pub word_again : (s : List ℕ) (i : ℕ) (w : Extent) → w ≡ next_word s i → w ≡ next_word s w.start
unfolding word_at next_word
word_again s i w e = rw e (sym (same_word s (next_word s i).start (starts_unblank s i 0)))

count_same : (s : List ℕ) (i : ℕ) (w : Extent) → w ≡ next_word s i → word_count s w.start ≡ word_count s i
unfolding word_count
count_same s i w e = rw e (ap length (words_same s i))

pub count_first : (s : List ℕ) (line : ℕ) (w : Extent) → w ≡ next_word s line → 0 + word_count s w.start ≡ word_count s line
count_first s line w e = omega (arith, count_same s line w e)

module _ (s : List ℕ) (line n : ℕ) (w : Extent) (is : w ≡ next_word s w.start) (inv : n + word_count s w.start ≡ word_count s line) where
  pub count_next : (w' : Extent) → w.start < w.end → w' ≡ next_word s w.end → n + 1 + word_count s w'.start ≡ word_count s line
  count_next w' h e =
      let k : (next_word s w.start).start < (next_word s w.start).end = rw is at h in
      omega (arith, count_more s w.start k, count_same s w.end w' e, ap (λ (x : Extent). word_count s x.end) is)

  pub count_done : w.start ≤ w.end → w.end ≤ w.start → n ≡ word_count s line
  count_done l h =
      let q : w.start ≡ w.end = omega arith in
      let k : (next_word s w.start).start ≡ (next_word s w.start).end = rw is at q in
      omega (arith, count_none s w.start k)

-- words put together: each holds a byte, and all its bytes are graphic
pub data Worded : List (List ℕ) → Type 0 where
  worded_none : Worded []
  worded_more : (w : List ℕ) {ws : List (List ℕ)} → 0 < length w → All Graphic w → Worded ws → Worded (w ∷ ws)

one_word : (w : List ℕ) → 0 < length w → All Graphic w → words_of w ≡ w ∷ []
unfolding words_of non_empty
one_word [] l h = absurd (omega arith)
one_word (x ∷ w) l h = rw (pieces_last Word x w (in_word_lem (x ∷ w) h))

more_words : (w : List ℕ) (sep : ℕ) (rest : List ℕ) → 0 < length w → All Graphic w → is_in Blank sep ≡ true → words_of (w ++ (sep ∷ rest)) ≡ w ∷ words_of rest
unfolding words_of non_empty
more_words [] sep rest l h b = absurd (omega arith)
more_words (x ∷ w) sep rest l h b =
    rw (pieces_join Word (x ∷ w) sep rest (in_word_lem (x ∷ w) h) (blank_word (eqb sep 32) (eqb sep 9) (eqb sep 10) b))

no_words : words_of [] ≡ []
unfolding words_of pieces_of non_empty
no_words = refl

pub words_joined : (sep : ℕ) (ws : List (List ℕ)) → is_in Blank sep ≡ true → Worded ws → words_of (joined sep ws) ≡ ws
unfolding joined
words_joined sep [] b s = no_words
words_joined sep (w ∷ []) b (worded_more _ l h s) = one_word w l h
words_joined sep (w ∷ (v ∷ ws)) b (worded_more _ l h s) =
    more_words w sep (joined sep (v ∷ ws)) l h b ∙ ap (λ (x : List (List ℕ)). w ∷ x) (words_joined sep (v ∷ ws) b s)

pub joined_in_line : (sep : ℕ) (ws : List (List ℕ)) → is_in Blank sep ≡ true → Worded ws → All Line (joined sep ws)
unfolding joined run
joined_in_line sep [] b s = refl
joined_in_line sep (w ∷ []) b (worded_more _ l h s) = in_line w h
joined_in_line sep (w ∷ (v ∷ ws)) b (worded_more _ l h s) =
    all_append Line w (sep ∷ joined sep (v ∷ ws)) (in_line w h) (rw (blank_line sep b, joined_in_line sep (v ∷ ws) b s))

-- the line at the front of a text is what stands before its feed, or all of it
pub line_fed : (line rest : List ℕ) → All Line line → line_of (line ++ (10 ∷ rest)) ≡ line
unfolding line_of run
line_fed line rest h =
    let r : run Line (line ++ (10 ∷ rest)) ≡ length line = omega (arith, run_append Line line (10 ∷ rest) h) in
    rw r (take-append_seam line (10 ∷ rest))

pub line_joined : (sep : ℕ) (ws : List (List ℕ)) (rest : List ℕ) → is_in Blank sep ≡ true → Worded ws → line_of (joined sep ws ++ (10 ∷ rest)) ≡ joined sep ws
line_joined sep ws rest b s = line_fed (joined sep ws) rest (joined_in_line sep ws b s)
