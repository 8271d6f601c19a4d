-- A line is read by its table exactly when its words spell values and lists, and then as those values. Assumes nothing.
use mathlib.Core.Path.{◌≡◌, refl, sym, ap, ◌∙◌}
use mathlib.Core.List.{List, [], ◌∷◌}
use Prim.Native.Nat.{ℕ, zero, suc, ◌+◌, ◌≤◌, ◌<◌}
use native.Mathlib.Omega.{arith}
use lib.ListN.{length, drop, get_or}
use Rattle.text.specs.declared.Extent.{Extent}
use Rattle.text.specs.Words.{next_word, word_at, word_count, bytes_of}
use Rattle.text.specs.Pieces.{words_of, line_of}
use Rattle.text.proofs.PieceLaws.{words_step, count_more, word_is}
use Rattle.kinds.specs.declared.Kind.{Kind}
use Rattle.kinds.specs.Kinds.{spelt, count_after}
use Rattle.columns.specs.Columns.{field_from, then_columns, columns_from, values_from}
use Rattle.columns.specs.Spells.{Spells, firsts, seconds}
use Rattle.columns.proofs.Meant.{Meant, meant_none, meant_more, lists_in, meant_spells, spells_meant}
use Rattle.std.specs.Prelude.{Ok, Err, Result}
use Rattle.ledger.specs.declared.Fault.{Fault}

-- the first of at least one word is there
pub first_there : (s : List ℕ) (at n : ℕ) → suc n ≤ word_count s at → (next_word s at).start < (next_word s at).end
unfolding word_at
first_there s at n h = word_is s at zero (omega arith)

pub rest_count : (s : List ℕ) (at n : ℕ) → word_count s at ≡ suc n → word_count s (next_word s at).end ≡ n
rest_count s at n h = omega (arith, count_more s at (first_there s at n (omega arith)))

-- the words of a line of no words
none_left_lem : (s : List ℕ) (at : ℕ) → word_count s at ≡ 0 → words_of (line_of (drop at s)) ≡ []
unfolding word_count
none_left_lem s at h = go (words_of (line_of (drop at s))) refl h
  where
    go : (ws : List (List ℕ)) → words_of (line_of (drop at s)) ≡ ws → length ws ≡ 0 → ws ≡ []
    go [] e h = refl
    go (w ∷ ws) e h = absurd (omega arith)

-- a line that is read: the reader takes its words for its values
pub columns_mean : (cs : List Kind) (n : ℕ) (s : List ℕ) (at e : ℕ) → word_count s at ≡ length cs → columns_from cs n s at ≡ Ok e → Meant cs n (words_of (line_of (drop at s))) (firsts (values_from cs n s at))
unfolding columns_from values_from field_from firsts
columns_mean [] n s at e h q = rw (none_left_lem s at h) meant_none
columns_mean (c ∷ cs) n s at e h q =
    go (spelt c n (bytes_of s (next_word s at))) refl (λ v k. columns_mean cs (count_after c v n) s (next_word s at).end e (rest_count s at (length cs) h) k) q
  where
    go : (x : Result ℕ Fault) → spelt c n (bytes_of s (next_word s at)) ≡ x
        → ((v : ℕ) → columns_from cs (count_after c v n) s (next_word s at).end ≡ Ok e → Meant cs (count_after c v n) (words_of (line_of (drop (next_word s at).end s))) (firsts (values_from cs (count_after c v n) s (next_word s at).end)))
        → then_columns (field_from c n s at) (λ v w. columns_from cs (count_after c v n) s w.end) ≡ Ok e
        → Meant (c ∷ cs) n (words_of (line_of (drop at s))) (firsts (values_from (c ∷ cs) n s at))
    go (Ok v) p k q =
        let z : columns_from cs (count_after c v n) s (next_word s at).end ≡ Ok e = rw p at q in
        rw (words_step s at (first_there s at (length cs) (omega arith)), p) (meant_more p (k v z))
    go (Err bad) p k q =
        let z : Err (record { reason = bad.reason; place = (next_word s at).start + bad.place }) ≡ Ok e = rw p at q in
        absurd (let y : ◌≡◌ {A = ℕ} 0 1 = cc in omega arith)

-- and the other way round: words that the reader takes for values are read, as those values
pub record Reads (cs : List Kind) (n : ℕ) (s : List ℕ) (at : ℕ) (vs : List ℕ) : Type 0 where
  pub end : ℕ
  pub read : columns_from cs n s at ≡ Ok end
  pub values : firsts (values_from cs n s at) ≡ vs

tail_is : (w w' : List ℕ) (ws ws' : List (List ℕ)) → w ∷ ws ≡ w' ∷ ws' → (w ≡ w') × (ws ≡ ws')
tail_is w w' ws ws' e = (cc, cc)

pub meant_read : (cs : List Kind) (n : ℕ) (s : List ℕ) (at : ℕ) (ws : List (List ℕ)) (vs : List ℕ) → word_count s at ≡ length cs → words_of (line_of (drop at s)) ≡ ws → Meant cs n ws vs → Reads cs n s at vs
unfolding columns_from values_from firsts field_from
meant_read [] n s at ws vs h q meant_none = record { end = at; read = refl; values = refl }
meant_read (c ∷ cs) n s at [] vs h q m = elim m [ ]
meant_read (c ∷ cs) n s at (w ∷ ws) [] h q m = elim m [ ]
meant_read (c ∷ cs) n s at (w ∷ ws) (v ∷ vs) h q (meant_more p t) =
    let there = first_there s at (length cs) (omega arith) in
    let e = tail_is (bytes_of s (next_word s at)) w (words_of (line_of (drop (next_word s at).end s))) ws (sym (words_step s at there) ∙ q) in
    let p' : spelt c n (bytes_of s (next_word s at)) ≡ Ok v = rw e.0 p in
    let r = meant_read cs (count_after c v n) s (next_word s at).end ws vs (rest_count s at (length cs) h) e.1 t in
    record { end = r.end; read = rw p' r.read; values = rw p' (ap (λ (x : List ℕ). v ∷ x) r.values) }

-- THE WORDS OF A LINE ARE READ BY A TABLE EXACTLY WHEN THEY SPELL VALUES AND LISTS BY IT, and then as those values
pub columns_spell : (cs : List Kind) (n : ℕ) (s : List ℕ) (at e : ℕ) → word_count s at ≡ length cs → columns_from cs n s at ≡ Ok e
    → Spells cs n (words_of (line_of (drop at s))) (firsts (values_from cs n s at)) (lists_in cs (words_of (line_of (drop at s))))
columns_spell cs n s at e h q = meant_spells (columns_mean cs n s at e h q)

pub spells_read : (cs : List Kind) (n : ℕ) (s : List ℕ) (at : ℕ) (vs : List ℕ) (ls : List (List ℕ)) → word_count s at ≡ length cs → Spells cs n (words_of (line_of (drop at s))) vs ls → Reads cs n s at vs
spells_read cs n s at vs ls h p = meant_read cs n s at (words_of (line_of (drop at s))) vs h refl (spells_meant p)

-- a word's place, by its number
pub word_later : (s : List ℕ) (at k : ℕ) → word_at s at (suc k) ≡ word_at s (next_word s at).end k
unfolding word_at
word_later s at zero = refl
word_later s at (suc k) = ap (λ (w : Extent). next_word s w.end) (word_later s at k)

pub place_is : (cs : List Kind) (n : ℕ) (s : List ℕ) (at e : ℕ) → columns_from cs n s at ≡ Ok e → (k : ℕ) → k < length cs → get_or (seconds (values_from cs n s at)) k 0 ≡ (word_at s at k).start
unfolding columns_from values_from field_from seconds word_at
place_is [] n s at e q k h = absurd (omega arith)
place_is (c ∷ cs) n s at e q k h = go (spelt c n (bytes_of s (next_word s at))) refl (λ v z j l. place_is cs (count_after c v n) s (next_word s at).end e z j l) q k h
  where
    go : (x : Result ℕ Fault) → spelt c n (bytes_of s (next_word s at)) ≡ x
        → ((v : ℕ) → columns_from cs (count_after c v n) s (next_word s at).end ≡ Ok e → (j : ℕ) → j < length cs → get_or (seconds (values_from cs (count_after c v n) s (next_word s at).end)) j 0 ≡ (word_at s (next_word s at).end j).start)
        → then_columns (field_from c n s at) (λ v w. columns_from cs (count_after c v n) s w.end) ≡ Ok e
        → (k : ℕ) → k < suc (length cs) → get_or (seconds (values_from (c ∷ cs) n s at)) k 0 ≡ (word_at s at k).start
    go (Ok v) p r q zero h = rw p
    go (Ok v) p r q (suc k) h =
        let z : columns_from cs (count_after c v n) s (next_word s at).end ≡ Ok e = rw p at q in
        rw p (r v z k (omega arith) ∙ ap (λ (w : Extent). w.start) (sym (word_later s at k)))
    go (Err bad) p r q k h =
        let z : Err (record { reason = bad.reason; place = (next_word s at).start + bad.place }) ≡ Ok e = rw p at q in
        absurd (let y : ◌≡◌ {A = ℕ} 0 1 = cc in omega arith)
