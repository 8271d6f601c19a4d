-- What the formats share beside the table's laws: words by their bytes and parts, names that show, strands by their letters, one written word of each kind, and lists
-- stored in a table of zeros. Assumes nothing.
use mathlib.Core.Path.{◌≡◌, refl, sym, ap, ◌∙◌}
use mathlib.Core.Bool.{Bool, true, false, ◌&&◌, ◌||◌}
use mathlib.Core.List.{List, [], ◌∷◌, ◌++◌}
use Prim.Native.Nat.{ℕ, zero, suc, ◌+◌, ◌-◌, ◌≤◌, ◌%◌}
use native.Mathlib.Omega.{arith}
use lib.ListN.{length, take, drop, get_or, replicate, length-take, get_or-append, get_or-eq_default}
use lib.Seq.{sets, sets-eq, take_all, take-length, get_or-append-add, get_or-drop}
use lib.Dec.{eqb}
use borrow.Author.Tests.{le-leb, leb-true, eqb-true}
use Rattle.ledger.specs.declared.Strand.{Strand}
use Rattle.ledger.specs.declared.Strand.TheVariants.{Plus, Minus, Dot}
use Rattle.ledger.specs.Limits.{name_limit}
use Rattle.ledger.specs.Strands.{strand_letter, strand_of, strand_is}
use Rattle.ledger.proofs.Laws.{strand_of_letter}
use Rattle.text.specs.declared.Class.TheVariants.{Word, Graphic}
use Rattle.text.specs.declared.Extent.{Extent}
use Rattle.text.specs.Scan.{run, end_of}
use Rattle.text.specs.Words.{word_at, bytes_of}
use Rattle.text.specs.Parts.{part_bytes}
use Rattle.text.proofs.Laws.{either, word_ends}
use Rattle.text.proofs.CheckLaws.{run_most}
use Rattle.text.proofs.TextLaws.{All}
use Rattle.text.proofs.PieceLaws.{Worded, worded_none, worded_more}
use Rattle.numbers.specs.Ranges.{Between}
use Rattle.writing.specs.Digits.{list_text}
use Rattle.kinds.specs.declared.Range.{Range}
use Rattle.kinds.specs.declared.Kind.{Kind}
use Rattle.kinds.specs.declared.Kind.TheVariants.{Name, Items}
use Rattle.kinds.specs.Kinds.{least_of, most_of, count_after, is_strand}
use Rattle.kinds.proofs.BackLaws.{Written, written_lem}
use Rattle.columns.specs.Names.{part_of, all_graphic}
use Rattle.columns.proofs.Meant.{Meant, meant_none, meant_more}

pub and_i : (a b : Bool) → a ≡ true → b ≡ true → (a && b) ≡ true
and_i a b h k = rw (h, k)

-- ---- words, and the parts they stand in
pub word_length : (s : List ℕ) (k : ℕ) → length (bytes_of s (word_at s 0 k)) ≡ (word_at s 0 k).end - (word_at s 0 k).start
unfolding bytes_of end_of
word_length s k =
    let w = word_at s 0 k in
    let a : w.end ≡ w.start + run Word (drop w.start s) = word_ends s 0 k in
    let b = run_most Word (drop w.start s) in
    rw length-take (omega arith)

pub part_bytes_lem : (s : List ℕ) (w : Extent) → part_bytes s (part_of w) ≡ bytes_of s w
unfolding part_bytes bytes_of
part_bytes_lem s w = refl

-- the test that all bytes show, both ways
pub all_graphic_lem : (w : List ℕ) → all_graphic w ≡ true → All Graphic w
unfolding end_of
all_graphic_lem w e =
    let l : length w ≤ 0 + run Graphic w = leb-true (length w) (end_of Graphic w 0) e in
    omega (arith, run_most Graphic w)

pub graphic_all : (w : List ℕ) → All Graphic w → all_graphic w ≡ true
unfolding end_of
graphic_all w h = let l : length w ≤ 0 + run Graphic w = omega arith in le-leb (length w) (0 + run Graphic w) l

-- ---- strands by their letters
pub letter_byte : (s : Strand) → strand_letter s % 256 ≡ strand_letter s
letter_byte Plus = refl
letter_byte Minus = refl
letter_byte Dot = refl

pub strand_is_lem : (t : Strand) (v : ℕ) → strand_letter t ≡ v → t ≡ strand_is (strand_of v)
strand_is_lem t v e = rw (← e, strand_of_letter t)

pub letter_is : (dot : Bool) (v : ℕ) → is_strand dot (v ∷ []) ≡ true → strand_letter (strand_is (strand_of v)) ≡ v
letter_is dot v h = go dot (eqb v 43) (eqb v 45) (eqb v 46) refl refl refl h
  where
    go : (d x y z : Bool) → eqb v 43 ≡ x → eqb v 45 ≡ y → eqb v 46 ≡ z → (x || (y || (d && z))) ≡ true → strand_letter (strand_is (strand_of v)) ≡ v
    go d true y z e f g k = rw e (sym (eqb-true v 43 e))
    go d false true z e f g k = rw (e, f) (sym (eqb-true v 45 f))
    go true false false true e f g k = rw (e, f, g) (sym (eqb-true v 46 g))
    go true false false false e f g k = absurd (let q : ◌≡◌ {A = ℕ} 0 1 = cc in omega arith)
    go false false false z e f g k = absurd (let q : ◌≡◌ {A = ℕ} 0 1 = cc in omega arith)

-- ---- one written word
pub name_written : (n : ℕ) (w : List ℕ) → 1 ≤ length w → length w ≤ name_limit → All Graphic w → Written Name n (length w) w []
name_written n w some short shows =
    let a : take (length w) (drop 0 w) ≡ w = take-length w in
    rw a at (written_lem Name w [] n 0 (length w) 0 (record { some = some; short = short; there = ap length a; shows = ap (run Graphic) a ∙ shows }))

pub list_written : (c : Range) (n : ℕ) (xs : List ℕ) → 1 ≤ n → length xs ≡ n → Between (least_of c) (most_of c) xs → Written (Items c) n n (list_text xs) xs
list_written c n xs some l b =
    let a : take n (drop 0 xs) ≡ xs = take_all n xs (omega arith) in
    rw a at (written_lem (Items c) [] xs n 0 n 0 (record { some = some; count = refl; there = ap length a ∙ l; range = rw a b }))

-- the words ws of the columns cs are there, show, and spell the values vs
pub data Row : List Kind → ℕ → List (List ℕ) → List ℕ → Type 0 where
  row_none : {n : ℕ} → Row [] n [] []
  row_more : {n v : ℕ} {c : Kind} {cs : List Kind} {w held : List ℕ} {ws : List (List ℕ)} {vs : List ℕ} → Written c n v w held → Row cs (count_after c v n) ws vs → Row (c ∷ cs) n (w ∷ ws) (v ∷ vs)

pub row_spells : {n : ℕ} {cs : List Kind} {ws : List (List ℕ)} {vs : List ℕ} → Row cs n ws vs → Meant cs n ws vs
row_spells row_none = meant_none
row_spells (row_more f t) = meant_more f.back (row_spells t)

pub row_worded : {n : ℕ} {cs : List Kind} {ws : List (List ℕ)} {vs : List ℕ} → Row cs n ws vs → Worded ws
row_worded row_none = worded_none
row_worded (row_more {w = w} f t) = worded_more w f.some f.shows (row_worded t)

pub zeros : (m i : ℕ) → ◌≡◌ {A = ℕ} (get_or {A = ℕ} (replicate m 0) i 0) 0
zeros zero i = refl
zeros (suc m) zero = refl
zeros (suc m) (suc i) = zeros m i

-- numbers stored at the front of zeros, read by their places
pub stored_at : (z vs : List ℕ) → ((i : ℕ) → get_or z i 0 ≡ 0) → length vs ≤ length z → (i : ℕ) → get_or (sets z 0 vs) i 0 ≡ get_or vs i 0
stored_at z vs zeros h i =
    let e : sets z 0 vs ≡ vs ++ drop (0 + length vs) z = sets-eq vs z 0 (omega arith) in
    rw e
    (either (length vs) i _ (λ l.
    let q : i ≡ length vs + (i - length vs) = omega arith in
    let x : get_or (vs ++ drop (0 + length vs) z) (length vs + (i - length vs)) 0 ≡ get_or (drop (0 + length vs) z) (i - length vs) 0 = get_or-append-add vs (drop (0 + length vs) z) (i - length vs) 0 in
    let y : get_or (drop (0 + length vs) z) (i - length vs) 0 ≡ get_or z (0 + length vs + (i - length vs)) 0 = get_or-drop (0 + length vs) z (i - length vs) 0 in
    (rw (← q) at (x ∙ y ∙ zeros (0 + length vs + (i - length vs)))) ∙ sym (get_or-eq_default vs 0 l))
    (λ l. get_or-append vs (drop (0 + length vs) z) 0 i l))
