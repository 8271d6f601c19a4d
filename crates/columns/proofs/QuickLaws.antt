-- What each step of the quick way through a line shows, on plain values. Assumes nothing.
use mathlib.Core.Path.{◌≡◌, refl, sym, ap, ◌∙◌}
use mathlib.Core.Bool.{Bool, true, false}
use mathlib.Core.List.{List, [], ◌∷◌, ◌++◌, append-nil}
use Prim.Native.Nat.{ℕ, zero, suc, ◌+◌, ◌*◌, ◌≤◌, ◌<◌, min}
use native.Mathlib.Omega.{arith}
use native.Mathlib.Numerals.{add-one}
use lib.ListN.{length, set, get_or, take, length-take}
use lib.Seq.{sets, length-sets}
use lib.Dec.{eqb}
use borrow.Author.Tests.{le-leb, lt-leb, eqb-true}
use Rattle.text.specs.declared.Extent.{Extent}
use Rattle.text.specs.declared.Class.{Class}
use Rattle.text.specs.declared.Class.TheVariants.{Blank, Word, Line}
use Rattle.text.specs.Scan.{is_in, end_of, Scanned}
use Rattle.text.specs.Words.{next_word, bytes_of, line_end}
use Rattle.text.proofs.Laws.{end_of_stop, end_of_past, class_within, blank_line, either}
use Rattle.text.proofs.PieceLaws.{count_none}
use Rattle.numbers.specs.declared.Taken.{Taken}
use Rattle.numbers.specs.Numbers.{NumberTaken}
use Rattle.kinds.specs.declared.Range.{Range}
use Rattle.kinds.specs.declared.Kind.{Kind}
use Rattle.kinds.specs.declared.Kind.TheVariants.{Number}
use Rattle.kinds.specs.Kinds.{least_of, most_of, spelt, items_in, count_after, base_by}
use Rattle.columns.specs.declared.Quick.{Quick}
use Rattle.columns.specs.Columns.{column_limit, table_of, field_of, field_from, columns_from, values_from, lists_by, few_blocks, is_line_end, FieldRead, WordTaken, QuickWalked}
use Rattle.columns.proofs.ReadLaws.{field_word, front_in}
use Rattle.columns.proofs.WalkLaws.{walk_through}
use Rattle.std.specs.Prelude.{Ok, Err, Result, Some, None, Option}
use Rattle.std.specs.Bool.{then_some}
use Rattle.std.specs.Result.{result_ok}
use Rattle.kinds.specs.declared.Kind.TheVariants.{Name}
use Rattle.ledger.specs.declared.Fault.{Fault}

-- ---- one word
good_means : (x : Result ℕ Fault) (y w : Extent) (v : ℕ) → field_of x y ≡ Ok (v, w) → x ≡ Ok v
good_means (Ok u) y w v e = let p : ◌≡◌ {A = ℕ × Extent} (u, y) (v, w) = cc in ap Ok (ap (λ (z : ℕ × Extent). z.0) p)
good_means (Err bad) y w v e = absurd (let z : ◌≡◌ {A = ℕ} 0 1 = cc in omega arith)

-- what is taken is the value itself, and none is no value
some_same : {A : Type 0} (x y : A) → Some x ≡ Some y → x ≡ y
some_same x y e = cc

none_some : {A : Type 0} (x : A) → None ≡ Some x → ⊥
none_some x e = let z : ◌≡◌ {A = ℕ} 0 1 = cc in omega arith

from_ok : (r : Result (ℕ × Extent) Fault) (y : ℕ × Extent) → result_ok r ≡ Some y → r ≡ Ok y
from_ok (Ok z) y e = cc
from_ok (Err z) y e = absurd (let q : ◌≡◌ {A = ℕ} 0 1 = cc in omega arith)

module _ (k : Kind) (n : ℕ) (s : List ℕ) (at base : ℕ) (d d' : List ℕ) (r : Result (ℕ × Extent) Fault) (read : FieldRead k n s at base d d' r) where
  long_same : length d' ≡ length d
  long_same = rw read.stored (length-sets d base (items_in k (bytes_of s (next_word s at))))

  pub word_good : (v : ℕ) (w : Extent) → r ≡ Ok (v, w) → WordTaken k n s (end_of Blank s at) base d d' (Some (record { value = v; end = w.end }))
  unfolding field_from next_word
  word_good v w q =
      let f : field_from k n s at ≡ Ok (v, w) = sym read.result ∙ q in
      let e : w ≡ next_word s at = field_word k n s at v w f in
      let m : spelt k n (bytes_of s (next_word s at)) ≡ Ok v = good_means (spelt k n (bytes_of s (next_word s at))) (next_word s at) w v f in
      record {
        ends = λ x g. rw (← (some_same _ x g), e);
        means = λ x g. rw (← (some_same _ x g), e) m;
        stored = λ x g. rw (← (some_same _ x g), e) read.stored;
        long = long_same;
      }

  pub word_taken : (o : Option (ℕ × Extent)) → o ≡ result_ok r → (v : ℕ) (w : Extent) → o ≡ Some (v, w) → WordTaken k n s (end_of Blank s at) base d d' (Some (record { value = v; end = w.end }))
  word_taken o e v w q = word_good v w (from_ok r (v, w) (sym e ∙ q))

  pub word_bad : WordTaken k n s (end_of Blank s at) base d d' None
  word_bad = record { ends = λ x g. absurd (none_some x g); means = λ x g. absurd (none_some x g); stored = λ x g. absurd (none_some x g); long = long_same }

pub word_from : (k : Kind) (n : ℕ) (s : List ℕ) (at a base : ℕ) (d d' : List ℕ) (r : Option Taken) → a ≡ end_of Blank s at → WordTaken k n s (end_of Blank s at) base d d' r → WordTaken k n s a base d d' r
word_from k n s at a base d d' r e h = rw e h

pub word_number : (k : Kind) (range : Range) (n : ℕ) (s : List ℕ) (a base least most : ℕ) (d : List ℕ) (r : Option Taken) → k ≡ Number range → least ≡ least_of range → most ≡ most_of range → NumberTaken least most s a r → WordTaken k n s a base d d r
unfolding spelt bytes_of
word_number k range n s a base least most d r ek el em t =
    rw ek
    (record { ends = t.ends; means = λ x g. rw (t.ends x g, ← el, ← em) (t.means x g); stored = λ x g. refl; long = refl })

-- ---- where a line ends
pub line_over : (s : List ℕ) (i : ℕ) → length s ≤ i → true ≡ is_line_end s i
line_over s i h = rw (le-leb (length s) i h)

pub line_feeds : (s : List ℕ) (i : ℕ) → i < length s → eqb (get_or s i 0) 10 ≡ is_line_end s i
line_feeds s i h = rw (lt-leb (length s) i h)

-- no scan over bytes other than line feeds goes on there
line_stops : (c : Class) → is_in c 10 ≡ false → (s : List ℕ) (i : ℕ) → is_line_end s i ≡ true → end_of c s i ≡ i
line_stops c other s i e =
    either (length s) i _ (end_of_past c s i)
    (λ h.
    let q : get_or s i 0 ≡ 10 = eqb-true (get_or s i 0) 10 (line_feeds s i h ∙ e) in
    end_of_stop c s i (rw q other) h)

-- ---- the loop: the columns before number k are passed, and whatever columns follow give what they give after those
pub record Passed (table : List Kind) (s : List ℕ) (from : ℕ) (out₀ lists₀ : List ℕ) (k n base at : ℕ) (out lists : List ℕ) : Type 0 where
  pub read : (ds : List Kind) → columns_from ds n s at ≡ columns_from (take k table ++ ds) 0 s from
  pub stored : (ds : List Kind) → sets out (2 * k) (values_from ds n s at) ≡ sets out₀ 0 (values_from (take k table ++ ds) 0 s from)
  pub held : (ds : List Kind) → lists_by few_blocks ds n s at base lists ≡ lists_by few_blocks (take k table ++ ds) 0 s from 0 lists₀

pub passed_none : (table : List Kind) (s : List ℕ) (from : ℕ) (out lists : List ℕ) → Passed table s from out lists 0 0 0 from out lists
passed_none table s from out lists = record { read = λ ds. refl; stored = λ ds. refl; held = λ ds. refl }

-- one column more
front_more : (table : List Kind) (k : ℕ) (ds : List Kind) → k < length table → take (suc k) table ++ ds ≡ take k table ++ (get_or table k Name ∷ ds)
front_more [] k ds h = absurd (omega arith)
front_more (x ∷ xs) zero ds h = refl
front_more (x ∷ xs) (suc k) ds h = ap (λ (l : List Kind). x ∷ l) (front_more xs k ds (omega arith))

field_taken : (kind : Kind) (n : ℕ) (s : List ℕ) (at a base : ℕ) (d d' : List ℕ) (r : Option Taken) → Scanned Blank s at a → WordTaken kind n s a base d d' r → (x : Taken) → r ≡ Some x
    → field_from kind n s at ≡ Ok (x.value, (record { start = a; end = x.end }))
unfolding field_from next_word
field_taken kind n s at a base d d' r sc t x g = rw (← sc.is, ← (t.ends x g), t.means x g)

-- a walk that takes nothing says nothing
not_taken : {table : List Kind} {s : List ℕ} {from : ℕ} {out out' lists lists' : List ℕ} → QuickWalked table s from out out' lists lists' None
not_taken = record { few = λ x g. absurd (none_some x g); read = λ x g. absurd (none_some x g); words = λ x g. absurd (none_some x g); line = λ x g. absurd (none_some x g); stored = λ x g. absurd (none_some x g); held = λ x g. absurd (none_some x g) }

module _ (table : List Kind) (s : List ℕ) (from : ℕ) (out₀ lists₀ : List ℕ) (k n base at : ℕ) (out lists : List ℕ) (passed : Passed table s from out₀ lists₀ k n base at out lists) where
  pub passed_more : k < length table → (a : ℕ) → Scanned Blank s at a → (kind : Kind) → kind ≡ get_or table k Name → (r : Option Taken) (lists' : List ℕ) → WordTaken kind n s a base lists lists' r → (x : Taken) → r ≡ Some x
      → (out' : List ℕ) → out' ≡ set (set out (2 * k) x.value) (2 * k + 1) a → (n' : ℕ) → n' ≡ count_after kind x.value n → (base' : ℕ) → base' ≡ base_by few_blocks kind base
      → Passed table s from out₀ lists₀ (k + 1) n' base' x.end out' lists'
  unfolding columns_from values_from lists_by
  passed_more h a sc kind ek r lists' t x g out' eo n' en base' eb =
      let f = field_taken kind n s at a base lists lists' r sc t x g in
      let p : 2 * suc k ≡ suc (suc (2 * k)) = omega arith in
      let more : (ds : List Kind) → take (suc k) table ++ ds ≡ take k table ++ (kind ∷ ds) = λ ds. rw ek (front_more table k ds h) in
      record {
        read = λ ds. rw (add-one k, en, more ds) (rw f at (passed.read (kind ∷ ds)));
        stored = λ ds. rw (add-one k, en, more ds, p, eo, add-one (2 * k)) (rw f at (passed.stored (kind ∷ ds)));
        held = λ ds. rw (add-one k, en, more ds, eb, t.stored x g) (rw f at (passed.held (kind ∷ ds)));
      }

  -- where the line ends
  passed_here : k ≤ length table → (e : ℕ) → Scanned Blank s at e → is_line_end s e ≡ true → QuickWalked table s from out₀ out lists₀ lists (Some (record { count = k; last = at; end = e }))
  unfolding columns_from values_from lists_by line_end next_word
  passed_here h e sc et =
      let cs = take k table in
      let all : cs ++ [] ≡ cs = append-nil cs in
      let read : columns_from cs 0 s from ≡ Ok at = sym (rw all at (passed.read [])) in
      let through = walk_through cs 0 s from at read in
      let stops : (c : Class) → is_in c 10 ≡ false → end_of c s e ≡ e = λ c other. line_stops c other s e et in
      let none : (next_word s at).start ≡ (next_word s at).end = rw (← sc.is) (sym (stops Word refl)) in
      record {
        few = λ x g. rw (← (some_same _ x g)) h;
        read = λ x g. rw (← (some_same _ x g)) read;
        words = λ x g. rw (← (some_same _ x g)) (omega (arith, through.count, count_none s at none, length-take k table));
        line = λ x g. rw (← (some_same _ x g)) (sym through.line ∙ sym (class_within Blank Line blank_line s at) ∙ rw (← sc.is) (stops Line refl));
        stored = λ x g. rw (← (some_same _ x g)) (rw all at (passed.stored []));
        held = λ x g. rw (← (some_same _ x g)) (rw all at (passed.held []));
      }

  pub passed_all : k ≤ length table → (e : ℕ) → Scanned Blank s at e → (t : Bool) → t ≡ is_line_end s e → QuickWalked table s from out₀ out lists₀ lists (then_some t (record { count = k; last = at; end = e }))
  passed_all h e sc true et = passed_here h e sc (sym et)
  passed_all h e sc false et = not_taken

pub quick_line : (table : List Kind) (s : List ℕ) (from n : ℕ) (b b' d d' : List ℕ) (r : Option Quick) → n ≡ min column_limit (length table) → QuickWalked (take n table) s from b b' d d' r → QuickWalked (table_of table) s from b b' d d' r
quick_line table s from n b b' d d' r en h = rw (front_in n table en) at h
