-- What a walk over columns passes: as many words as there are columns, and no line feed. Assumes nothing.
use mathlib.Core.Path.{◌≡◌, refl, sym, ap, ◌∙◌}
use mathlib.Core.List.{List, [], ◌∷◌}
use Prim.Native.Nat.{ℕ, ◌+◌, ◌-◌, ◌<◌}
use native.Mathlib.Omega.{arith}
use lib.ListN.{length, take, drop, length-take}
use Rattle.text.specs.declared.Class.TheVariants.{Blank}
use Rattle.text.specs.declared.Extent.{Extent}
use Rattle.text.specs.Scan.{Scanned}
use Rattle.text.specs.Words.{next_word, word_count, bytes_of, line_end}
use Rattle.text.specs.Pieces.{pieces_of}
use Rattle.text.proofs.Laws.{word_line_end}
use Rattle.text.proofs.PieceLaws.{count_more}
use Rattle.numbers.specs.declared.Taken.{Taken}
use Rattle.numbers.specs.Numbers.{well_spelt, number_of, NumberTaken}
use Rattle.numbers.specs.Lists.{items_of, test_items, open_end, list_end, list_of}
use Rattle.kinds.specs.declared.Fixed.TheVariants as fixed
use Rattle.kinds.specs.declared.Range.{Range}
use Rattle.kinds.specs.declared.Kind.{Kind}
use Rattle.kinds.specs.declared.Kind.TheVariants.{Name, Number, Count, Items, Stranded, Word, Colour}
use Rattle.kinds.specs.Kinds.{least_of, most_of, same_bytes, name_of, strand_of, fixed_of, colour_of, spelt, count_after}
use Rattle.columns.specs.Columns.{field_from, then_columns, columns_from, values_from, FieldRead, FieldTaken}
use Rattle.std.specs.Prelude.{Ok, Err, Result, Some, Option}
use Rattle.std.specs.Result.{result_ok}
use Rattle.ledger.specs.declared.Fault.{Fault}

-- a word of no bytes spells nothing
no_value : (k : Kind) (n v : ℕ) → spelt k n [] ≡ Ok v → ◌≡◌ {A = ℕ} 0 1
unfolding spelt number_of well_spelt name_of strand_of fixed_of colour_of same_bytes list_of list_end open_end test_items items_of pieces_of
no_value Name n v e = cc
no_value (Number r) n v e = cc
no_value Count n v e = cc
no_value (Items r) n v e = cc
no_value (Stranded dot) n v e = cc
no_value (Word fixed.Chain) n v e = cc
no_value (Word fixed.Plus) n v e = cc
no_value Colour n v e = cc

pub some_bytes : (k : Kind) (n v : ℕ) (w : List ℕ) → spelt k n w ≡ Ok v → 0 < length w
some_bytes k n v [] e = absurd (let z = no_value k n v e in omega arith)
some_bytes k n v (b ∷ w) e = omega arith

pub word_some : (k : Kind) (n v : ℕ) (s : List ℕ) (at : ℕ) → spelt k n (bytes_of s (next_word s at)) ≡ Ok v → (next_word s at).start < (next_word s at).end
unfolding bytes_of
word_some k n v s at e =
    let h : 0 < length (take ((next_word s at).end - (next_word s at).start) (drop (next_word s at).start s)) = some_bytes k n v (bytes_of s (next_word s at)) e in
    omega (arith, h, length-take ((next_word s at).end - (next_word s at).start) (drop (next_word s at).start s))

-- a walk that is good, from a place to a place
pub record Through (cs : List Kind) (s : List ℕ) (at e : ℕ) : Type 0 where
  pub count : word_count s at ≡ length cs + word_count s e
  pub line : line_end s e ≡ line_end s at

pub walk_through : (cs : List Kind) (n : ℕ) (s : List ℕ) (at e : ℕ) → columns_from cs n s at ≡ Ok e → Through cs s at e
unfolding columns_from field_from
walk_through [] n s at e q =
    let z : at ≡ e = cc in
    record { count = rw z (omega arith); line = rw z }
walk_through (c ∷ cs) n s at e q = go (spelt c n (bytes_of s (next_word s at))) refl (λ v k. walk_through cs (count_after c v n) s (next_word s at).end e k) q
  where
    go : (x : Result ℕ Fault) → spelt c n (bytes_of s (next_word s at)) ≡ x
        → ((v : ℕ) → columns_from cs (count_after c v n) s (next_word s at).end ≡ Ok e → Through cs s (next_word s at).end e)
        → then_columns (field_from c n s at) (λ v w. columns_from cs (count_after c v n) s w.end) ≡ Ok e
        → Through (c ∷ cs) s at e
    go (Ok v) p k q =
        let z : columns_from cs (count_after c v n) s (next_word s at).end ≡ Ok e = rw p at q in
        let t = k v z in
        record { count = omega (arith, t.count, count_more s at (word_some c n v s at p)); line = t.line ∙ word_line_end s at }
    go (Err bad) p k q =
        let z : Err (record { reason = bad.reason; place = (next_word s at).start + bad.place }) ≡ Ok e = rw p at q in
        absurd (let y : ◌≡◌ {A = ℕ} 0 1 = cc in omega arith)

-- a field taken alone
pub taken_as : (k : Kind) (s : List ℕ) (at base : ℕ) (d d' : List ℕ) (r : Result (ℕ × Extent) Fault) → FieldRead k 0 s at base d d' r → FieldTaken k s at (result_ok r)
taken_as k s at base d d' (Ok y) h = record { is = λ x g. let e : y ≡ x = cc in sym h.result ∙ ap Ok e }
taken_as k s at base d d' (Err y) h = record { is = λ x g. absurd (let z : ◌≡◌ {A = ℕ} 0 1 = cc in omega arith) }

pub taken_number : (range : Range) (s : List ℕ) (at a least most : ℕ) (r : Option Taken) → least ≡ least_of range → most ≡ most_of range → Scanned Blank s at a → NumberTaken least most s a r
    → (x : Taken) → r ≡ Some x → FieldTaken (Number range) s at (Some (x.value, (record { start = a; end = x.end })))
unfolding field_from spelt next_word bytes_of
taken_number range s at a least most r el em sc t x g =
    record { is = λ y h. let e : (x.value, (record { start = a; end = x.end })) ≡ y = cc in rw (← sc.is, ← el, ← em, t.means x g, ← (t.ends x g)) (ap Ok e) }

-- fields taken one after the other
pub record Run (cs : List Kind) (s : List ℕ) (at : ℕ) (vs : List ℕ) (e : ℕ) : Type 0 where
  pub read : columns_from cs 0 s at ≡ Ok e
  pub values : values_from cs 0 s at ≡ vs

pub run_none : (s : List ℕ) (at : ℕ) → Run [] s at [] at
unfolding columns_from values_from
run_none s at = record { read = refl; values = refl }

pub run_more : (k : Kind) (cs : List Kind) (s : List ℕ) (at e : ℕ) (vs : List ℕ) (r : Option (ℕ × Extent)) (x : ℕ × Extent) → count_after k x.0 0 ≡ 0 → FieldTaken k s at r → r ≡ Some x → Run cs s x.1.end vs e → Run (k ∷ cs) s at (x.0 ∷ x.1.start ∷ vs) e
unfolding columns_from values_from
run_more k cs s at e vs r x n t g h = record { read = rw (t.is x g, n) h.read; values = rw (t.is x g, n, h.values) }
