-- Headers and block lines taken in one pass: what is taken is what is read. Assumes nothing.
use mathlib.Core.Path.{◌≡◌, refl, sym, ap, ◌∙◌}
use mathlib.Core.Bool.{Bool, true, false}
use mathlib.Core.List.{List, [], ◌∷◌}
use Prim.Native.Nat.{ℕ, suc, ◌+◌, ◌≤◌, ◌<◌}
use native.Mathlib.Omega.{arith}
use lib.ListN.{length, get_or, take}
use lib.Dec.{eqb}
use borrow.Author.Tests.{eqb-true}
use Rattle.ledger.specs.Limits.{largest_position}
use Rattle.text.specs.declared.Class.TheVariants.{Blank, Line, Word}
use Rattle.text.specs.Scan.{end_of, Scanned}
use Rattle.text.specs.Words.{line_end, next_line, next_word, word_count, bytes_of}
use Rattle.text.proofs.Laws.{end_of_past, end_of_stop, class_within, blank_line, word_line_end, next_as, next_fed, next_none}
use Rattle.text.proofs.PieceLaws.{count_more, count_none}
use Rattle.text.proofs.CheckLaws.{words_good}
use Rattle.numbers.specs.declared.Taken.{Taken}
use Rattle.numbers.specs.Numbers.{number_of, NumberTaken}
use Rattle.kinds.specs.declared.Kind.{Kind}
use Rattle.kinds.specs.declared.Kind.TheVariants.{Number}
use Rattle.kinds.specs.declared.Range.{Range}
use Rattle.kinds.specs.declared.Range.TheVariants.{Coordinate, Size}
use Rattle.kinds.specs.Kinds.{least_of, most_of, spelt}
use Rattle.columns.specs.Columns.{field_from, columns_from, values_from}
use Rattle.columns.proofs.WalkLaws.{Run, walk_through}
use Rattle.chain.specs.declared.BlockLine.TheVariants.{Last, Gap}
use Rattle.chain.specs.declared.Head.{Head}
use Rattle.chain.specs.declared.Quick.{Quick}
use Rattle.chain.specs.Columns as column
use Rattle.chain.specs.Table.{block_columns, chain_columns}
use Rattle.chain.specs.Read.{block_words, block_numbers, block_line}
use Rattle.chain.specs.Steps.{WordTaken, RestSeen, GapTaken, LastTaken, StepRead, HeadTaken}
use Rattle.chain.proofs.BlockLaws.{limit_ahead}
use Rattle.std.specs.Bool.{then_some}
use Rattle.std.specs.Prelude.{Ok, Option, Some}

-- the number of the word at or after a place
pub word_taken : (least : ℕ) (s : List ℕ) (at a : ℕ) (r : Option Taken) → Scanned Blank s at a → NumberTaken least largest_position s a r → WordTaken least s at r
unfolding next_word bytes_of
word_taken least s at a r sc t = record {
  means = λ x g. rw (← sc.is) (t.means x g);
  ends = λ x g. rw (← sc.is) (t.ends x g);
  some = λ x g. rw (← sc.is) (omega (arith, t.some x g, t.ends x g));
  small = t.small;
}

-- what is told where a test holds
told : (t : Bool) (y x : ℕ) → then_some t y ≡ Some x → (t ≡ true) × (y ≡ x)
told true y x e = (refl, cc)
told false y x e = absurd (let z : ◌≡◌ {A = ℕ} 0 1 = cc in omega arith)

-- the rest of a line
module _ (s : List ℕ) (at e : ℕ) (sc : Scanned Blank s at e) where
  no_word : end_of Word s e ≡ e → (next_word s at).start ≡ (next_word s at).end
  unfolding next_word
  no_word h = rw (← sc.is) (sym h)

  line_here : end_of Line s e ≡ e → e ≡ line_end s at
  unfolding line_end
  line_here h = sym h ∙ ap (end_of Line s) sc.is ∙ class_within Blank Line blank_line s at

  pub rest_end : length s ≤ e → RestSeen s at (Some e)
  rest_end h = record {
    none = λ x g. no_word (end_of_past Word s e h);
    next = λ x g. let q : e ≡ x = cc in sym q ∙ next_none s at e (line_here (end_of_past Line s e h)) h;
  }

  pub rest_feed : e < length s → RestSeen s at (then_some (eqb (get_or s e 0) 10) (e + 1))
  rest_feed h = record {
    none = λ x g. no_word (end_of_stop Word s e (rw (feed x g)) h);
    next = λ x g. sym (told (eqb (get_or s e 0) 10) (e + 1) x g).1 ∙ next_fed s at e (line_here (end_of_stop Line s e (rw (feed x g)) h)) h;
  }
    where
      feed : (x : ℕ) → then_some (eqb (get_or s e 0) 10) (e + 1) ≡ Some x → get_or s e 0 ≡ 10
      feed x g = eqb-true (get_or s e 0) 10 (told (eqb (get_or s e 0) 10) (e + 1) x g).0

-- one column of numbers, and on
module _ (r : Range) (ks : List Kind) (n : ℕ) (s : List ℕ) (at v e : ℕ) (h : number_of (least_of r) (most_of r) (bytes_of s (next_word s at)) ≡ Ok v) (q : e ≡ (next_word s at).end) where
  one_column : columns_from (Number r ∷ ks) n s at ≡ columns_from ks n s e
  unfolding columns_from field_from spelt
  one_column = rw (h, q)

  one_value : values_from (Number r ∷ ks) n s at ≡ v ∷ (next_word s at).start ∷ values_from ks n s e
  unfolding values_from field_from spelt
  one_value = rw (h, q)

-- a line of one number, and one of three
module _ (s : List ℕ) (line : ℕ) (ra : Option Taken) (ta : WordTaken 1 s line ra) (a : Taken) (ga : ra ≡ Some a) where
  line_first : line_end s a.end ≡ line_end s line
  line_first = ap (line_end s) (ta.ends a ga) ∙ word_line_end s line

  count_first : word_count s line ≡ suc (word_count s a.end)
  count_first = count_more s line (ta.some a ga) ∙ ap (λ x. suc (word_count s x)) (sym (ta.ends a ga))

  is_last : (next_word s a.end).start ≡ (next_word s a.end).end → block_line s line ≡ Ok (Last a.value)
  unfolding block_line block_words block_numbers block_columns columns_from
  is_last none =
      let count : word_count s line ≡ column.last_count = omega (arith, count_first, count_none s a.end none) in
      rw (
        count,
        ← words_good s line column.last_count column.gap_count true (omega arith) refl,
        one_column Size [] 0 s line a.value a.end (ta.means a ga) (ta.ends a ga),
        one_value Size [] 0 s line a.value a.end (ta.means a ga) (ta.ends a ga),
      )

  pub last_taken : (rr : Option ℕ) → RestSeen s a.end rr → (y : ℕ) → rr ≡ Some y → LastTaken s line (Some a.value)
  last_taken rr tr y gr = record {
    is = λ z g. let q : a.value ≡ z = cc in is_last (tr.none y gr) ∙ ap (λ (v : ℕ). Ok (Last v)) q;
    size = λ z g. let q : a.value ≡ z = cc in rw q at (ta.small a ga);
  }

  module _ (rb : Option Taken) (tb : WordTaken 0 s a.end rb) (b : Taken) (gb : rb ≡ Some b) (rc : Option Taken) (tc : WordTaken 0 s b.end rc) (c : Taken) (gc : rc ≡ Some c) (rr : Option ℕ) (tr : RestSeen s c.end rr) (y : ℕ) (gr : rr ≡ Some y) where
    count_three : word_count s line ≡ column.gap_count
    count_three =
        omega (
          arith,
          count_first,
          count_more s a.end (tb.some b gb),
          ap (word_count s) (tb.ends b gb),
          count_more s b.end (tc.some c gc),
          ap (word_count s) (tc.ends c gc),
          count_none s c.end (tr.none y gr),
        )

    read_three : columns_from block_columns 0 s line ≡ Ok c.end
    unfolding block_columns columns_from
    read_three =
        one_column Size (Number Coordinate ∷ Number Coordinate ∷ []) 0 s line a.value a.end (ta.means a ga) (ta.ends a ga)
        ∙ one_column Coordinate (Number Coordinate ∷ []) 0 s a.end b.value b.end (tb.means b gb) (tb.ends b gb)
        ∙ one_column Coordinate [] 0 s b.end c.value c.end (tc.means c gc) (tc.ends c gc)

    abbrev held : List ℕ
    held = a.value ∷ (next_word s line).start ∷ b.value ∷ (next_word s a.end).start ∷ c.value ∷ (next_word s b.end).start ∷ []

    values_three : values_from block_columns 0 s line ≡ held
    unfolding block_columns values_from
    values_three =
        one_value Size (Number Coordinate ∷ Number Coordinate ∷ []) 0 s line a.value a.end (ta.means a ga) (ta.ends a ga)
        ∙ ap (λ (x : List ℕ). a.value ∷ (next_word s line).start ∷ x) (one_value Coordinate (Number Coordinate ∷ []) 0 s a.end b.value b.end (tb.means b gb) (tb.ends b gb)
        ∙ ap (λ (x : List ℕ). b.value ∷ (next_word s a.end).start ∷ x) (one_value Coordinate [] 0 s b.end c.value c.end (tc.means c gc) (tc.ends c gc)))

    all_columns : take column.gap_count block_columns ≡ block_columns
    unfolding block_columns
    all_columns = refl

    is_gap : block_line s line ≡ Ok (Gap a.value b.value c.value)
    unfolding block_line block_words block_numbers
    is_gap = rw (count_three, ← words_good s line column.gap_count column.gap_count true (omega arith) refl, all_columns, read_three, values_three)

    next_is : y ≡ next_line s line
    next_is =
        tr.next y gr
        ∙ next_as s c.end line (ap (line_end s) (tc.ends c gc) ∙ word_line_end s b.end ∙ ap (line_end s) (tb.ends b gb) ∙ word_line_end s a.end ∙ line_first)

    pub gap_taken : GapTaken s line (Some (record { size = a.value; dt = b.value; dq = c.value; next = y }))
    gap_taken = record {
      is = λ x g. is_gap ∙ ap (λ (q : Quick). Ok (Gap q.size q.dt q.dq)) (same x g);
      next = λ x g. sym (ap (λ (q : Quick). q.next) (same x g)) ∙ next_is;
      size = λ x g. rw (← (ap (λ (q : Quick). q.size) (same x g))) (ta.small a ga);
      target_gap = λ x g. rw (← (ap (λ (q : Quick). q.dt) (same x g))) (tb.small b gb);
      query_gap = λ x g. rw (← (ap (λ (q : Quick). q.dq) (same x g))) (tc.small c gc);
    }
      where
        here : Quick
        here = record { size = a.value; dt = b.value; dq = c.value; next = y }

        same : (x : Quick) → Some here ≡ Some x → here ≡ x
        same x g = cc

-- the block line with the place of the next
module _ (s : List ℕ) (line k : ℕ) (some : 1 ≤ k) where
  not_none : k ≡ 0 → ⊥
  not_none e = absurd (omega arith)

  pub step_gap : (r : Option Quick) (x : Quick) → GapTaken s line r → r ≡ Some x → StepRead s line k (record { block = Ok (Gap x.size x.dt x.dq); next = x.next })
  step_gap r x t g = record {
    read = record { is = rw (← limit_ahead line k not_none) (sym (t.is x g)); room = some; size = t.size x g; target_gap = t.target_gap x g; query_gap = t.query_gap x g };
    next = λ z dt dq q. t.next x g;
  }

  pub step_last : (r : Option ℕ) (z next : ℕ) → LastTaken s line r → r ≡ Some z → StepRead s line k (record { block = Ok (Last z); next = next })
  step_last r z next t g = record {
    read = record { is = rw (← limit_ahead line k not_none) (sym (t.is z g)); room = some; size = t.size z g; target_gap = omega arith; query_gap = omega arith };
    next = λ y dt dq q. absurd (let w : ◌≡◌ {A = ℕ} 0 1 = cc in omega arith);
  }

-- a header's columns taken one after the other, and no word after them
pub head_taken : (s : List ℕ) (x : Head) → Run chain_columns s 0 x.values x.end → (r : Option ℕ) → RestSeen s x.end r → (y : ℕ) → r ≡ Some y → HeadTaken s (Some x)
unfolding chain_columns
head_taken s x run r tr y gr = record {
  count = λ z g. omega (arith, (walk_through chain_columns 0 s 0 x.end run.read).count, count_none s x.end (tr.none y gr));
  read = λ z g. rw (same z g) at run.read;
  values = λ z g. rw (same z g) at run.values;
}
  where
    same : (z : Head) → Some x ≡ Some z → x ≡ z
    same z g = cc
