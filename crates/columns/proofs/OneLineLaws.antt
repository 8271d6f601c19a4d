-- A text of one line: what each step of reading it shows, and that it is read exactly when its words spell values. Assumes nothing.
use mathlib.Core.Path.{◌≡◌, sym, ◌∙◌}
use mathlib.Core.List.{List, [], ◌∷◌}
use Prim.Native.Nat.{ℕ, ◌≤◌, min}
use native.Mathlib.Omega.{arith}
use lib.ListN.{length, length-take}
use lib.Dec.{leb}
use borrow.Author.Tests.{le-leb, leb-true}
use Rattle.ledger.specs.declared.Fault.{Fault}
use Rattle.text.specs.Checks.{then_check, text_check, last_line_check, words_check}
use Rattle.text.proofs.StageLaws.{went}
use Rattle.text.specs.declared.Extent.{Extent}
use Rattle.text.specs.Words.{word_count, next_word}
use Rattle.text.specs.Pieces.{words_of, line_of}
use Rattle.text.proofs.Laws.{last_as}
use Rattle.text.proofs.PieceLaws.{count_none}
use Rattle.text.proofs.CheckLaws.{words_good, words_hold, text_of_lem, text_is, one_of, one_is, some_text}
use Rattle.kinds.specs.declared.Kind.{Kind}
use Rattle.columns.specs.Columns.{column_limit, table_of, columns_from, values_from, ColumnsWalked}
use Rattle.columns.specs.Spells.{firsts}
use Rattle.columns.specs.OneLine.{count_check, then_last, line_read, OneLine, WordsWalked, LineWalked}
use Rattle.columns.proofs.SpellsLaws.{columns_spell, spells_read}
use Rattle.columns.proofs.Meant.{lists_in}
use Rattle.columns.proofs.WalkLaws.{walk_through}
use Rattle.std.specs.Prelude.{Ok, Err, Result, ⊤}

-- the number of words
pub count_checked : (s : List ℕ) (line n count : ℕ) (c : Result ⊤ Fault) → count ≡ word_count s line → c ≡ words_check s line count n (leb n count) → c ≡ count_check s line n
unfolding count_check
count_checked s line n count c e h = rw (← e) h

pub count_of_lem : (s : List ℕ) (line n : ℕ) → count_check s line n ≡ Ok tt → word_count s line ≡ n
unfolding count_check
count_of_lem s line n e =
    let a = words_hold s line (word_count s line) n (leb n (word_count s line)) e in
    omega (arith, a.0, leb-true n (word_count s line) a.1)

pub count_is : (s : List ℕ) (line n : ℕ) → word_count s line ≡ n → count_check s line n ≡ Ok tt
unfolding count_check
count_is s line n e = sym (words_good s line (word_count s line) n (leb n (word_count s line)) (omega arith) (le-leb n (word_count s line) (omega arith)))

-- what was found, where the number of words is good
module _ (s : List ℕ) (n : ℕ) (found : Result ℕ Fault) (c : Result ⊤ Fault) (ec : c ≡ count_check s 0 n) where
  pub first_refused : (y : Fault) → c ≡ Err y → Err y ≡ then_check Err (count_check s 0 n) found
  first_refused y q = rw (← ec, q)

  pub first_good : c ≡ Ok tt → found ≡ then_check Err (count_check s 0 n) found
  first_good q = rw (← ec, q)

-- as many columns as are read
table_length : (table : List Kind) (n : ℕ) → n ≡ min column_limit (length table) → n ≡ length (table_of table)
unfolding table_of
table_length table n e = e ∙ sym (length-take column_limit table)

-- a stage before the columns that went on
line_then : (c : Result ⊤ Fault) (rest : Result ℕ Fault) (e : ℕ) → then_check Err c rest ≡ Ok e → (c ≡ (Ok tt)) × (rest ≡ Ok e)
line_then c rest e = went Err c rest (Ok e) (λ x q. let z : ◌≡◌ {A = ℕ} 0 1 = cc in omega arith)

-- the number of words and the columns in one walk
module _ (table : List Kind) (s out out' lists lists' : List ℕ) (n : ℕ) (en : n ≡ min column_limit (length table)) (x : Result ℕ Fault) (walk : ColumnsWalked (table_of table) s 0 out out' lists lists' x) where
  words_counted : (r : Result ℕ Fault) → r ≡ then_check Err (count_check s 0 n) x → WordsWalked (table_of table) s out out' lists lists' r
  words_counted r er =
      let good : (e : ℕ) → r ≡ Ok e → x ≡ Ok e = λ e p. (line_then (count_check s 0 n) x e (sym er ∙ p)).1 in
      record {
        result = rw (← table_length table n en, ← walk.result) er;
        stored = λ e p. walk.stored e (good e p);
        held = λ e p. walk.held e (good e p);
        line = λ e p. (walk_through (table_of table) 0 s 0 e (sym walk.result ∙ good e p)).line;
      }

  pub words_refused : (y : Fault) → x ≡ Err y → (r : Result ℕ Fault) → r ≡ then_check Err (count_check s 0 n) (Err y) → WordsWalked (table_of table) s out out' lists lists' r
  words_refused y q r er = words_counted r (rw q er)

  module _ (e : ℕ) (q : x ≡ Ok e) (w : Extent) (ew : w ≡ next_word s e) where
    pub words_more : (r : Result ℕ Fault) → r ≡ then_check Err (count_check s 0 n) (Ok e) → WordsWalked (table_of table) s out out' lists lists' r
    words_more r er = words_counted r (rw q er)

    pub words_all : w.start ≡ w.end → WordsWalked (table_of table) s out out' lists lists' (Ok e)
    words_all h =
        let t = walk_through (table_of table) 0 s 0 e (sym walk.result ∙ q) in
        let k : (next_word s e).start ≡ (next_word s e).end = rw ew at h in
        let c : word_count s 0 ≡ n = omega (arith, t.count, count_none s e k, table_length table n en) in
        words_counted (Ok e) (rw (count_is s 0 n c, q))

pub ruleset words = (words_refused, words_more, words_all)

-- the whole text in one walk
line_refused : (c : Result ⊤ Fault) (x : Result ℕ Fault) (d : Result ⊤ Fault) (y : Fault) → then_check Err c x ≡ Err y → Err y ≡ then_check Err c (then_last x d)
line_refused (Ok tt) (Ok e) d y q = absurd (let z : ◌≡◌ {A = ℕ} 0 1 = cc in omega arith)
line_refused (Ok tt) (Err z) d y q = sym q
line_refused (Err z) x d y q = sym q

module _ (cs : List Kind) (s out lists out' lists' : List ℕ) (t : Result ⊤ Fault) (et : t ≡ text_check s) where
  refused : (y : Fault) → Err y ≡ line_read cs s → LineWalked cs s out out' lists lists' (Err y)
  refused y h = record {
    result = h;
    stored = λ e p. absurd (let z : ◌≡◌ {A = ℕ} 0 1 = cc in omega arith);
    held = λ e p. absurd (let z : ◌≡◌ {A = ℕ} 0 1 = cc in omega arith);
  }

  pub text_text : (x : Fault) → t ≡ Err x → LineWalked cs s out out' lists lists' (Err x)
  unfolding line_read
  text_text x q = refused x (rw (← et, q))

  module _ (q : t ≡ (Ok tt)) (x : Result ℕ Fault) (walk : WordsWalked cs s out out' lists lists' x) where
    pub text_words : (y : Fault) → x ≡ Err y → LineWalked cs s out out' lists lists' (Err y)
    unfolding line_read
    text_words y p = refused y (rw (← et, q) (line_refused (count_check s 0 (length cs)) (columns_from cs 0 s 0) (last_line_check s 0) y (sym walk.result ∙ p)))

    module _ (e : ℕ) (p : x ≡ Ok e) (c : Result ⊤ Fault) (ec : c ≡ last_line_check s e) where
      both_read : (count_check s 0 (length cs) ≡ (Ok tt)) × (columns_from cs 0 s 0 ≡ Ok e)
      both_read = line_then _ _ e (sym walk.result ∙ p)

      last_is : last_line_check s 0 ≡ c
      last_is = sym (ec ∙ last_as s e 0 (walk.line e p))

      pub text_surplus : (y : Fault) → c ≡ Err y → LineWalked cs s out out' lists lists' (Err y)
      unfolding line_read
      text_surplus y h = refused y (rw (← et, q, both_read.0, both_read.1, last_is, h))

      pub text_read : c ≡ Ok tt → LineWalked cs s out out' lists lists' (Ok e)
      unfolding line_read
      text_read h = record { result = rw (← et, q, both_read.0, both_read.1, last_is, h); stored = λ d r. walk.stored e p; held = λ d r. walk.held e p }

pub ruleset texts = (text_text, text_words, text_surplus, text_read)

-- a text of one line is read exactly when its words spell values, and then as those values
last_then : (x : Result ℕ Fault) (c : Result ⊤ Fault) (e : ℕ) → then_last x c ≡ Ok e → (x ≡ Ok e) × (c ≡ (Ok tt))
last_then (Ok d) c e q = let a = line_then c (Ok d) e q in (a.1, a.0)
last_then (Err x) c e q = absurd (let z : ◌≡◌ {A = ℕ} 0 1 = cc in omega arith)

-- what a line that is read shows
pub record Found (cs : List Kind) (s : List ℕ) (e : ℕ) : Type 0 where
  pub text : text_check s ≡ Ok tt
  pub count : word_count s 0 ≡ length cs
  pub read : columns_from cs 0 s 0 ≡ Ok e
  pub last : last_line_check s 0 ≡ Ok tt

pub line_found : (cs : List Kind) (s : List ℕ) (e : ℕ) → line_read cs s ≡ Ok e → Found cs s e
unfolding line_read
line_found cs s e q =
    let a = line_then (text_check s) _ e q in
    let b = line_then (count_check s 0 (length cs)) _ e a.1 in
    let c = last_then (columns_from cs 0 s 0) (last_line_check s 0) e b.1 in
    record { text = a.0; count = count_of_lem s 0 (length cs) b.0; read = c.0; last = c.1 }

pub found_line : (cs : List Kind) (s : List ℕ) (e : ℕ) → Found cs s e → line_read cs s ≡ Ok e
unfolding line_read
found_line cs s e f = rw (f.text, count_is s 0 (length cs) f.count, f.read, f.last)

pub one_line_of : (cs : List Kind) (s : List ℕ) (e : ℕ) → 1 ≤ length cs → line_read cs s ≡ Ok e → OneLine cs s (firsts (values_from cs 0 s 0)) (lists_in cs (words_of (line_of s)))
one_line_of cs s e some q =
    let f = line_found cs s e q in
    let t = text_of_lem s f.text in
    record {
      short = t.0;
      allowed = t.1;
      one_line = one_of s (some_text s (omega (arith, f.count))) f.last;
      count = f.count;
      spelt = columns_spell cs 0 s 0 e f.count f.read;
    }

pub record LineIs (cs : List Kind) (s vs : List ℕ) : Type 0 where
  pub end : ℕ
  pub read : line_read cs s ≡ Ok end
  pub values : firsts (values_from cs 0 s 0) ≡ vs

pub one_line_is : (cs : List Kind) (s vs : List ℕ) (ls : List (List ℕ)) → OneLine cs s vs ls → LineIs cs s vs
one_line_is cs s vs ls o =
    let r = spells_read cs 0 s 0 vs ls o.count o.spelt in
    record {
      end = r.end;
      read = found_line cs s r.end (record { text = text_is s o.short o.allowed; count = o.count; read = r.read; last = one_is s o.one_line });
      values = r.values;
    }
