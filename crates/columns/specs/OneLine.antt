-- A text of one line with as many words as its table has columns: what PSL is, and what other one-line formats are.
use Rattle.std.specs.Prelude.{ℕ, ◌≤◌, ◌≡◌, List, [], ◌∷◌, length, leb, Ok, Err, Result, ⊤}
use Rattle.std.proofs.lemmas.List.Edits.{sets}
use Rattle.ledger.specs.Limits.{text_limit}
use Rattle.text.specs.declared.Class.TheVariants.{Allowed}
use Rattle.text.specs.Scan.{run}
use Rattle.text.specs.Checks.{then_check, text_check, last_line_check, words_check}
use Rattle.text.specs.Pieces.{lines_of, line_of, words_of}
use Rattle.text.specs.Words.{word_count, line_end}
use Rattle.kinds.specs.declared.Kind.{Kind}
use Rattle.columns.specs.Columns.{columns_from, values_from, lists_from}
use Rattle.columns.specs.Spells.{Spells}
use Rattle.ledger.specs.declared.Fault.{Fault}

-- the line that begins at a place has n words: more at the first surplus word, fewer at the line's end (2)
unfoldable pub count_check : List ℕ → ℕ → ℕ → Result ⊤ Fault
count_check s line n = words_check s line (word_count s line) n (leb n (word_count s line))

-- where the columns are good, a check after them
abbrev pub then_last : Result ℕ Fault → Result ⊤ Fault → Result ℕ Fault
then_last (Ok e) c = then_check Err c (Ok e)
then_last (Err x) c = Err x

-- the checks in the ledger's order: length and bytes, the number of words, the words from the left, a surplus line
unfoldable pub line_read : List Kind → List ℕ → Result ℕ Fault
line_read cs s =
    then_check Err (text_check s)
    (then_check Err (count_check s 0 (length cs))
    (then_last (columns_from cs 0 s 0) (last_line_check s 0)))

-- the same with no order of checks: the words of the one line spell the values vs and the lists ls
pub record OneLine (cs : List Kind) (s vs : List ℕ) (ls : List (List ℕ)) : Type 0 where
  pub short : length s ≤ text_limit
  pub allowed : run Allowed s ≡ length s
  pub one_line : lines_of s ≡ line_of s ∷ []
  pub count : word_count s 0 ≡ length cs
  pub spelt : Spells cs 0 (words_of (line_of s)) vs ls

-- the number of words and the columns in one walk: only an answer that is good says what the tables hold, and that it
-- stands on the first line
pub record WordsWalked (cs : List Kind) (s out out' lists lists' : List ℕ) (r : Result ℕ Fault) : Type 0 where
  pub result : r ≡ then_check Err (count_check s 0 (length cs)) (columns_from cs 0 s 0)
  pub stored : (e : ℕ) → r ≡ Ok e → out' ≡ sets out 0 (values_from cs 0 s 0)
  pub held : (e : ℕ) → r ≡ Ok e → lists' ≡ lists_from cs 0 s 0 0 lists
  pub line : (e : ℕ) → r ≡ Ok e → line_end s e ≡ line_end s 0

-- and the whole text
pub record LineWalked (cs : List Kind) (s out out' lists lists' : List ℕ) (r : Result ℕ Fault) : Type 0 where
  pub result : r ≡ line_read cs s
  pub stored : (e : ℕ) → r ≡ Ok e → out' ≡ sets out 0 (values_from cs 0 s 0)
  pub held : (e : ℕ) → r ≡ Ok e → lists' ≡ lists_from cs 0 s 0 0 lists
