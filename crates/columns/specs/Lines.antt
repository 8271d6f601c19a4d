-- A line written by its table of columns: the standard text.
use Rattle.std.specs.Prelude.{ℕ, zero, suc, ◌+◌, ◌*◌, List, [], ◌∷◌, ◌++◌, get_or, Ok, Err, Result, ⊤}
use Rattle.kinds.specs.declared.Kind.{Kind}
use Rattle.kinds.specs.Kinds.{base_after}
use Rattle.kinds.specs.Words.{word_of}
use Rattle.ledger.specs.declared.Refusal.{Refusal}

-- what stands before column k: nothing before the first, then the separator
abbrev pub gap_of : ℕ → ℕ → List ℕ
gap_of zero sep = []
gap_of (suc k) sep = sep ∷ []

-- the columns from number k on; the values are two numbers for each column, and the lists room for a record's blocks each, as a reader leaves them
unfoldable pub line_from : ℕ → ℕ → List Kind → ℕ → List ℕ → List ℕ → List ℕ → List ℕ
line_from k base [] sep t vs ls = []
line_from k base (c ∷ cs) sep t vs ls = gap_of k sep ++ (word_of c t ls base (get_or vs (2 * k) 0) (get_or vs (2 * k + 1) 0) ++ line_from (suc k) (base_after c base) cs sep t vs ls)

-- a whole line without its line feed, and with it
unfoldable pub line_text : List Kind → ℕ → List ℕ → List ℕ → List ℕ → List ℕ
line_text table sep t vs ls = line_from 0 0 table sep t vs ls

unfoldable pub fed_line : List Kind → ℕ → List ℕ → List ℕ → List ℕ → List ℕ
fed_line table sep t vs ls = line_text table sep t vs ls ++ (10 ∷ [])

-- a writer: where its checks hold go on, else stop with the refusal
abbrev pub then_write : Result ⊤ Refusal → Result ℕ Refusal → Result ℕ Refusal
then_write (Ok tt) rest = rest
then_write (Err x) rest = Err x

-- the words of the columns from number k on
unfoldable pub words_from : ℕ → ℕ → List Kind → List ℕ → List ℕ → List ℕ → List (List ℕ)
words_from k base [] t vs ls = []
words_from k base (c ∷ cs) t vs ls = word_of c t ls base (get_or vs (2 * k) 0) (get_or vs (2 * k + 1) 0) ∷ words_from (suc k) (base_after c base) cs t vs ls
