-- A line read by its table of columns.
use Rattle.std.specs.Prelude.{ℕ, ◌+◌, ◌*◌, ◌≤◌, ◌≡◌, Bool, ◌||◌, List, [], ◌∷◌, length, take, get_or, leb, eqb, Ok, Err, Result, Option, Some}
use Rattle.std.proofs.lemmas.List.Edits.{sets}
use Rattle.ledger.specs.declared.Fault.{Fault}
use Rattle.ledger.specs.Limits.{block_limit}
use Rattle.text.specs.declared.Extent.{Extent}
use Rattle.text.specs.declared.Class.TheVariants.{Word}
use Rattle.text.specs.Scan.{end_of}
use Rattle.text.specs.Words.{next_word, word_count, bytes_of, line_end}
use Rattle.numbers.specs.declared.Taken.{Taken}
use Rattle.kinds.specs.declared.Kind.{Kind}
use Rattle.columns.specs.declared.Quick.{Quick}
use Rattle.kinds.specs.Kinds.{spelt, items_in, count_after, base_by}

-- a table has at most so many columns; what stands past them is not read
abbrev pub column_limit : ℕ
column_limit = 64

-- the columns of a table that are read
unfoldable pub table_of : List Kind → List Kind
table_of table = take column_limit table

abbrev pub field_of : Result ℕ Fault → Extent → Result (ℕ × Extent) Fault
field_of (Ok v) w = Ok (v, w)
field_of (Err x) w = Err (record { reason = x.reason; place = w.start + x.place })

-- the word at or after a place, read as a column of a kind: its value and where it stands
unfoldable pub field_from : Kind → ℕ → List ℕ → ℕ → Result (ℕ × Extent) Fault
field_from k n s at = field_of (spelt k n (bytes_of s (next_word s at))) (next_word s at)

abbrev pub then_columns : Result (ℕ × Extent) Fault → (ℕ → Extent → Result ℕ Fault) → Result ℕ Fault
then_columns (Ok (v, w)) rest = rest v w
then_columns (Err x) rest = Err x

-- the columns of a table from the left, n being the last count: the first refusal, or the place after the last word
unfoldable pub columns_from : List Kind → ℕ → List ℕ → ℕ → Result ℕ Fault
columns_from [] n s at = Ok at
columns_from (k ∷ ks) n s at = then_columns (field_from k n s at) (λ v w. columns_from ks (count_after k v n) s w.end)

abbrev pub then_numbers : Result (ℕ × Extent) Fault → (ℕ → Extent → List ℕ) → List ℕ
then_numbers (Ok (v, w)) rest = rest v w
then_numbers (Err x) rest = []

-- what they hold, two numbers for each column: its value, and where its word starts
unfoldable pub values_from : List Kind → ℕ → List ℕ → ℕ → List ℕ
values_from [] n s at = []
values_from (k ∷ ks) n s at = then_numbers (field_from k n s at) (λ v w. v ∷ w.start ∷ values_from ks (count_after k v n) s w.end)

-- and a table of numbers with the lists stored in it from a base on, so many numbers apart
unfoldable pub lists_by : ℕ → List Kind → ℕ → List ℕ → ℕ → ℕ → List ℕ → List ℕ
lists_by stride [] n s at base d = d
lists_by stride (k ∷ ks) n s at base d =
    then_numbers (field_from k n s at) (λ v w. lists_by stride ks (count_after k v n) s w.end (base_by stride k base) (sets d base (items_in k (bytes_of s w))))

-- with room for a record's blocks each
abbrev pub lists_from : List Kind → ℕ → List ℕ → ℕ → ℕ → List ℕ → List ℕ
lists_from ks n s at base d = lists_by block_limit ks n s at base d

-- what reading one field promises
pub record FieldRead (k : Kind) (n : ℕ) (s : List ℕ) (at base : ℕ) (before after : List ℕ) (r : Result (ℕ × Extent) Fault) : Type 0 where
  pub result : r ≡ field_from k n s at
  pub stored : after ≡ sets before base (items_in k (bytes_of s (next_word s at)))

-- what taking one field alone promises: where one is taken, it is the field that is no list's
pub record FieldTaken (k : Kind) (s : List ℕ) (at : ℕ) (r : Option (ℕ × Extent)) : Type 0 where
  pub is : (x : ℕ × Extent) → r ≡ Some x → field_from k 0 s at ≡ Ok x

-- what one walk over the columns promises
pub record ColumnsWalked (table : List Kind) (s : List ℕ) (from : ℕ) (out out' lists lists' : List ℕ) (r : Result ℕ Fault) : Type 0 where
  pub result : r ≡ columns_from table 0 s from
  pub stored : (e : ℕ) → r ≡ Ok e → out' ≡ sets out 0 (values_from table 0 s from)
  pub held : (e : ℕ) → r ≡ Ok e → lists' ≡ lists_from table 0 s from 0 lists

-- the value of column k, and where its word starts
abbrev pub value_of : List ℕ → ℕ → ℕ
value_of vs k = get_or vs (2 * k) 0

abbrev pub place_of : List ℕ → ℕ → ℕ
place_of vs k = get_or vs (2 * k + 1) 0

-- where the columns are good go on, else stop with the fault: `stop` makes the answer of a fault
abbrev pub then_next : {A : Type 0} → (Fault → A) → Result ℕ Fault → A → A
then_next stop (Ok e) rest = rest
then_next stop (Err x) rest = stop x

-- what a table holds after the columns were read, or not
abbrev pub table_after : Result ℕ Fault → List ℕ → List ℕ → List ℕ
table_after (Ok e) after before = after
table_after (Err x) after before = before

-- what reading a line by its table promises: the answer, the values and the lists; a refusal leaves both tables as they were
pub record ColumnsRead (table : List Kind) (s : List ℕ) (from : ℕ) (out out' lists lists' : List ℕ) (r : Result ℕ Fault) : Type 0 where
  pub result : r ≡ columns_from table 0 s from
  pub stored : out' ≡ table_after r (sets out 0 (values_from table 0 s from)) out
  pub held : lists' ≡ table_after r (lists_from table 0 s from 0 lists) lists

-- ---- the quick way: what it takes says what the line holds, and taking nothing says nothing
-- a short line's lists: so many numbers each
abbrev pub few_blocks : ℕ
few_blocks = 64

-- whether a line ends at a place: by a line feed, or with the text
abbrev pub is_line_end : List ℕ → ℕ → Bool
is_line_end s i = leb (length s) i || eqb (get_or s i 0) 10

-- what taking the word that begins at a place promises, where one is taken: what it spells by its kind, its end, and its numbers where it is a list
pub record WordTaken (k : Kind) (n : ℕ) (s : List ℕ) (start base : ℕ) (before after : List ℕ) (r : Option Taken) : Type 0 where
  pub ends : (x : Taken) → r ≡ Some x → x.end ≡ end_of Word s start
  pub means : (x : Taken) → r ≡ Some x → spelt k n (bytes_of s (record { start = start; end = x.end })) ≡ Ok x.value
  pub stored : (x : Taken) → r ≡ Some x → after ≡ sets before base (items_in k (bytes_of s (record { start = start; end = x.end })))
  pub long : length after ≡ length before

-- what taking a line's words promises, where they are taken: they are those of so many columns, what they hold is stored, the line ends after them
pub record QuickWalked (table : List Kind) (s : List ℕ) (from : ℕ) (out out' lists lists' : List ℕ) (r : Option Quick) : Type 0 where
  pub few : (x : Quick) → r ≡ Some x → x.count ≤ length table
  pub read : (x : Quick) → r ≡ Some x → columns_from (take x.count table) 0 s from ≡ Ok x.last
  pub words : (x : Quick) → r ≡ Some x → word_count s from ≡ x.count
  pub line : (x : Quick) → r ≡ Some x → line_end s from ≡ x.end
  pub stored : (x : Quick) → r ≡ Some x → out' ≡ sets out 0 (values_from (take x.count table) 0 s from)
  pub held : (x : Quick) → r ≡ Some x → lists' ≡ lists_by few_blocks (take x.count table) 0 s from 0 lists
