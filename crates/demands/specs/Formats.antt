-- What a format is, for the demands: its rules, and the promises of its public reader and writer.
use Rattle.std.specs.Prelude.{ℕ, List, Result, ⊤}
use Rattle.ledger.specs.declared.Row.{Row}
use Rattle.ledger.specs.declared.Refusal.{Refusal}

-- two names, as bytes
pub record Names : Type 0 where
  pub first : List ℕ
  pub second : List ℕ

pub record Format : Type 1 where
  -- the record, how many blocks it has, and what the reader answers
  pub Record : Type 0
  pub blocks : Record → ℕ
  pub Answer : Type 0
  pub accepted : Record → Answer
  pub refused : Refusal → Answer
  -- the text obeys the format's page with the paper's limits and house rules, and spells this record with these rows
  pub Spells : List ℕ → Record → List Row → Type 0
  -- the bytes of a record's names in the text it was read from; the same as `text::name_in` hands them back; and the words that they stand for
  pub names : List ℕ → Record → Names
  pub handed : List ℕ → Record → Names
  pub name_words : List ℕ → Names
  -- THE READER'S PROMISE: a text, the lent table before and after, the answer
  pub Reads : List ℕ → List Row → List Row → Answer → Type 0
  -- THE RECORD CHECKER'S PROMISE: what it answers of a record with its table; and the format's rules of records, one by one, with no order of checks
  pub check : Record → List Row → Result ⊤ Refusal
  pub Rules : Record → List Row → Type 0
  -- a valid record, with the names handed in and its table: the format's rules of records, and names of bytes 33 to 126
  pub Valid : Record → Names → List Row → Type 0
  -- its standard text
  pub text : Record → Names → List Row → List ℕ
  -- THE WRITER'S PROMISE: a record, its names and its table, the lent buffer before and after, the answer
  pub Writes : Record → Names → List Row → List ℕ → List ℕ → Result ℕ Refusal → Type 0
  -- two records with the same numbers and strands, wherever their names stand
  pub SameNumbers : Record → Record → Type 0
  -- at the entries (docs/DESK.md): the kind's number, and a record as numbers
  pub kind : ℕ
  pub numbers : Record → List ℕ
