-- DEMAND 2, for a format, of what the user holds after a call: accepted exactly when it obeys, with just what the text spells; a valid record is written to its one
-- standard text, which reads back as the same record.
use Rattle.std.specs.Prelude.{ℕ, ◌≤◌, ◌<◌, ◌≡◌, ◌↔◌, List, ◌++◌, length, take, drop, Ok, Err, Result}
use Rattle.ledger.specs.Refusals.{fault_at, refusal_at, without_text}
use Rattle.ledger.specs.declared.Row.{Row}
use Rattle.ledger.specs.declared.Reason.TheVariants.{BlockRules, NoRoom}
use Rattle.ledger.specs.declared.Refusal.{Refusal}
use Rattle.ledger.specs.Limits.{text_limit}
use Rattle.demands.specs.Formats.{Names, Format}

-- the text obeys and spells the record with some rows, and there is room for them
pub record Spelt (f : Format) (s : List ℕ) (r : f.Record) (room : ℕ) : Type 0 where
  pub rows : List Row
  pub spells : f.Spells s r rows
  pub fits : f.blocks r ≤ room

-- a text was read back as a record with its names and its table: accepted; the same numbers, strands and name bytes; its rows at the front of what was lent, the others as before
pub record ReadBack (f : Format) (r : f.Record) (ns : Names) (table : List Row) (s : List ℕ) (before after : List Row) (x : f.Answer) : Type 0 where
  pub record' : f.Record
  pub is_read : x ≡ f.accepted record'
  pub same_numbers : f.SameNumbers r record'
  pub same_names : f.names s record' ≡ ns
  pub same_rows : after ≡ take (f.blocks r) table ++ drop (f.blocks r) before

pub record Demand2 (f : Format) : Type 0 where
  -- accepted, given room, exactly when the text obeys and spells the record; too little room is 11 at the text's end
  pub accepted_exactly : (s : List ℕ) (before after : List Row) (x : f.Answer) → f.Reads s before after x → (r : f.Record) → (x ≡ f.accepted r) ↔ Spelt f s r (length before)
  pub no_room : (s : List ℕ) (before after : List Row) (x : f.Answer) → f.Reads s before after x → (r : f.Record) (rows : List Row) → f.Spells s r rows → length before < f.blocks r
      → x ≡ f.refused (refusal_at (fault_at NoRoom (length s)))
  -- a text spells at most one record with its rows; as many of them as its blocks, and they stand at the front of the lent table, the others as before
  pub one_record : (s : List ℕ) (r r' : f.Record) (rows rows' : List Row) → f.Spells s r rows → f.Spells s r' rows' → (r ≡ r') × (rows ≡ rows')
  pub all_blocks : (s : List ℕ) (r : f.Record) (rows : List Row) → f.Spells s r rows → length rows ≡ f.blocks r
  pub just_rows : (s : List ℕ) (before after : List Row) (r : f.Record) (rows : List Row) → f.Reads s before after (f.accepted r) → f.Spells s r rows → after ≡ rows ++ drop (length rows) before
  -- the names, as they stand in the text and as they are handed back, are its words
  pub names_said : (s : List ℕ) (r : f.Record) (rows : List Row) → f.Spells s r rows → (f.names s r ≡ f.name_words s) × (f.handed s r ≡ f.names s r)
  -- the record checker holds exactly of the records that obey the format's rules; any breach is 9
  pub checked_exactly : (r : f.Record) (table : List Row) → (f.check r table ≡ Ok tt) ↔ f.Rules r table
  pub breached : (r : f.Record) (table : List Row) (x : Refusal) → f.check r table ≡ Err x → x ≡ without_text BlockRules
  -- what was read is valid, with its names and the table that was left
  pub left_valid : (s : List ℕ) (before after : List Row) (r : f.Record) → f.Reads s before after (f.accepted r) → f.Valid r (f.names s r) after
  -- a valid record's standard text keeps the text limit, and is written, given room, to the front of the lent buffer
  pub keeps_limit : (r : f.Record) (ns : Names) (table : List Row) → f.Valid r ns table → length (f.text r ns table) ≤ text_limit
  pub written : (r : f.Record) (ns : Names) (table : List Row) (before after : List ℕ) (x : Result ℕ Refusal) → f.Valid r ns table → f.Writes r ns table before after x
      → length (f.text r ns table) ≤ length before → (x ≡ Ok (length (f.text r ns table))) × (after ≡ f.text r ns table ++ drop (length (f.text r ns table)) before)
  -- too little room is 11
  pub no_buffer : (r : f.Record) (ns : Names) (table : List Row) (before after : List ℕ) (x : Result ℕ Refusal) → f.Valid r ns table → f.Writes r ns table before after x
      → length before < length (f.text r ns table) → x ≡ Err (without_text NoRoom)
  -- and that text reads back as the same record
  pub reads_back : (r : f.Record) (ns : Names) (table before after : List Row) (x : f.Answer) → f.Valid r ns table → f.Reads (f.text r ns table) before after x
      → f.blocks r ≤ length before → ReadBack f r ns table (f.text r ns table) before after x
