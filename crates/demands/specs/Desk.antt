-- DEMANDS 2 AND 3 AT THE ENTRIES (docs/DESK.md): the answer a of a call and the lent bytes, b before and b' after it, are those of the record that the text spells.
use Rattle.std.specs.Prelude.{ℕ, ◌+◌, ◌*◌, ◌%◌, ◌≤◌, ◌<◌, ◌≡◌, ◌↔◌, true, false, List, [], ◌∷◌, ◌++◌, length, drop, Ok, Err, Result, ℤ}
use Rattle.ledger.specs.Refusals.{without_text}
use Rattle.ledger.specs.declared.Row.{Row}
use Rattle.ledger.specs.declared.Reason.TheVariants.{BadWord, NoRoom}
use Rattle.ledger.specs.declared.Refusal.{Refusal}
use Rattle.ledger.specs.Limits.{block_limit, largest_number, largest_place}
use Rattle.ledger.specs.Reasons.{reason_number}
use Rattle.text.specs.Parts.{part_bytes}
use Rattle.blocks.specs.Rows.{targets_of, queries_of, sizes_of}
use Rattle.chain.specs.declared.Chain.{Chain}
use Rattle.chain.specs.Write.{chain_text}
use Rattle.number_line.specs.Numbers.{numbers_check}
use Rattle.number_line.specs.Rules.{NumbersText}
use Rattle.lift.specs.Positions.{lift_position}
use Rattle.region.specs.Regions.{lift_region}
use Rattle.region.specs.declared.Tally.{Tally}
use Rattle.region.specs.Batches.{regions_in, rows_bytes, room_in_bytes}
use Rattle.region.specs.declared.Region.{Region}
use Rattle.table_lift.specs.Lifts.{RegionTallied, BatchLifted}
use Rattle.numbers.specs.Ranges.{Between}
use Rattle.turn.specs.Turns.{turned, turned_rows}
use Rattle.binary.specs.Bytes.{word_size, words_bytes}
use Rattle.answers.specs.Answers.{Answered, record_numbers, record_bytes, no_room_at}
use Rattle.entries.specs.Entries.{in_word, tally_bytes, checked, parsed, formatted, numbers_given, position_lifted, region_lifted, turned_text, tallied, BatchTold}
use Rattle.demands.specs.Formats.{Format}
use Rattle.demands.specs.Bed.{bed}
use Rattle.demands.specs.Psl.{psl}
use Rattle.demands.specs.Chain.{ChainSpells, chain}

-- refused, with nothing written
pub record RefusedBy (x : Refusal) (b b' : List ℕ) (a : ℕ) : Type 0 where
  pub code : a ≡ 16 * x.place + reason_number x.reason
  pub left : b' ≡ b

-- a count, and bytes at the front of what was lent, the others as before
pub record Gives (n : ℕ) (bytes b b' : List ℕ) (a : ℕ) : Type 0 where
  pub code : a ≡ 16 * n
  pub left : b' ≡ bytes ++ drop (length bytes) b

-- so given room, and else 11 at the text's end
pub record GivenRoom (end n : ℕ) (bytes b b' : List ℕ) (a : ℕ) : Type 0 where
  pub enough : length bytes ≤ length b → Gives n bytes b b' a
  pub short : length b < length bytes → RefusedBy (no_room_at end) b b' a

-- the reader refuses the text, whatever room is lent
pub record Refuses (f : Format) (s : List ℕ) (x : Refusal) : Type 0 where
  pub before : List Row
  pub after : List Row
  pub wide : block_limit ≤ length before
  pub reads : f.Reads s before after (f.refused x)

-- the text spells some record
pub record SpellsOne (f : Format) (s : List ℕ) : Type 0 where
  pub one : f.Record
  pub rows : List Row
  pub spells : f.Spells s one rows

-- DEMAND 2 of a format: check tells the blocks, parse the numbers of the record and its rows, format the standard text, of a text that spells a record
-- and of no other; a text that is refused is refused as its reader refuses it
pub record AtDesk (f : Format) : Type 0 where
  pub checks : (s : List ℕ) (r : f.Record) (rows : List Row) → f.Spells s r rows → (a : ℕ) → a ≡ (checked f.kind s).answer → a ≡ 16 * f.blocks r
  pub parses : (s : List ℕ) (r : f.Record) (rows : List Row) → f.Spells s r rows → (b b' : List ℕ) (a : ℕ) → Answered (parsed f.kind s (length b)) b b' a
      → GivenRoom (length s) (length (record_numbers (f.numbers r) rows)) (record_bytes (f.numbers r) rows) b b' a
  pub formats : (s : List ℕ) (r : f.Record) (rows : List Row) → f.Spells s r rows → (b b' : List ℕ) (a : ℕ) → Answered (formatted f.kind s (length b)) b b' a
      → GivenRoom (length s) (length (f.text r (f.names s r) rows)) (f.text r (f.names s r) rows) b b' a
  pub check_only : (s : List ℕ) (a : ℕ) → a ≡ (checked f.kind s).answer → a % 16 ≡ 0 → SpellsOne f s
  pub parse_only : (s b b' : List ℕ) (a : ℕ) → Answered (parsed f.kind s (length b)) b b' a → a % 16 ≡ 0 → SpellsOne f s
  pub format_only : (s b b' : List ℕ) (a : ℕ) → Answered (formatted f.kind s (length b)) b b' a → a % 16 ≡ 0 → SpellsOne f s
  pub check_refused : (s : List ℕ) (x : Refusal) → Refuses f s x → (a : ℕ) → a ≡ (checked f.kind s).answer → a ≡ 16 * x.place + reason_number x.reason
  pub parse_refused : (s : List ℕ) (x : Refusal) → Refuses f s x → (b b' : List ℕ) (a : ℕ) → Answered (parsed f.kind s (length b)) b b' a → RefusedBy x b b' a
  pub format_refused : (s : List ℕ) (x : Refusal) → Refuses f s x → (b b' : List ℕ) (a : ℕ) → Answered (formatted f.kind s (length b)) b b' a → RefusedBy x b b' a

-- the text is a line of some numbers
pub record SpellsNumbers (s : List ℕ) : Type 0 where
  pub numbers : List ℕ
  pub spells : NumbersText s numbers

-- DEMAND 2 of a line of numbers: their count and their bytes, of a text that spells them and of no other; a text that is refused is refused as its checker
-- refuses it
pub record NumbersAtDesk : Type 0 where
  pub gives : (s vs : List ℕ) → NumbersText s vs → (b b' : List ℕ) (a : ℕ) → Answered (numbers_given s (length b)) b b' a → GivenRoom (length s) (length vs) (words_bytes vs) b b' a
  pub gives_only : (s b b' : List ℕ) (a : ℕ) → Answered (numbers_given s (length b)) b b' a → a % 16 ≡ 0 → SpellsNumbers s
  -- so numbers are given exactly when the text spells them and there is room; and it spells no others
  pub gives_exactly : (s vs : List ℕ) → Between 0 largest_number vs → (b b' : List ℕ) (a : ℕ) → Answered (numbers_given s (length b)) b b' a
      → Gives (length vs) (words_bytes vs) b b' a ↔ (NumbersText s vs × (word_size * length vs ≤ length b))
  pub one_list : (s vs ws : List ℕ) → NumbersText s vs → NumbersText s ws → vs ≡ ws
  pub gives_refused : (s : List ℕ) (x : Refusal) → Err x ≡ numbers_check s → (b b' : List ℕ) (a : ℕ) → Answered (numbers_given s (length b)) b b' a → RefusedBy x b b' a

-- partner and drift, a negative one as its two's complement, as a lift answers; kept, dropped and the query region
abbrev pub PositionTold : Result (ℕ × ℤ) Refusal → ℕ → List ℕ → List ℕ → ℕ → Type 0
PositionTold (Ok (q, d)) end b b' a = GivenRoom end 2 (words_bytes (q ∷ in_word d ∷ [])) b b' a
PositionTold (Err x) end b b' a = RefusedBy x b b' a

abbrev pub RegionTold : Result Region Refusal → ℕ → List ℕ → List ℕ → ℕ → Type 0
RegionTold (Ok r) end b b' a = GivenRoom end 4 (words_bytes (r.kept ∷ r.dropped ∷ r.start ∷ r.end ∷ [])) b b' a
RegionTold (Err x) end b b' a = RefusedBy x b b' a

-- a tallied region: its kept bases, or its refusal
abbrev pub TallyCode : Result Region Refusal → ℕ → Type 0
TallyCode (Ok r) a = a ≡ 16 * r.kept
TallyCode (Err x) a = a ≡ 16 * x.place + reason_number x.reason

-- the standard text of the turned chain, its names being those of the text with the sides exchanged
abbrev pub turned_in : List ℕ → Chain → List Row → List ℕ
turned_in s c rows =
    chain_text (turned c) (part_bytes s c.qName) (part_bytes s c.tName) (targets_of (turned_rows c rows)) (queries_of (turned_rows c rows)) (sizes_of (turned_rows c rows))

-- DEMAND 3 of a chain's text: its lifts, its turn and its tally are those of the chain that it spells, and no other text has any; one that is refused is
-- refused so here too
pub record ChainsAtDesk : Type 0 where
  pub positions : (s : List ℕ) (c : Chain) (rows : List Row) → ChainSpells s c rows → (p : ℕ) (b b' : List ℕ) (a : ℕ) → Answered (position_lifted s p (length b)) b b' a
      → PositionTold (lift_position c rows p) (length s) b b' a
  pub regions : (s : List ℕ) (c : Chain) (rows : List Row) → ChainSpells s c rows → (start end : ℕ) (b b' : List ℕ) (a : ℕ) → Answered (region_lifted s start end (length b)) b b' a
      → RegionTold (lift_region c rows start end) (length s) b b' a
  pub turns : (s : List ℕ) (c : Chain) (rows : List Row) → ChainSpells s c rows → (b b' : List ℕ) (a : ℕ) → Answered (turned_text s (length b)) b b' a
      → GivenRoom (length s) (length (turned_in s c rows)) (turned_in s c rows) b b' a
  -- the tally t of three 8-byte numbers, good or bad, moves as `tally_region` moves it
  pub tallies : (s : List ℕ) (c : Chain) (rows : List Row) → ChainSpells s c rows → (t u : Tally) (start end : ℕ) (x : Result Region Refusal) → RegionTallied t c rows start end u x
      → Between 0 largest_number (t.asked ∷ t.kept ∷ t.dropped ∷ []) → (rest b' : List ℕ) (a : ℕ) → Answered (tallied s start end (tally_bytes t ++ rest)) (tally_bytes t ++ rest) b' a
      → TallyCode x a × (b' ≡ tally_bytes u ++ rest)
  -- a batch of whole regions with room for a row each: its rows, and the tally that it leaves, are those of `lift_batch` with as many rows as regions
  pub batches : (s : List ℕ) (c : Chain) (rows : List Row) → ChainSpells s c rows → (t u : Tally) (regions : List ℕ) (lentRows leftRows : List (List ℕ))
      → BatchLifted t c rows (regions_in regions) lentRows u leftRows (Ok tt) → length lentRows ≡ length (regions_in regions)
      → Between 0 largest_number (t.asked ∷ t.kept ∷ t.dropped ∷ []) → length regions ≤ largest_place
      → (rest lent' b b' : List ℕ) (a : ℕ) → BatchTold s regions (tally_bytes t ++ rest) lent' b b' a → room_in_bytes regions (length b) ≡ true
      → Gives (length (regions_in regions)) (rows_bytes leftRows) b b' a × (lent' ≡ tally_bytes u ++ rest)
  -- any other is 11 at place 0, whatever the text is
  pub batch_no_room : (s regions lent lent' b b' : List ℕ) (a : ℕ) → BatchTold s regions lent lent' b b' a → room_in_bytes regions (length b) ≡ false
      → RefusedBy (without_text NoRoom) b b' a × (lent' ≡ lent)
  pub position_only : (s : List ℕ) (p : ℕ) (b b' : List ℕ) (a : ℕ) → Answered (position_lifted s p (length b)) b b' a → a % 16 ≡ 0 → SpellsOne chain s
  pub region_only : (s : List ℕ) (start end : ℕ) (b b' : List ℕ) (a : ℕ) → Answered (region_lifted s start end (length b)) b b' a → a % 16 ≡ 0 → SpellsOne chain s
  pub turn_only : (s b b' : List ℕ) (a : ℕ) → Answered (turned_text s (length b)) b b' a → a % 16 ≡ 0 → SpellsOne chain s
  pub tally_only : (s : List ℕ) (start end : ℕ) (b b' : List ℕ) (a : ℕ) → Answered (tallied s start end b) b b' a → a % 16 ≡ 0 → SpellsOne chain s
  pub batch_only : (s regions lent lent' b b' : List ℕ) (a : ℕ) → BatchTold s regions lent lent' b b' a → a % 16 ≡ 0 → SpellsOne chain s
  pub position_refused : (s : List ℕ) (x : Refusal) → Refuses chain s x → (p : ℕ) (b b' : List ℕ) (a : ℕ) → Answered (position_lifted s p (length b)) b b' a → RefusedBy x b b' a
  pub region_refused : (s : List ℕ) (x : Refusal) → Refuses chain s x → (start end : ℕ) (b b' : List ℕ) (a : ℕ) → Answered (region_lifted s start end (length b)) b b' a → RefusedBy x b b' a
  pub turn_refused : (s : List ℕ) (x : Refusal) → Refuses chain s x → (b b' : List ℕ) (a : ℕ) → Answered (turned_text s (length b)) b b' a → RefusedBy x b b' a
  pub tally_refused : (s : List ℕ) (x : Refusal) → Refuses chain s x → (start end : ℕ) (b b' : List ℕ) (a : ℕ) → Answered (tallied s start end b) b b' a → RefusedBy x b b' a
  pub batch_refused : (s : List ℕ) (x : Refusal) → Refuses chain s x → (regions lent lent' b b' : List ℕ) (a : ℕ) → BatchTold s regions lent lent' b b' a → room_in_bytes regions (length b) ≡ true
      → RefusedBy x b b' a × (lent' ≡ lent)

pub record Desk : Type 0 where
  pub beds : AtDesk bed
  pub psls : AtDesk psl
  pub chains : AtDesk chain
  pub numbers : NumbersAtDesk
  pub chain_calls : ChainsAtDesk
  -- any other kind of text is 6 at place 0
  pub other_kind : (kind : ℕ) (s : List ℕ) → (kind ≡ 1 → ⊥) → (kind ≡ 2 → ⊥) → (kind ≡ 3 → ⊥) → (b b' : List ℕ) (a : ℕ)
      → (a ≡ (checked kind s).answer → a ≡ 6) × (Answered (parsed kind s (length b)) b b' a → RefusedBy (without_text BadWord) b b' a)
      × (Answered (formatted kind s (length b)) b b' a → RefusedBy (without_text BadWord) b b' a)
