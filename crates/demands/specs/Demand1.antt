-- DEMAND 1: every call ends with an answer or a numbered refusal and its place; a refused call leaves block tables and output buffers as it found them, and a tally moves only as the
-- paper says. (No public function has a precondition; the answers of the formats, lifts and turns are a `Result` of what was asked or a refusal.)
use Rattle.std.specs.Prelude.{ℕ, ◌+◌, ◌-◌, ◌*◌, ◌%◌, ◌≤◌, ◌≡◌, List, length, Ok, Err}
use Rattle.ledger.specs.Refusals.{without_text}
use Rattle.ledger.specs.declared.Row.{Row}
use Rattle.ledger.specs.declared.Refusal.{Refusal}
use Rattle.ledger.specs.declared.Reason.{Reason}
use Rattle.ledger.specs.declared.Reason.TheVariants.{NoRoom, NoPair}
use Rattle.ledger.specs.Reasons.{reason_number}
use Rattle.bed.specs.declared.Bed.{Bed}
use Rattle.bed.specs.Read.{BedRead}
use Rattle.bed.specs.Write.{BedWrote}
use Rattle.psl.specs.declared.Psl.{Psl}
use Rattle.psl.specs.Read.{PslRead}
use Rattle.psl.specs.Write.{PslWrote}
use Rattle.chain.specs.declared.Chain.{Chain}
use Rattle.chain.specs.Read.{ChainRead}
use Rattle.chain.specs.Write.{ChainWrote}
use Rattle.number_line.specs.Numbers.{NumbersStored}
use Rattle.region.specs.declared.Tally.{Tally}
use Rattle.region.specs.declared.Region.{Region}
use Rattle.region.specs.Tallies.{grown}
use Rattle.table_lift.specs.Lifts.{RegionTallied, BatchLifted}
use Rattle.table_turn.specs.Turns.{RowsTurned}
use Rattle.turn.specs.Turns.{TurnedInto}
use Rattle.answers.specs.Answers.{Outcome, Answered}
use Rattle.entries.specs.Entries.{checked, parsed, formatted, numbers_given, converted_numbers, position_lifted, region_lifted, turned_text, tallied, BatchTold, Refusing}
use Rattle.demands.specs.Formats.{Names, Format}
use Rattle.demands.specs.Bed.{bed}
use Rattle.demands.specs.Psl.{psl}
use Rattle.demands.specs.Chain.{chain}

-- OF A FORMAT, over a lent table
pub record Refusals (f : Format) : Type 0 where
  -- a reader's place stands in the text; a writer has no text, and its place is 0
  pub reader_place : (s : List ℕ) (before after : List Row) (x : Refusal) → f.Reads s before after (f.refused x) → x.place ≤ length s
  pub writer_place : (r : f.Record) (ns : Names) (table : List Row) (before after : List ℕ) (x : Refusal) → f.Writes r ns table before after (Err x) → x.place ≡ 0
  -- the reader leaves the table, the writer the buffer
  pub table_left : (s : List ℕ) (before after : List Row) (x : Refusal) → f.Reads s before after (f.refused x) → after ≡ before
  pub buffer_left : (r : f.Record) (ns : Names) (table : List Row) (before after : List ℕ) (x : Refusal) → f.Writes r ns table before after (Err x) → after ≡ before

-- OF AN ENTRY for other languages: its answer a is 16 × a count, or 16 × a place, at most the text's end, and a number of the ledger
pub data Ended (end a : ℕ) : Type 0 where
  with_count : (n : ℕ) → a ≡ 16 * n → Ended end a
  with_place : (why : Reason) (place : ℕ) → place ≤ end → a ≡ 16 * place + reason_number why → Ended end a

-- an entry that answers o of the room it is lent: it ends so, and where its answer tells a refusal the lent bytes are as they were
pub record Entry (end : ℕ) (o : ℕ → Outcome) : Type 0 where
  pub ends : (before after : List ℕ) (a : ℕ) → Answered (o (length before)) before after a → Ended end a
  pub left : (before after : List ℕ) (a : ℕ) → Answered (o (length before)) before after a → Refusing a → after ≡ before

pub record Demand1 : Type 0 where
  -- the formats
  pub beds : Refusals bed
  pub psls : Refusals psl
  pub chains : Refusals chain
  -- the reader of a line of numbers: its place stands in the text, and it leaves the lent bytes
  pub numbers_reader : (s before after : List ℕ) (x : Refusal) → NumbersStored s before after (Err x) → (x.place ≤ length s) × (after ≡ before)
  -- the turn leaves the table for the turned rows
  pub turner : (c : Chain) (rows before after : List Row) (x : Refusal) → RowsTurned c rows before after (Err x) → (x.place ≡ 0) × (after ≡ before)
  -- the tally grows by the length, the kept and the dropped bases of a region that lifts; every refusal but 12 leaves it, and 12 adds the region's length to asked and dropped
  pub tally_grows : (t u : Tally) (c : Chain) (rows : List Row) (a e : ℕ) (r : Region) → RegionTallied t c rows a e u (Ok r) → u ≡ grown t (e - a) r.kept r.dropped
  pub tally : (t u : Tally) (c : Chain) (rows : List Row) (a e : ℕ) (x : Refusal) → RegionTallied t c rows a e u (Err x) → (x.reason ≡ NoPair → ⊥) → u ≡ t
  pub tally_none : (t u : Tally) (c : Chain) (rows : List Row) (a e : ℕ) (x : Refusal) → RegionTallied t c rows a e u (Err x) → x.reason ≡ NoPair → u ≡ grown t (e - a) 0 (e - a)
  -- a batch is refused by 11 at place 0 alone, which leaves the tally and every row
  pub batch : (t u : Tally) (c : Chain) (rows : List Row) (regions before after : List (List ℕ)) (x : Refusal) → BatchLifted t c rows regions before u after (Err x)
      → (x ≡ without_text NoRoom) × (u ≡ t) × (after ≡ before)
  -- the same functions over three flat slices: the slices, or the buffer
  pub bed_slices : (s ts ts' qs qs' zs zs' : List ℕ) (x : Refusal) → BedRead s ts ts' qs qs' zs zs' (Err x) → (ts' ≡ ts) × (qs' ≡ qs) × (zs' ≡ zs)
  pub psl_slices : (s ts ts' qs qs' zs zs' : List ℕ) (x : Refusal) → PslRead s ts ts' qs qs' zs zs' (Err x) → (ts' ≡ ts) × (qs' ≡ qs) × (zs' ≡ zs)
  pub chain_slices : (s ts ts' qs qs' zs zs' : List ℕ) (x : Refusal) → ChainRead s ts ts' qs qs' zs zs' (Err x) → (ts' ≡ ts) × (qs' ≡ qs) × (zs' ≡ zs)
  pub turn_slices : (c : Chain) (rows : List Row) (ts qs zs ts' qs' zs' : List ℕ) (x : Refusal) → TurnedInto c rows ts qs zs ts' qs' zs' (Err x) → (ts' ≡ ts) × (qs' ≡ qs) × (zs' ≡ zs)
  pub bed_buffer : (r : Bed) (chrom name ts qs zs before after : List ℕ) (x : Refusal) → BedWrote r chrom name ts qs zs before after (Err x) → after ≡ before
  pub psl_buffer : (r : Psl) (qName tName ts qs zs before after : List ℕ) (x : Refusal) → PslWrote r qName tName ts qs zs before after (Err x) → after ≡ before
  pub chain_buffer : (r : Chain) (tName qName ts qs zs before after : List ℕ) (x : Refusal) → ChainWrote r tName qName ts qs zs before after (Err x) → after ≡ before
  -- the entries
  pub check : (kind : ℕ) (s : List ℕ) (a : ℕ) → a ≡ (checked kind s).answer → Ended (length s) a
  pub parse : (kind : ℕ) (s : List ℕ) → Entry (length s) (parsed kind s)
  pub format : (kind : ℕ) (s : List ℕ) → Entry (length s) (formatted kind s)
  pub numbers : (s : List ℕ) → Entry (length s) (numbers_given s)
  pub convert : (start end size : ℕ) → Entry 0 (converted_numbers start end size)
  pub lift_position : (s : List ℕ) (p : ℕ) → Entry (length s) (position_lifted s p)
  pub lift_region : (s : List ℕ) (start end : ℕ) → Entry (length s) (region_lifted s start end)
  pub turn_text : (s : List ℕ) → Entry (length s) (turned_text s)
  -- the tally in lent bytes, which every refusal but 12 leaves
  pub tally_ends : (s : List ℕ) (start end : ℕ) (before after : List ℕ) (a : ℕ) → Answered (tallied s start end before) before after a → Ended (length s) a
  pub tally_left : (s : List ℕ) (start end : ℕ) (before after : List ℕ) (a : ℕ) → Answered (tallied s start end before) before after a → Refusing a → (a % 16 ≡ reason_number NoPair → ⊥) → after ≡ before
  -- the batch, whose refusal leaves the rows and the tally
  pub batch_ends : (s regions lent lent' before after : List ℕ) (a : ℕ) → BatchTold s regions lent lent' before after a → Ended (length s) a
  pub batch_left : (s regions lent lent' before after : List ℕ) (a : ℕ) → BatchTold s regions lent lent' before after a → Refusing a → (after ≡ before) × (lent' ≡ lent)
  -- the ledger has thirteen numbers; a count and a refusal never look alike, and a refusal tells its number and its place
  pub thirteen : (why : Reason) → (1 ≤ reason_number why) × (reason_number why ≤ 13)
  pub unlike : (n place : ℕ) (why : Reason) → 16 * n ≡ 16 * place + reason_number why → ⊥
  pub tells : (p q : ℕ) (why other : Reason) → 16 * p + reason_number why ≡ 16 * q + reason_number other → (p ≡ q) × (why ≡ other)
