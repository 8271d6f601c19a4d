-- What a format shows of itself, and demand 2 from it: one proof for any format. Assumes nothing.
use mathlib.Core.Path.{◌≡◌, sym, ap, ◌∙◌}
use mathlib.Core.Bool.{Bool, true}
use mathlib.Core.List.{List, ◌++◌}
use Prim.Native.Nat.{ℕ, ◌≤◌}
use native.Mathlib.Omega.{arith}
use lib.ListN.{length, drop}
use Rattle.std.specs.Prelude.{Ok, Result}
use Rattle.ledger.specs.Refusals.{fault_at, refusal_at, require}
use Rattle.ledger.specs.declared.Row.{Row}
use Rattle.ledger.specs.declared.Reason.TheVariants.{BlockRules, NoRoom}
use Rattle.ledger.specs.Limits.{text_limit}
use Rattle.ledger.specs.declared.Refusal.{Refusal}
use Rattle.text.specs.Checks.{refused}
use Rattle.writing.specs.Answers.{room_answer, left_after}
use Rattle.blocks.specs.Rows.{table_of}
use Rattle.rows.proofs.ReaderLaws.{Reads, read_of}
use Rattle.demands.specs.Formats.{Names, Format}
use Rattle.demands.specs.Demand2.{ReadBack, Demand2}
use Rattle.demands.proofs.RowLaws.{read_count, front_rows, self_rows, holds_if, breach_if, room_written, room_short}

pub record Shown (f : Format) : Type 1 where
  -- its text checker, its reader with some room, and the columns of rows of what is accepted, by the definitions
  pub filled : f.Answer → ℕ
  pub check_text : List ℕ → f.Answer
  pub read : List ℕ → ℕ → f.Answer
  pub targets : List ℕ → f.Record → List ℕ
  pub queries : List ℕ → f.Record → List ℕ
  pub sizes : List ℕ → f.Record → List ℕ
  pub reads : (s : List ℕ) → Reads f.accepted f.refused f.blocks filled (check_text s) (read s) (refusal_at (fault_at NoRoom (length s))) (targets s) (queries s) (sizes s)
  -- the reader's promise is that answer, and those rows in the table
  pub answered : (s : List ℕ) (before after : List Row) (x : f.Answer) → f.Reads s before after x → x ≡ read s (length before)
  pub stored : (s : List ℕ) (before after : List Row) (r : f.Record) → f.Reads s before after (f.accepted r) → after ≡ table_of (targets s r) (queries s r) (sizes s r) ++ drop (f.blocks r) before
  pub promised : (s : List ℕ) (before after : List Row) (r : f.Record) → f.accepted r ≡ read s (length before) → after ≡ table_of (targets s r) (queries s r) (sizes s r) ++ drop (f.blocks r) before
      → f.Reads s before after (f.accepted r)
  -- what a text spells is what its checker accepts, with those rows
  pub spelt_check : (s : List ℕ) (r : f.Record) (rows : List Row) → f.Spells s r rows → check_text s ≡ f.accepted r
  pub spelt_rows : (s : List ℕ) (r : f.Record) (rows : List Row) → f.Spells s r rows → rows ≡ table_of (targets s r) (queries s r) (sizes s r)
  pub spelt_of : (s : List ℕ) (r : f.Record) → check_text s ≡ f.accepted r → f.Spells s r (table_of (targets s r) (queries s r) (sizes s r))
  pub one : (r r' : f.Record) → f.accepted r ≡ f.accepted r' → r ≡ r'
  pub names_said : (s : List ℕ) (r : f.Record) (rows : List Row) → f.Spells s r rows → (f.names s r ≡ f.name_words s) × (f.handed s r ≡ f.names s r)
  pub left_valid : (s : List ℕ) (before after : List Row) (r : f.Record) → f.Reads s before after (f.accepted r) → f.Valid r (f.names s r) after
  -- its test of a record with a table
  pub valid : f.Record → List Row → Bool
  pub checks : (r : f.Record) (table : List Row) → f.check r table ≡ require (valid r table) (refused BlockRules) (Ok tt)
  pub rules_of : (r : f.Record) (table : List Row) → valid r table ≡ true → f.Rules r table
  pub rules_is : (r : f.Record) (table : List Row) → f.Rules r table → valid r table ≡ true
  -- a valid record's text is short, is written where there is room, and reads back
  pub short : (r : f.Record) (ns : Names) (table : List Row) → f.Valid r ns table → length (f.text r ns table) ≤ text_limit
  pub writes : (r : f.Record) (ns : Names) (table : List Row) (before after : List ℕ) (x : Result ℕ Refusal) → f.Valid r ns table → f.Writes r ns table before after x
      → (x ≡ room_answer (length (f.text r ns table)) (length before)) × (after ≡ left_after x (f.text r ns table) before)
  pub reads_back : (r : f.Record) (ns : Names) (table before after : List Row) (x : f.Answer) → f.Valid r ns table → f.Reads (f.text r ns table) before after x → f.blocks r ≤ length before
      → ReadBack f r ns table (f.text r ns table) before after x

module _ (f : Format) (k : Shown f) where
  abbrev rows_in : List ℕ → f.Record → List Row
  rows_in s r = table_of (k.targets s r) (k.queries s r) (k.sizes s r)

  row_count : (s : List ℕ) (r : f.Record) (rows : List Row) → f.Spells s r rows → length (rows_in s r) ≡ f.blocks r
  row_count s r rows p = read_count (k.reads s) r (k.spelt_check s r rows p)

  all_blocks : (s : List ℕ) (r : f.Record) (rows : List Row) → f.Spells s r rows → length rows ≡ f.blocks r
  all_blocks s r rows p = ap length (k.spelt_rows s r rows p) ∙ row_count s r rows p

  -- the record that a text spells is valid, with just the rows that it spells
  pub spelt_valid : (s : List ℕ) (r : f.Record) (rows : List Row) → f.Spells s r rows → f.Valid r (f.names s r) rows
  spelt_valid s r rows p =
      let ok = k.spelt_check s r rows p in
      let fits : f.blocks r ≤ length rows = omega (arith, all_blocks s r rows p) in
      let same = self_rows rows (rows_in s r) (f.blocks r) (k.spelt_rows s r rows p) (row_count s r rows p) in
      k.left_valid s rows rows r (k.promised s rows rows r (sym ((k.reads s).roomy r (length rows) ok fits)) same)

  is_written : (r : f.Record) (ns : Names) (table : List Row) (before after : List ℕ) (x : Result ℕ Refusal) → f.Valid r ns table → f.Writes r ns table before after x
      → length (f.text r ns table) ≤ length before → (x ≡ Ok (length (f.text r ns table))) × (after ≡ f.text r ns table ++ drop (length (f.text r ns table)) before)
  is_written r ns table before after x ok w h =
      let text = f.text r ns table in
      let p = k.writes r ns table before after x ok w in
      let e : x ≡ Ok (length text) = p.0 ∙ room_written text (length before) (k.short r ns table ok) h in
      (e, p.1 ∙ ap (λ (y : Result ℕ Refusal). left_after y text before) e)

  -- DEMAND 2
  pub demand2_of : Demand2 f
  demand2_of = record {
    accepted_exactly = λ s before after x h r. (
      λ e. let o = read_of (k.reads s) (length before) r (sym (k.answered s before after x h) ∙ e) in record { rows = rows_in s r; spells = k.spelt_of s r o.0; fits = o.1 },
      λ p. k.answered s before after x h ∙ (k.reads s).roomy r (length before) (k.spelt_check s r p.rows p.spells) p.fits,
    );
    no_room = λ s before after x h r rows p l. k.answered s before after x h ∙ (k.reads s).short r (length before) (k.spelt_check s r rows p) l;
    one_record = λ s r r' rows rows' p q.
        let e = k.one r r' (sym (k.spelt_check s r rows p) ∙ k.spelt_check s r' rows' q) in
        (e, k.spelt_rows s r rows p ∙ ap (rows_in s) e ∙ sym (k.spelt_rows s r' rows' q));
    all_blocks = all_blocks;
    just_rows = λ s before after r rows h p. front_rows rows (rows_in s r) before after (f.blocks r) (k.spelt_rows s r rows p) (row_count s r rows p) (k.stored s before after r h);
    names_said = k.names_said;
    checked_exactly = λ r table. (λ h. k.rules_of r table (holds_if (k.valid r table) (sym (k.checks r table) ∙ h)), λ w. k.checks r table ∙ rw (k.rules_is r table w));
    breached = λ r table x h. breach_if (k.valid r table) x (sym (k.checks r table) ∙ h);
    left_valid = k.left_valid;
    keeps_limit = k.short;
    written = is_written;
    no_buffer = λ r ns table before after x ok w h. (k.writes r ns table before after x ok w).0 ∙ room_short (f.text r ns table) (length before) (k.short r ns table ok) h;
    reads_back = k.reads_back;
  }
