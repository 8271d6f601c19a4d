-- A writer that tests whether a count fits, then so many first rows, and whose text is made of those rows: on the rows that are staged it answers and leaves
-- what it does on the table. Assumes nothing.
use mathlib.Core.Path.{◌≡◌, refl, sym, ap, ◌∙◌}
use mathlib.Core.Bool.{Bool, true, false}
use mathlib.Core.List.{List}
use Prim.Native.Nat.{ℕ, ◌≤◌}
use lib.ListN.{length, take}
use lib.Dec.{leb}
use borrow.Author.Tests.{leb-true}
use Rattle.ledger.specs.declared.Row.{Row}
use Rattle.ledger.specs.declared.Refusal.{Refusal}
use Rattle.ledger.specs.declared.Reason.TheVariants.{BlockRules}
use Rattle.ledger.specs.Refusals.{require}
use Rattle.text.specs.Checks.{refused}
use Rattle.text.proofs.TextLaws.{both}
use Rattle.writing.specs.Answers.{room_answer, left_after}
use Rattle.blocks.specs.Blocks.{rows_of, count_fits}
use Rattle.blocks.specs.Rows.{targets_of, queries_of, sizes_of}
use Rattle.rows.proofs.StagingLaws.{cut_rows, rows_cut}
use Rattle.std.specs.Prelude.{Err, Result, ⊤}

module _ (n : ℕ) (rest : List ℕ → List ℕ → List ℕ → Result ⊤ Refusal) (text : List ℕ → List ℕ → List ℕ → List ℕ) (next : Result ⊤ Refusal → Result ℕ Refusal → Result ℕ Refusal)
    (stops : (x : Refusal) (w : Result ℕ Refusal) → next (Err x) w ≡ Err x)
    (front : (ts qs zs : List ℕ) → 1 ≤ n → text ts qs zs ≡ text (take n ts) (take n qs) (take n zs)) where
  -- the writer, and what it leaves in a buffer
  abbrev pub written_lem : List ℕ → List ℕ → List ℕ → ℕ → Result ℕ Refusal
  written_lem ts qs zs room = next (require (count_fits n (rows_of ts qs zs)) (refused BlockRules) (rest (take n ts) (take n qs) (take n zs))) (room_answer (length (text ts qs zs)) room)

  abbrev pub left : List ℕ → List ℕ → List ℕ → List ℕ → List ℕ
  left before ts qs zs = left_after (written_lem ts qs zs (length before)) (text ts qs zs) before

  -- the same, as they look at the rows in use
  abbrev seen : ℕ → Bool → List ℕ → List ℕ → List ℕ → Result ℕ Refusal
  seen room t a b c = next (require t (refused BlockRules) (rest a b c)) (room_answer (length (text a b c)) room)

  abbrev left_seen : List ℕ → Bool → List ℕ → List ℕ → List ℕ → List ℕ
  left_seen before t a b c = left_after (seen (length before) t a b c) (text a b c) before

  blind : (room : ℕ) (a b c d e f : List ℕ) → seen room false a b c ≡ seen room false d e f
  blind room a b c d e f = stops _ _ ∙ sym (stops _ _)

  unchanged : (before a b c : List ℕ) → left_seen before false a b c ≡ before
  unchanged before a b c = ap (λ (y : Result ℕ Refusal). left_after y (text a b c) before) (stops _ _)

  module _ (ts qs zs : List ℕ) where
    abbrev fits : Bool
    fits = count_fits n (rows_of ts qs zs)

    some : fits ≡ true → 1 ≤ n
    some k = leb-true 1 n (both (leb 1 n) _ k).0

    written_seen : (room : ℕ) → written_lem ts qs zs room ≡ seen room fits (take n ts) (take n qs) (take n zs)
    written_seen room = go fits refl
      where
        go : (t : Bool) → fits ≡ t → written_lem ts qs zs room ≡ seen room fits (take n ts) (take n qs) (take n zs)
        go true k = rw (← (front ts qs zs (some k)))
        go false k = rw k (stops _ _ ∙ sym (stops _ _))

    left_seen_lem : (before : List ℕ) → left before ts qs zs ≡ left_seen before fits (take n ts) (take n qs) (take n zs)
    left_seen_lem before = go fits refl
      where
        go : (t : Bool) → fits ≡ t → left before ts qs zs ≡ left_seen before fits (take n ts) (take n qs) (take n zs)
        go true k = rw (← (front ts qs zs (some k)))
        go false k =
            let r : left_after (next (require false (refused BlockRules) (rest (take n ts) (take n qs) (take n zs))) (room_answer (length (text ts qs zs)) (length before))) (text ts qs zs) before ≡ before =
            ap (λ (y : Result ℕ Refusal). left_after y (text ts qs zs) before) (stops _ _) in
            rw k (r ∙ sym (unchanged before (take n ts) (take n qs) (take n zs)))

  module _ (rows : List Row) where
    pub written_cut : (room : ℕ) → written_lem (targets_of (cut_rows rows)) (queries_of (cut_rows rows)) (sizes_of (cut_rows rows)) room ≡ written_lem (targets_of rows) (queries_of rows) (sizes_of rows) room
    written_cut room =
        written_seen (targets_of (cut_rows rows)) (queries_of (cut_rows rows)) (sizes_of (cut_rows rows)) room ∙ rows_cut (seen room) (blind room) n rows
        ∙ sym (written_seen (targets_of rows) (queries_of rows) (sizes_of rows) room)

    left_cut : (before : List ℕ) → left before (targets_of (cut_rows rows)) (queries_of (cut_rows rows)) (sizes_of (cut_rows rows)) ≡ left before (targets_of rows) (queries_of rows) (sizes_of rows)
    left_cut before =
        left_seen_lem (targets_of (cut_rows rows)) (queries_of (cut_rows rows)) (sizes_of (cut_rows rows)) before
        ∙ rows_cut (left_seen before) (λ a b c d e f. unchanged before a b c ∙ sym (unchanged before d e f)) n rows ∙ sym (left_seen_lem (targets_of rows) (queries_of rows) (sizes_of rows) before)

    pub kept_cut : (before after : List ℕ) (x : Result ℕ Refusal) → x ≡ written_lem (targets_of (cut_rows rows)) (queries_of (cut_rows rows)) (sizes_of (cut_rows rows)) (length before)
        → after ≡ left_after x (text (targets_of (cut_rows rows)) (queries_of (cut_rows rows)) (sizes_of (cut_rows rows))) before
        → after ≡ left_after x (text (targets_of rows) (queries_of rows) (sizes_of rows)) before
    kept_cut before after x e h =
        h ∙ ap (λ (y : Result ℕ Refusal). left_after y (text (targets_of (cut_rows rows)) (queries_of (cut_rows rows)) (sizes_of (cut_rows rows))) before) e ∙ left_cut before
        ∙ ap (λ (y : Result ℕ Refusal). left_after y (text (targets_of rows) (queries_of rows) (sizes_of rows)) before) (sym (e ∙ written_cut (length before)))
