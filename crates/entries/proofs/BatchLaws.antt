-- A batch on the lent bytes. Assumes nothing.
use mathlib.Core.Path.{◌≡◌, sym, ap, ◌∙◌}
use mathlib.Core.List.{List, [], ◌∷◌}
use Prim.Native.Nat.{ℕ, ◌*◌, ◌/◌, ◌≤◌, ◌<◌}
use native.Mathlib.Omega.{arith}
use lib.ListN.{length}
use borrow.Author.Tests.{le-leb, lt-leb}
use Rattle.std.specs.Prelude.{Ok, Err}
use Rattle.ledger.specs.declared.Refusal.{Refusal}
use Rattle.writing.specs.Puts.{Put}
use Rattle.binary.specs.Bytes.{word_size}
use Rattle.binary.proofs.BackLaws.{words_length}
use Rattle.region.specs.declared.Tally.{Tally}
use Rattle.region.specs.declared.Batched.{Batched}
use Rattle.region.specs.Batches.{answer_rows, rows_bytes, region_size, text_batch_check, TextBatch}
use Rattle.region.proofs.ByteLaws.{refused_none}
use Rattle.answers.specs.Answers.{told, refusal_code}
use Rattle.answers.proofs.AnswerLaws.{refused_is, put_front}
use Rattle.entries.specs.Entries.{tally_in, tally_bytes, batch_lifted, tally_kept, tally_after, BatchTold}

-- the tally
module _ (t : Tally) (b : List ℕ) where
  pub tally_none : length b < 3 * word_size → b ≡ tally_kept t b
  unfolding tally_kept
  tally_none h = rw (lt-leb (3 * word_size) (length b) h)

  pub tally_some : (b' : List ℕ) (p : ℕ) → 3 * word_size ≤ length b → Put (tally_bytes t) 0 b b' p → b' ≡ tally_kept t b
  unfolding tally_kept
  tally_some b' p h f =
      let n : length (tally_bytes t) ≡ 3 * word_size = words_length (t.asked ∷ t.kept ∷ t.dropped ∷ []) in
      let q = put_front (tally_bytes t) b b' (omega arith) f.stored in
      rw (le-leb (3 * word_size) (length b) h) (rw n at q)

-- the ways out
module _ (s regions lent b b' : List ℕ) (t : Tally) (et : t ≡ tally_in lent) (d : Batched) (done : TextBatch s t regions b b' d) where
  pub batch_refused : (x : Refusal) (r : ℕ) → d.check ≡ Err x → r ≡ refusal_code x → BatchTold s regions lent lent b b' r
  unfolding batch_lifted tally_after answer_rows rows_bytes
  batch_refused x r e q =
      let k : text_batch_check s regions (length b) ≡ Err x = sym done.check ∙ e in
      let same : b' ≡ b = rw (refused_none s regions (length b) x k) at done.answers in
      record { rows_told = rw (k, same) (refused_is x b r q); tally_left = rw k }

  pub batch_told : (lent' : List ℕ) (r : ℕ) → d.check ≡ Ok tt → lent' ≡ tally_kept d.tally lent → r ≡ told (length regions / region_size) → BatchTold s regions lent lent' b b' r
  unfolding batch_lifted tally_after
  batch_told lent' r e f q =
      let k : text_batch_check s regions (length b) ≡ Ok tt = sym done.check ∙ e in
      record { rows_told = rw (k, ← et) (record { is = q; left = done.answers }); tally_left = rw (k, ← et) (f ∙ ap (λ (u : Tally). tally_kept u lent) done.tally) }
