-- The turn of a chain's text. Assumes nothing.
use mathlib.Core.Path.{◌≡◌, sym, ap, ◌∙◌}
use mathlib.Core.List.{List, map}
use Prim.Native.Nat.{ℕ}
use native.Mathlib.Omega.{arith}
use lib.ListN.{length, take, length-map, length-take}
use Rattle.std.specs.Prelude.{Ok, Err, Result}
use Rattle.ledger.specs.declared.Row.{Row}
use Rattle.ledger.specs.declared.Refusal.{Refusal}
use Rattle.ledger.specs.Limits.{block_limit}
use Rattle.blocks.specs.Rows.{table_of, targets_of, queries_of, sizes_of}
use Rattle.chain.specs.declared.Chain.{Chain}
use Rattle.lift.specs.Accepted.{Wide, used}
use Rattle.lift.proofs.AcceptLaws.{accepted_rules}
use Rattle.turn.specs.Turns as turns
use Rattle.turn.proofs.RowLaws.{turned_length}
use Rattle.turn.proofs.TurnLaws.{Turnable, turnable}
use Rattle.answers.specs.Answers.{refusal_code, Answered}
use Rattle.entries.specs.Records.{Staging, Held, ChainStaged, TurnStaged}
use Rattle.entries.specs.Entries.{chain_written, turn_written, turned_text}
use Rattle.answers.proofs.AnswerLaws.{refused_is}
use Rattle.entries.proofs.StageLaws.{room_is, held_front}
use Rattle.entries.proofs.EntryLaws.{wide, chain_accepted}

-- a turn into room for any record's blocks
module _ (c : Chain) (rows : List Row) (b₁ b₂ b₃ ts qs zs : List ℕ) (x : Result Chain Refusal) (f : turns.TurnedInto c rows b₁ b₂ b₃ ts qs zs x) (st : Staging b₁ b₂ b₃) where
  abbrev new : List Row
  new = turns.turned_rows c rows

  answer_is : x ≡ turns.turn c rows block_limit
  answer_is = rw (room_is b₁ b₂ b₃ st) at f.is

  module _ (d : Chain) (e : x ≡ Ok d) where
    able : Turnable c rows block_limit d
    able = turnable c rows block_limit d (sym e ∙ answer_is)

    same_count : d.blockCount ≡ c.blockCount
    unfolding turns.turned
    same_count = ap (λ (a : Chain). a.blockCount) able.is

    new_count : length new ≡ d.blockCount
    unfolding turns.turned_rows
    new_count =
        turned_length c.qStrand c.tSize c.qSize (used c rows)
        ∙ omega (arith, length-take c.blockCount rows, (accepted_rules c rows able.ok).in_table, same_count)

    column_count : (g : Row → ℕ) → length (map g new) ≡ d.blockCount
    column_count g = length-map new g ∙ new_count

    turned_held : Held d.blockCount (targets_of new) (queries_of new) (sizes_of new) ts qs zs
    turned_held =
        rw (f.targets, f.queries, f.sizes, e)
        (held_front b₁ b₂ b₃ st d.blockCount (targets_of new) (queries_of new) (sizes_of new)
        (record { few = omega (arith, able.fits, same_count); targets = column_count _; queries = column_count _; sizes = column_count _ }))

  pub turned_staged : TurnStaged c rows ts qs zs x
  turned_staged = record { is = answer_is; held = turned_held }

module _ (s : List ℕ) (c : Chain) (rows : List Row) (ts qs zs b : List ℕ) (x : Result Chain Refusal) (f : TurnStaged c rows ts qs zs x) where
  pub turned_refused : (y : Refusal) (r : ℕ) → x ≡ Err y → r ≡ refusal_code y → Answered (turn_written s c rows (length b)) b b r
  unfolding turn_written
  turned_refused y r e q = rw (sym f.is ∙ e) (refused_is y b r q)

  pub turned_written : (d : Chain) (b' : List ℕ) (r : ℕ) → x ≡ Ok d
      → Answered (chain_written s d (take d.blockCount ts) (take d.blockCount qs) (take d.blockCount zs) (length b)) b b' r → Answered (turn_written s c rows (length b)) b b' r
  unfolding turn_written
  turned_written d b' r e g = rw (sym f.is ∙ e, ← (f.held d e).targets, ← (f.held d e).queries, ← (f.held d e).sizes) g

pub turned_wide : (c : Chain) (rows : List Row) (ts qs zs : List ℕ) (x : Result Chain Refusal) → TurnStaged c rows ts qs zs x → (d : Chain) → x ≡ Ok d → Wide d.blockCount ts qs zs
turned_wide c rows ts qs zs x f d e = wide d.blockCount _ _ _ ts qs zs (f.held d e)

pub turn_answered : (s ts qs zs b : List ℕ) (x : Result Chain Refusal) → ChainStaged s ts qs zs x → (a : Chain) → x ≡ Ok a → (b' : List ℕ) (r : ℕ)
    → Answered (turn_written s a (table_of (take a.blockCount ts) (take a.blockCount qs) (take a.blockCount zs)) (length b)) b b' r → Answered (turned_text s (length b)) b b' r
unfolding turned_text
turn_answered s ts qs zs b x f a e b' r g = chain_accepted s ts qs zs b x f (λ c l. turn_written s c l (length b)) a b' r e g
