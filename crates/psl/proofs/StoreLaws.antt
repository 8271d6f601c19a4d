-- Storing the rows of a PSL line that is read. Assumes nothing.
use mathlib.Core.Path.{◌≡◌, refl}
use mathlib.Core.List.{List}
use Prim.Native.Nat.{ℕ, ◌-◌, ◌*◌, ◌≤◌, ◌<◌}
use lib.ListN.{length, take, drop}
use lib.Seq.{sets}
use Rattle.ledger.specs.Limits.{block_limit}
use Rattle.ledger.specs.declared.Reason.TheVariants.{NoRoom}
use Rattle.ledger.specs.declared.Fault.{Fault}
use Rattle.ledger.specs.Refusals.{fault_at}
use Rattle.text.specs.Checks.{then_check, room_check}
use Rattle.text.specs.Steps.{Staged}
use Rattle.blocks.specs.Blocks.{rows_of}
use Rattle.blocks.proofs.StoreLaws as store
use Rattle.blocks.proofs.TakeLaws.{part_all}
use Rattle.psl.specs.declared.Psl.{Psl}
use Rattle.psl.specs.Records.{psl_sizes, psl_queries, psl_targets}
use Rattle.psl.specs.Read.{psl_stages, room_stages, psl_answer, on_reading, on_answer, psl_read, Listed, PslRead}
use Rattle.psl.specs.Steps.{RowsStored}
use Rattle.psl.proofs.AnswerLaws.{told_same}
use Rattle.std.specs.Prelude.{Ok, Err, Result}
use Rattle.ledger.specs.declared.Refusal.{Refusal}

-- the room decides; the rows are the lists of the working room
module _ (s : List ℕ) (r : Psl) (l ts qs zs : List ℕ) (held : Listed s r l) (room : ℕ) (er : room ≡ rows_of ts qs zs) where
  abbrev answer : Result Psl Fault
  answer = then_check Err (room_check s r.blockCount (rows_of ts qs zs)) (Ok r)

  pub rows_short : room < r.blockCount → RowsStored answer s ts ts qs qs zs zs (Err (fault_at NoRoom (length s)))
  rows_short h =
      store.rows_left on_reading answer (λ (b : Psl). psl_targets s) (λ (b : Psl). psl_queries s) (λ (b : Psl). psl_sizes s) ts qs zs (Err (fault_at NoRoom (length s))) (λ X f y. refl)
      (store.room_short Err s r.blockCount (rows_of ts qs zs) (Ok r) (rw er at h))

  pub rows_stored : (ts' qs' zs' : List ℕ) → r.blockCount ≤ room → ts' ≡ sets ts 0 (take r.blockCount (take (length l - 2 * block_limit) (drop (2 * block_limit) l)))
      → qs' ≡ sets qs 0 (take r.blockCount (take (length l - block_limit) (drop block_limit l))) → zs' ≡ sets zs 0 (take r.blockCount l) → RowsStored answer s ts ts' qs qs' zs zs' (Ok r)
  rows_stored ts' qs' zs' h et eq ez =
      store.rows_stored on_reading answer (λ (b : Psl). psl_targets s) (λ (b : Psl). psl_queries s) (λ (b : Psl). psl_sizes s) ts qs zs (Ok r) r (λ X f y. refl)
      (store.room_enough Err s r.blockCount (rows_of ts qs zs) (Ok r) (rw er at h)) ts' qs' zs'
      (rw (et, part_all l (2 * block_limit), held.targets))
      (rw (eq, part_all l block_limit, held.queries))
      (rw (ez, held.sizes))

-- the checks, then the rows
module _ (s ts qs zs l : List ℕ) (x : Result Psl Fault) (staged : Staged Ok (Listed s) (psl_stages s) l x) where
  pub read_stops : (y : Fault) → x ≡ Err y → RowsStored (room_stages s (rows_of ts qs zs)) s ts ts qs qs zs zs (Err y)
  read_stops y q =
      store.rows_left on_reading (room_stages s (rows_of ts qs zs)) (λ (b : Psl). psl_targets s) (λ (b : Psl). psl_queries s) (λ (b : Psl). psl_sizes s) ts qs zs (Err y) (λ X f z. refl)
      (rw (← staged.is, q))

  pub read_held : (r : Psl) → x ≡ Ok r → Listed s r l
  read_held r q = staged.held r q

  pub read_stored : (r : Psl) (ts' qs' zs' : List ℕ) (a : Result Psl Fault) → x ≡ Ok r → RowsStored (then_check Err (room_check s r.blockCount (rows_of ts qs zs)) (Ok r)) s ts ts' qs qs' zs zs' a
      → RowsStored (room_stages s (rows_of ts qs zs)) s ts ts' qs qs' zs zs' a
  read_stored r ts' qs' zs' a q h = record { is = rw (← staged.is, q) h.is; targets = h.targets; queries = h.queries; sizes = h.sizes }

-- and what the caller is told
pub read_told : (s ts ts' qs qs' zs zs' : List ℕ) (x : Result Psl Fault) (a : Result Psl Refusal) → RowsStored (room_stages s (rows_of ts qs zs)) s ts ts' qs qs' zs zs' x → a ≡ psl_answer x → PslRead s ts ts' qs qs' zs zs' a
unfolding psl_read
read_told s ts ts' qs qs' zs zs' x a h e =
    rw e (store.rows_told on_reading on_answer psl_answer told_same (room_stages s (rows_of ts qs zs)) (λ (b : Psl). psl_targets s) (λ (b : Psl). psl_queries s) (λ (b : Psl). psl_sizes s) ts ts' qs qs' zs zs' x h)
