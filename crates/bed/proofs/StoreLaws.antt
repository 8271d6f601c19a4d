-- Storing the rows of a BED line that was read. Assumes nothing.
use mathlib.Core.Path.{◌≡◌, refl, sym, ◌∙◌}
use mathlib.Core.List.{List}
use Prim.Native.Nat.{ℕ, ◌-◌, ◌≤◌, ◌<◌}
use native.Mathlib.Omega.{arith}
use lib.ListN.{length, take, drop}
use lib.Seq.{sets}
use Rattle.std.specs.Prelude.{Ok, Err, Result}
use Rattle.ledger.specs.Limits.{largest_number}
use Rattle.ledger.specs.declared.Reason.TheVariants.{NoRoom}
use Rattle.ledger.specs.declared.Fault.{Fault}
use Rattle.ledger.specs.Refusals.{refusal_at, fault_at}
use Rattle.ledger.specs.declared.Refusal.{Refusal}
use Rattle.text.specs.Steps.{Staged}
use Rattle.blocks.specs.Blocks.{shifted_within, sums_within, rows_of}
use Rattle.blocks.proofs.RuleLaws.{shifted_within_lem, sums_within_lem, total_fits, fill_low}
use Rattle.blocks.proofs.StoreLaws.{room_short, room_enough, rows_left, rows_stored, rows_told}
use Rattle.blocks.proofs.TakeLaws.{part_all}
use Rattle.bed.specs.declared.Bed.{Bed}
use Rattle.bed.specs.Records.{bed_sizes, bed_starts, bed_targets, bed_queries}
use Rattle.bed.specs.Read.{on_reading, on_answer, bed_room, bed_stages, bed_answer, bed_read, BedRead}
use Rattle.bed.specs.Steps.{Blocked, Stored, RowsStored}
use Rattle.bed.proofs.ReadLaws.{checked_is}
use Rattle.bed.proofs.AcceptLaws.{accepted_fills, accepted_span}
use Rattle.bed.proofs.RowLaws.{accepted_end}

module _ (b : ℕ) (s : List ℕ) (r : Bed) (l ts qs zs : List ℕ) (held : Stored b s r l) (room : ℕ) (er : room ≡ rows_of ts qs zs) where
  abbrev answer : Result Bed Fault
  answer = bed_room s (rows_of ts qs zs) (Ok r)

  pub store_short : room < r.blockCount → RowsStored (Ok r) s ts ts qs qs zs zs (Err (fault_at NoRoom (length s)))
  store_short h =
      rows_left on_reading answer (bed_targets s) (bed_queries s) (bed_sizes s) ts qs zs (Err (fault_at NoRoom (length s))) (λ X f y. refl) (rw (← er) (room_short Err s r.blockCount room (Ok r) h))

  starts_all : take r.blockCount (take (length l - b) (drop b l)) ≡ bed_starts s r
  starts_all = rw (part_all l b) held.held.starts

  targets_are : shifted_within largest_number r.chromStart (take r.blockCount (take (length l - b) (drop b l))) ≡ bed_targets s r
  unfolding bed_targets
  targets_are =
      rw starts_all
      (shifted_within_lem largest_number r.chromStart (r.chromEnd - r.chromStart) (bed_starts s r) (fill_low 0 (r.chromEnd - r.chromStart) (bed_starts s r) (bed_sizes s r) held.fill) (omega (arith, held.span, held.high)))

  queries_are : sums_within largest_number 0 (take r.blockCount l) ≡ bed_queries s r
  unfolding bed_queries
  queries_are =
      rw held.held.sizes
      (sums_within_lem largest_number 0 (bed_sizes s r) (omega (arith, total_fits 0 (r.chromEnd - r.chromStart) (bed_starts s r) (bed_sizes s r) held.fill, held.high)))

  pub store_rows : (ts' qs' zs' : List ℕ) → r.blockCount ≤ room → ts' ≡ sets ts 0 (shifted_within largest_number r.chromStart (take r.blockCount (take (length l - b) (drop b l))))
      → qs' ≡ sets qs 0 (sums_within largest_number 0 (take r.blockCount l)) → zs' ≡ sets zs 0 (take r.blockCount l) → RowsStored (Ok r) s ts ts' qs qs' zs zs' (Ok r)
  store_rows ts' qs' zs' h et eq ez =
      rows_stored on_reading answer (bed_targets s) (bed_queries s) (bed_sizes s) ts qs zs (Ok r) r (λ X f y. refl) (rw (← er) (room_enough Err s r.blockCount room (Ok r) h)) ts' qs' zs'
      (rw targets_are at et)
      (rw queries_are at eq)
      (rw held.held.sizes at ez)

-- the stages, then the rows
module _ (b : ℕ) (s ts qs zs l : List ℕ) (x : Result Bed Fault) (staged : Staged Ok (Blocked b s) (bed_stages s) l x) where
  pub hand_fault : (y : Fault) → x ≡ Err y → RowsStored (bed_stages s) s ts ts qs qs zs zs (Err y)
  hand_fault y q =
      let e : bed_stages s ≡ Err y = sym staged.is ∙ q in
      rows_left on_reading (bed_room s (rows_of ts qs zs) (bed_stages s)) (bed_targets s) (bed_queries s) (bed_sizes s) ts qs zs (Err y) (λ X f y. refl) (rw e)

  pub hand_ready : (r : Bed) → x ≡ Ok r → Stored b s r l
  hand_ready r q =
      let e = checked_is s r (sym staged.is ∙ q) in
      record { held = staged.held r q; fill = accepted_fills s r e; span = accepted_span s r e; high = accepted_end s r e }

  pub hand_stored : (r : Bed) (ts' qs' zs' : List ℕ) (a : Result Bed Fault) → x ≡ Ok r → RowsStored (Ok r) s ts ts' qs qs' zs zs' a → RowsStored (bed_stages s) s ts ts' qs qs' zs zs' a
  hand_stored r ts' qs' zs' a q h =
      let e : bed_stages s ≡ Ok r = sym staged.is ∙ q in
      record { is = rw e h.is; targets = h.targets; queries = h.queries; sizes = h.sizes }

-- as the caller is told
told_same : (X : Type 0) (x : Result Bed Fault) (f : Bed → X) (y : X) → on_answer X (bed_answer x) f y ≡ on_reading X x f y
told_same X (Ok r) f y = refl
told_same X (Err z) f y = refl

pub read_told : (s ts ts' qs qs' zs zs' : List ℕ) (x : Result Bed Fault) (a : Result Bed Refusal) → RowsStored (bed_stages s) s ts ts' qs qs' zs zs' x → a ≡ bed_answer x → BedRead s ts ts' qs qs' zs zs' a
unfolding bed_read
read_told s ts ts' qs qs' zs zs' x a h e =
    rw e (rows_told on_reading on_answer bed_answer told_same (bed_room s (rows_of ts qs zs) (bed_stages s)) (bed_targets s) (bed_queries s) (bed_sizes s) ts ts' qs qs' zs zs' x h)

pub record_told : (s ts ts' qs qs' zs zs' : List ℕ) (x : Result Bed Fault) (r : Bed) → RowsStored (bed_stages s) s ts ts' qs qs' zs zs' x → x ≡ Ok r → BedRead s ts ts' qs qs' zs zs' (Ok r)
record_told s ts ts' qs qs' zs zs' x r h e = read_told s ts ts' qs qs' zs zs' x (Ok r) h (rw e refl)

pub fault_told : (s ts ts' qs qs' zs zs' : List ℕ) (x : Result Bed Fault) (y : Fault) → RowsStored (bed_stages s) s ts ts' qs qs' zs zs' x → x ≡ Err y → BedRead s ts ts' qs qs' zs zs' (Err (refusal_at y))
fault_told s ts ts' qs qs' zs zs' x y h e = read_told s ts ts' qs qs' zs zs' x (Err (refusal_at y)) h (rw e refl)
