-- The numbers of a text of one line: from what its reader promises to the entry's answer. Assumes nothing.
use mathlib.Core.Path.{◌≡◌, refl}
use mathlib.Core.Bool.{Bool, true, false, cond}
use mathlib.Core.List.{List}
use Prim.Native.Nat.{ℕ, ◌*◌}
use native.Mathlib.Omega.{arith}
use lib.ListN.{length}
use lib.Dec.{leb}
use borrow.Author.Tests.{leb-true, leb-false}
use Rattle.std.specs.Prelude.{Ok, Err, Result}
use Rattle.ledger.specs.Refusals.{fault_at, refusal_at}
use Rattle.ledger.specs.declared.Reason.TheVariants.{NoRoom}
use Rattle.ledger.specs.declared.Refusal.{Refusal}
use Rattle.ledger.specs.declared.Fault.{Fault}
use Rattle.binary.specs.Bytes.{word_size}
use Rattle.number_line.specs.Numbers.{numbers_in, numbers_answer, numbers_stages, numbers_check, then_room, numbers_read, bytes_after, NumbersStored}
use Rattle.number_line.proofs.LineLaws.{numbers_of, stages_is}
use Rattle.answers.specs.Answers.{told, refusal_code, Answered, numbered, no_room_at}
use Rattle.answers.proofs.AnswerLaws.{refused_is, numbers_short, numbers_put}
use Rattle.entries.specs.Entries.{of_numbers, numbers_given}

-- the one number of an answer
abbrev code_of : Result ℕ Refusal → ℕ
code_of (Ok n) = told n
code_of (Err x) = refusal_code x

module _ (s b b' : List ℕ) (x : Result ℕ Refusal) (r : ℕ) (left : b' ≡ bytes_after x (numbers_in s) b) (code : r ≡ code_of x) where
  -- so many good numbers, with room for them or without
  with_room : (t : Bool) → leb (word_size * length (numbers_in s)) (length b) ≡ t → x ≡ numbers_answer (cond t (Ok (length (numbers_in s))) (Err (fault_at NoRoom (length s))))
      → Answered (numbered (no_room_at (length s)) (length b) (numbers_in s)) b b' r
  with_room true e q =
      let h = leb-true (word_size * length (numbers_in s)) (length b) e in
      numbers_put (no_room_at (length s)) (numbers_in s) b b' r (omega arith) (rw q at left) (rw q at code)
  with_room false e q =
      let h = leb-false (word_size * length (numbers_in s)) (length b) e in
      let same : b' ≡ b = rw q at left in
      rw same (numbers_short (no_room_at (length s)) (numbers_in s) b r (omega arith) (rw q at code))

  after_stages : (a : Result ℕ Fault) → numbers_stages s ≡ a → x ≡ numbers_answer (then_room a (length s) (length b)) → Answered (of_numbers (numbers_answer a) (numbered (no_room_at (length s)) (length b) (numbers_in s))) b b' r
  after_stages (Ok n) e q = with_room (leb (word_size * length (numbers_in s)) (length b)) refl (rw (numbers_of s n (stages_is s n e)).1 at q)
  after_stages (Err y) e q =
      let same : b' ≡ b = rw q at left in
      rw same (refused_is (refusal_at y) b r (rw q at code))

  told_so : x ≡ numbers_read s (length b) → Answered (numbers_given s (length b)) b b' r
  unfolding numbers_read numbers_check numbers_given
  told_so q = after_stages (numbers_stages s) refl q

-- refused, or so many numbers
module _ (s b b' : List ℕ) (x : Result ℕ Refusal) (r : ℕ) (f : NumbersStored s b b' x) where
  pub numbers_refused : (y : Refusal) → x ≡ Err y → r ≡ refusal_code y → Answered (numbers_given s (length b)) b b' r
  numbers_refused y e q = told_so s b b' x r f.left (rw e q) f.is

  pub numbers_accepted : (n : ℕ) → x ≡ Ok n → r ≡ told n → Answered (numbers_given s (length b)) b b' r
  numbers_accepted n e q = told_so s b b' x r f.left (rw e q) f.is
