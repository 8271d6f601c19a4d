-- Laws of the answers: codes, and numbers put at the front of what was lent. Assumes nothing.
use mathlib.Core.Path.{◌≡◌, refl, sym, ◌∙◌}
use mathlib.Core.Bool.{Bool, true, false}
use mathlib.Core.List.{List, ◌++◌}
use Prim.Native.Nat.{ℕ, ◌+◌, ◌-◌, ◌*◌, ◌/◌, ◌%◌, ◌^◌, ◌≤◌, ◌<◌, min}
use native.Mathlib.Omega.{arith}
use lib.ListN.{length, take, drop, length-append, length-take}
use lib.Dec.{leb}
use lib.Seq.{sets, sets-eq, take_all, length-take-le}
use borrow.Author.Tests.{le-leb, lt-leb, leb-true, leb-false}
use Rattle.ledger.specs.declared.Reason.{Reason}
use Rattle.ledger.specs.declared.Reason.TheVariants.{TextTooLong, WrongCount, ByteNotAllowed, NumberMisspelt, NumberOutOfRange, BadWord, SpanDisagrees, ListLength, BlockRules, CountsDisagree, NoRoom, NoPair, OutsideTarget}
use Rattle.ledger.specs.declared.Refusal.{Refusal}
use Rattle.ledger.specs.declared.Row.{Row}
use Rattle.ledger.specs.Reasons.{reason_number}
use Rattle.blocks.specs.Rows.{table_of}
use Rattle.blocks.specs.Blocks.{rows_of}
use Rattle.blocks.proofs.TableLaws.{table_length, table_take}
use Rattle.text.proofs.Laws.{either}
use Rattle.writing.specs.Puts.{Put}
use Rattle.writing.proofs.PutLaws.{put_then}
use Rattle.binary.specs.Bytes.{word_size, words_bytes, rows_numbers}
use Rattle.binary.proofs.ByteLaws.{words_append}
use Rattle.binary.proofs.BackLaws.{words_length, rows_length}
use Rattle.answers.specs.Answers.{most_told, told, refusal_code, refuses, Answered, roomed, numbered, record_numbers, record_bytes, recorded}

pub told_most : (v : ℕ) → most_told < v → 16 * most_told ≡ told v
unfolding told
told_most v h = let e : min v most_told ≡ most_told = omega arith in rw e

pub told_itself : (v : ℕ) → v ≤ most_told → 16 * v ≡ told v
unfolding told
told_itself v h = let e : min v most_told ≡ v = omega arith in rw e

told_fits : (v : ℕ) → told v ≤ 16 * most_told
unfolding told
told_fits v = omega arith

reason_few : (x : Reason) → reason_number x ≤ 13
reason_few TextTooLong = omega arith
reason_few WrongCount = omega arith
reason_few ByteNotAllowed = omega arith
reason_few NumberMisspelt = omega arith
reason_few NumberOutOfRange = omega arith
reason_few BadWord = omega arith
reason_few SpanDisagrees = omega arith
reason_few ListLength = omega arith
reason_few BlockRules = omega arith
reason_few CountsDisagree = omega arith
reason_few NoRoom = omega arith
reason_few NoPair = omega arith
reason_few OutsideTarget = omega arith

pub code_fits : (v n m : ℕ) (x : Reason) → n ≡ told v → m ≡ reason_number x → n + m < 2 ^ 64
code_fits v n m x e f = omega (arith, told_fits v, reason_few x)

pub code_of : (r : ℕ) (x y : Refusal) → x ≡ y → r ≡ refusal_code x → r ≡ refusal_code y
code_of r x y e h = rw e at h

-- a refusal leaves what was lent
pub refused_is : (x : Refusal) (b : List ℕ) (r : ℕ) → r ≡ refusal_code x → Answered (refuses x) b b r
refused_is x b r e = record { is = e; left = refl }

-- what was put at the front, and the rest as before
pub put_front : (bytes b b' : List ℕ) → length bytes ≤ length b → b' ≡ sets b 0 bytes → b' ≡ bytes ++ drop (length bytes) b
put_front bytes b b' h f =
    let z : 0 + length bytes ≡ length bytes = omega arith in
    let s : sets b 0 bytes ≡ bytes ++ drop (0 + length bytes) b = sets-eq bytes b 0 (omega arith) in
    f ∙ rw z at s

module _ (short : Refusal) (count : ℕ) (bytes b : List ℕ) where
  pub room_short : (r : ℕ) → length b < length bytes → r ≡ refusal_code short → Answered (roomed short (length b) count bytes) b b r
  unfolding roomed
  room_short r h e = rw (lt-leb (length bytes) (length b) h) (refused_is short b r e)

  pub room_put : (b' : List ℕ) (r : ℕ) → length bytes ≤ length b → b' ≡ sets b 0 bytes → r ≡ told count → Answered (roomed short (length b) count bytes) b b' r
  unfolding roomed
  room_put b' r h f e = rw (le-leb (length bytes) (length b) h) (record { is = e; left = put_front bytes b b' h f })

-- numbers
module _ (short : Refusal) (vs b : List ℕ) where
  pub numbers_short : (r : ℕ) → length b / word_size < length vs → r ≡ refusal_code short → Answered (numbered short (length b) vs) b b r
  unfolding numbered
  numbers_short r h e = room_short short (length vs) (words_bytes vs) b r (omega (arith, words_length vs)) e

  pub numbers_put : (b' : List ℕ) (r : ℕ) → length vs ≤ length b / word_size → b' ≡ sets b 0 (words_bytes vs) → r ≡ told (length vs) → Answered (numbered short (length b) vs) b b' r
  unfolding numbered
  numbers_put b' r h f e = room_put short (length vs) (words_bytes vs) b b' r (omega (arith, words_length vs)) f e

-- a part of a slice has as many numbers as were asked for
pub part_count : (n : ℕ) (xs : List ℕ) → n ≤ length xs → length (take n xs) ≡ n
part_count n xs h = length-take-le n xs h

-- room for so many numbers and rows
pub fits_not : (fields rows room : ℕ) → room / word_size < fields → false ≡ leb (word_size * (fields + 3 * rows)) room
fits_not fields rows room h = sym (lt-leb (word_size * (fields + 3 * rows)) room (omega arith))

pub fits_rows : (fields rows room : ℕ) → fields ≤ room / word_size → leb rows ((room / word_size - fields) / 3) ≡ leb (word_size * (fields + 3 * rows)) room
fits_rows fields rows room h =
    either rows ((room / word_size - fields) / 3) _
    (λ k. le-leb rows ((room / word_size - fields) / 3) k ∙ sym (le-leb (word_size * (fields + 3 * rows)) room (omega arith)))
    (λ k. lt-leb rows ((room / word_size - fields) / 3) k ∙ sym (lt-leb (word_size * (fields + 3 * rows)) room (omega arith)))

-- a record's numbers and its first m rows, stored
pub record_stored : (m : ℕ) (fields ts qs zs b b₁ b₂ : List ℕ) (p q : ℕ) → Put (words_bytes fields) 0 b b₁ p
    → Put (words_bytes (rows_numbers (table_of (take m ts) (take m qs) (take m zs)))) p b₁ b₂ q → Put (record_bytes fields (take m (table_of ts qs zs))) 0 b b₂ q
record_stored m fields ts qs zs b b₁ b₂ p q f g = rw (words_append fields (rows_numbers (take m (table_of ts qs zs))), table_take m ts qs zs) (put_then f g)

-- its first n rows, of which there are m
module _ (short : Refusal) (n m : ℕ) (fields ts qs zs b : List ℕ) (em : m ≡ min n (rows_of ts qs zs)) where
  abbrev rows : List Row
  rows = take n (table_of ts qs zs)

  rows_are : take m (table_of ts qs zs) ≡ rows
  rows_are =
      let t = table_length ts qs zs in
      either n (rows_of ts qs zs) _
      (λ h. let e : m ≡ n = omega arith in rw e)
      (λ h. take_all m (table_of ts qs zs) (omega (arith, t)) ∙ sym (take_all n (table_of ts qs zs) (omega (arith, t))))

  all_length : length (record_numbers fields rows) ≡ length fields + 3 * m
  all_length =
      let t = table_length ts qs zs in
      rw (length-append, rows_length rows, length-take) (omega (arith, t))

  module _ (t : Bool) (et : t ≡ leb (word_size * (length fields + 3 * m)) (length b)) where
    pub record_short : (r : ℕ) → t ≡ false → r ≡ refusal_code short → Answered (recorded short (length b) fields rows) b b r
    unfolding recorded
    record_short r h e =
        numbers_short short (record_numbers fields rows) b r (omega (arith, all_length, leb-false (word_size * (length fields + 3 * m)) (length b) (sym et ∙ h))) e

    pub record_put : (q r : ℕ) (b' : List ℕ) → t ≡ true → Put (record_bytes fields (take m (table_of ts qs zs))) 0 b b' q → r ≡ told (length fields + 3 * m)
        → Answered (recorded short (length b) fields rows) b b' r
    unfolding recorded
    record_put q r b' h f e =
        let f' : Put (record_bytes fields rows) 0 b b' q = rw rows_are at f in
        let e' : r ≡ told (length (record_numbers fields rows)) = rw (← all_length) at e in
        numbers_put short (record_numbers fields rows) b b' r (omega (arith, all_length, leb-true (word_size * (length fields + 3 * m)) (length b) (sym et ∙ h))) f'.stored e'

-- an answer tells its reason and its value
pub accepted_reason : (v : ℕ) → told v % 16 ≡ 0
unfolding told
accepted_reason v = omega arith

pub refused_reason : (x : Refusal) → refusal_code x % 16 ≡ reason_number x.reason
unfolding told
refused_reason x = omega (arith, reason_few x.reason)
