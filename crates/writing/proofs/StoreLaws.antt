-- Bytes stored where there is room for all of them. Assumes nothing.
use mathlib.Core.Path.{◌≡◌, refl, sym, ◌∙◌}
use mathlib.Core.Bool.{Bool, true, false}
use mathlib.Core.List.{List, append_assoc}
use Prim.Native.Nat.{ℕ, suc, ◌+◌, ◌-◌, ◌≤◌, ◌<◌}
use native.Mathlib.Omega.{arith}
use native.Mathlib.Numerals.{add-one}
use lib.Dec.{leb}
use lib.ListN.{length, get_or, set, drop, length-set, drop_of_length-le}
use lib.Seq.{sets, sets-eq, drop-cons, drop-drop}
use borrow.Rule.Slice.PartMut.{put_mid}
use borrow.Author.Tests.{leb-true, leb-false, le-leb, lt-leb}
use Rattle.ledger.specs.Limits.{largest_place}
use Rattle.writing.specs.Puts.{Put}

-- what the loop keeps: storing the bytes that are left makes the whole
pub record Storing (bs : List ℕ) (at : ℕ) (b₀ : List ℕ) (i : ℕ) (b : List ℕ) : Type 0 where
  pub few : i ≤ length bs
  pub long : length b ≡ length b₀
  pub rest : sets b (at + i) (drop i bs) ≡ sets b₀ at bs

pub storing_starts : (bs : List ℕ) (at : ℕ) (b : List ℕ) → Storing bs at b 0 b
storing_starts bs at b =
    let z : at + 0 ≡ at = omega arith in
    record { few = omega arith; long = refl; rest = rw z }

module _ (bs : List ℕ) (at : ℕ) (b₀ : List ℕ) (i : ℕ) (b : List ℕ) (s : Storing bs at b₀ i b) where
  pub storing_step : (b₁ : List ℕ) → i < length bs → b₁ ≡ set b (at + i) (get_or bs i 0) → Storing bs at b₀ (i + 1) b₁
  storing_step b₁ h e =
      let n : at + (i + 1) ≡ suc (at + i) = omega arith in
      record {
        few = omega arith;
        long = rw e (length-set b (at + i) (get_or bs i 0) ∙ s.long);
        rest = rw (n, add-one i, e) (rw (drop-cons bs i 0 h) at s.rest);
      }

  pub storing_ends : length bs ≤ i → b ≡ sets b₀ at bs
  storing_ends h = rw (drop_of_length-le bs h) at s.rest

-- a copy over the part of the buffer from a place on
pub store_copied : (bs : List ℕ) (at k : ℕ) (b ys : List ℕ) → at + length bs ≤ length b → k ≡ length bs → ys ≡ bs → put_mid at k b ys ≡ sets b at bs
store_copied bs at k b ys h n e = rw (n, e, sets-eq bs b at h, append_assoc, drop-drop)

-- the test of the room
module _ (room at n : ℕ) where
  pub room_none : room < at → false ≡ leb (at + n) room
  room_none h = sym (lt-leb (at + n) room (omega arith))

  pub room_is : at ≤ room → leb n (room - at) ≡ leb (at + n) room
  room_is h = go (leb n (room - at)) refl
    where
      go : (t : Bool) → leb n (room - at) ≡ t → t ≡ leb (at + n) room
      go true e = sym (le-leb (at + n) room (omega (arith, leb-true n (room - at) e)))
      go false e = sym (lt-leb (at + n) room (omega (arith, leb-false n (room - at) e)))

  pub room_there : (r : Bool) → r ≡ leb (at + n) room → r ≡ true → at + n ≤ room
  room_there r e t = leb-true (at + n) room (sym e ∙ t)

-- bytes stored where there is room are put
pub bytes_put : (bs : List ℕ) (at : ℕ) (b b₁ : List ℕ) → at + length bs ≤ length b → length b ≤ largest_place → b₁ ≡ sets b at bs → Put bs at b b₁ (at + length bs)
bytes_put bs at b b₁ h l e = record { next = omega arith; stored = e; room = l }
