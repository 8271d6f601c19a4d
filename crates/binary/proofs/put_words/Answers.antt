-- Room for all numbers, or one by one. Assumes nothing.
-- there is room for all numbers
use borrow.Author.Rules.{rules}
use Prim.Native.Nat.{◌+◌, ◌*◌, ◌≤◌}
use native.Mathlib.Omega.{arith}
use lib.ListN.{length}
use Rattle.ledger.specs.Limits.{largest_place}
use Rattle.binary.specs.Bytes.{word_size}
use Rattle.binary.proofs.WordLaws.{room_there, words_put}
use Rattle.binary.proofs.put_words.Goals as goal

pub store_words-requires : goal.store_words-requires
store_words-requires c = search room_there

pub overflow_add-result : goal.overflow_add-result
overflow_add-result c =
    let enough : let a = c.args in a.at + word_size * length a.vs.now ≤ length a.buf.now = search room_there in
    omega (arith, enough)

pub returns-then-has_room : goal.returns-then-has_room
returns-then-has_room c =
    let enough : let a = c.args in a.at + word_size * length a.vs.now ≤ length a.buf.now = search room_there in
    let l : length c.args.buf.now ≤ largest_place = search rules in
    words_put _ _ _ _ enough l c.store_words.ensures
