-- Room for all rows, or one by one. Assumes nothing.
-- there is room for all rows
use borrow.Author.Rules.{rules}
use Prim.Native.Nat.{◌+◌, ◌*◌, ◌≤◌}
use native.Mathlib.Omega.{arith}
use lib.ListN.{length}
use Rattle.ledger.specs.Limits.{largest_place}
use Rattle.binary.specs.Bytes.{word_size}
use Rattle.binary.proofs.WordLaws.{room_there, rows_put}
use Rattle.binary.proofs.put_rows.Goals as goal

pub store_rows-requires : goal.store_rows-requires
store_rows-requires c = (search rules, search room_there)

pub overflow_mul-result-then-has_room : goal.overflow_mul-result-then-has_room
overflow_mul-result-then-has_room c =
    let enough : let a = c.args in a.at + word_size * (3 * c.rows_of-n.result) ≤ length a.buf.now = search room_there in
    omega (arith, enough)

pub overflow_add-result : goal.overflow_add-result
overflow_add-result c =
    let enough : let a = c.args in a.at + word_size * (3 * c.rows_of-n.result) ≤ length a.buf.now = search room_there in
    omega (arith, enough)

pub returns-then-has_room : goal.returns-then-has_room
returns-then-has_room c =
    let enough : let a = c.args in a.at + word_size * (3 * c.rows_of-n.result) ≤ length a.buf.now = search room_there in
    let l : length c.args.buf.now ≤ largest_place = search rules in
    rows_put _ _ _ _ _ _ _ c.rows_of-n.ensures enough l c.store_rows.ensures
