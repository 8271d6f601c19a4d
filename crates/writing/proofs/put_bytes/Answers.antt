-- Room for all bytes, or one by one. Assumes nothing.
-- there is room for all bytes
use borrow.Author.Rules.{rules}
use Prim.Native.Nat.{◌+◌, ◌≤◌}
use native.Mathlib.Omega.{arith}
use lib.ListN.{length}
use Rattle.ledger.specs.Limits.{largest_place}
use Rattle.writing.proofs.StoreLaws.{room_there, bytes_put}
use Rattle.writing.proofs.put_bytes.Goals as goal

pub store_bytes-requires : goal.store_bytes-requires
store_bytes-requires c = search room_there

pub overflow_add-result : goal.overflow_add-result
overflow_add-result c =
    let enough : c.args.at + length c.args.bytes.now ≤ length c.args.buf.now = search room_there in
    omega (arith, enough)

pub returns-then-has_room : goal.returns-then-has_room
returns-then-has_room c =
    let enough : c.args.at + length c.args.bytes.now ≤ length c.args.buf.now = search room_there in
    let l : length c.args.buf.now ≤ largest_place = search rules in
    bytes_put _ _ _ _ enough l c.store_bytes.ensures
