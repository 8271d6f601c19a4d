-- What reading a line by the first n columns of a table gives. Assumes nothing.
use mathlib.Core.Path.{◌≡◌, sym, ◌∙◌}
use mathlib.Core.List.{List}
use Prim.Native.Nat.{ℕ, ◌*◌, ◌≤◌}
use native.Mathlib.Omega.{arith}
use lib.ListN.{length, replicate, get_or, take, length-take, length-replicate}
use lib.Seq.{sets, take_all}
use Rattle.kinds.specs.declared.Kind.{Kind}
use Rattle.columns.specs.Columns.{column_limit, table_of, columns_from, values_from, lists_from, ColumnsWalked}
use Rattle.columns.proofs.PlaceLaws.{values_length}
use Rattle.columns.proofs.WordLaws.{stored_at, zeros}
use Rattle.std.specs.Prelude.{Ok, Result}
use Rattle.ledger.specs.declared.Fault.{Fault}

-- the values of a line that is read, stored in a table of m zeros
pub values_stored : (cs : List Kind) (s : List ℕ) (from m e : ℕ) (b : List ℕ) → 2 * length cs ≤ m → columns_from cs 0 s from ≡ Ok e → b ≡ sets (replicate m 0) 0 (values_from cs 0 s from)
    → (i : ℕ) → get_or b i 0 ≡ get_or (values_from cs 0 s from) i 0
values_stored cs s from m e b room read st i =
    let l : length (values_from cs 0 s from) ≤ length {A = ℕ} (replicate m 0) = rw (values_length cs 0 s from e read, length-replicate {A = ℕ} m 0) room in
    rw st (stored_at (replicate m 0) (values_from cs 0 s from) (zeros m) l i)

module _ (table : List Kind) (few : length table ≤ column_limit) (n : ℕ) (least : n ≤ length table) where
  pub front_length : n ≡ length (take n table)
  front_length = rw length-take (omega arith)

  pub table_is : table_of (take n table) ≡ take n table
  unfolding table_of
  table_is =
      let z : length (take n table) ≤ column_limit = rw length-take (omega arith) in
      take_all column_limit (take n table) z

  -- a line read into a table of m zeros
  module _ (s : List ℕ) (from m : ℕ) (room : 2 * n ≤ m) (b' d d' : List ℕ) (x : Result ℕ Fault) (read : ColumnsWalked (table_of (take n table)) s from (replicate m 0) b' d d' x) where
    pub read_is : x ≡ columns_from (take n table) 0 s from
    read_is = rw table_is at read.result

    module _ (e : ℕ) (q : x ≡ Ok e) where
      pub read_next : columns_from (take n table) 0 s from ≡ Ok e
      read_next = sym read_is ∙ q

      pub values_same : (i : ℕ) → get_or b' i 0 ≡ get_or (values_from (take n table) 0 s from) i 0
      values_same =
          let st : b' ≡ sets (replicate m 0) 0 (values_from (take n table) 0 s from) = rw table_is at (read.stored e q) in
          values_stored (take n table) s from m e b' (rw length-take (omega arith)) read_next st

      pub lists_are : d' ≡ lists_from (take n table) 0 s from 0 d
      lists_are = rw table_is at (read.held e q)
