-- The columns of a table by their number: the count a list answers to, and where it is stored.
use Rattle.std.specs.Prelude.{ℕ, zero, suc, List, [], ◌∷◌, get_or}
use Rattle.kinds.specs.declared.Kind.{Kind}
use Rattle.kinds.specs.declared.Kind.TheVariants.{Name}
use Rattle.kinds.specs.Kinds.{count_after, base_by}

-- the kind of column k
abbrev pub kind_at : List Kind → ℕ → Kind
kind_at cs k = get_or cs k Name

-- the last count before column k, where the values of the columns are vs from number j on
abbrev pub count_before : List Kind → ℕ → List ℕ → ℕ → ℕ → ℕ
count_before [] n vs j k = n
count_before (c ∷ cs) n vs j zero = n
count_before (c ∷ cs) n vs j (suc k) = count_before cs (count_after c (get_or vs j 0) n) vs (suc j) k

-- where the list of column k is stored, the lists standing so many numbers apart
abbrev pub base_before : ℕ → List Kind → ℕ → ℕ → ℕ
base_before stride [] base k = base
base_before stride (c ∷ cs) base zero = base
base_before stride (c ∷ cs) base (suc k) = base_before stride cs (base_by stride c base) k
