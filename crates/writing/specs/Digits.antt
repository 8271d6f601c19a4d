-- The standard text of a number and of a comma list.
use Rattle.std.specs.Prelude.{ℕ, zero, suc, ◌+◌, ◌/◌, ◌%◌, cond, List, [], ◌∷◌, ◌++◌, ltb}

-- the digits of n, at most so many of them
unfoldable pub digits_in : ℕ → ℕ → List ℕ
digits_in zero n = []
digits_in (suc f) n = cond (ltb n 10) ((48 + n) ∷ []) (digits_in f (n / 10) ++ ((48 + n % 10) ∷ []))

-- every number that a word of the machine holds has at most 20
unfoldable pub digits : ℕ → List ℕ
digits n = digits_in 20 n

-- a comma list: a comma after each number, the last too
unfoldable pub list_text : List ℕ → List ℕ
list_text [] = []
list_text (v ∷ vs) = digits v ++ (44 ∷ list_text vs)
