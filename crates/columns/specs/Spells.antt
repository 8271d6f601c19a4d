-- What a row of words says by a table of columns, with no order of checks and by no function of a reader: each word spells its value by its bytes (kinds,
-- specs/SpeltAs.antt).
use Rattle.std.specs.Prelude.{ℕ, List, [], ◌∷◌}
use Rattle.kinds.specs.declared.Kind.{Kind}
use Rattle.kinds.specs.Kinds.{count_after}
use Rattle.kinds.specs.SpeltAs.{SpeltAs}

-- the words ws spell the values vs and the lists ls, one a column, n being the last count before them; a column that is no list has the empty one
pub data Spells : List Kind → ℕ → List (List ℕ) → List ℕ → List (List ℕ) → Type 0 where
  spells_none : {n : ℕ} → Spells [] n [] [] []
  spells_more : {c : Kind} {cs : List Kind} {n v : ℕ} {w us : List ℕ} {ws : List (List ℕ)} {vs : List ℕ} {ls : List (List ℕ)} → SpeltAs c n w v us → Spells cs (count_after c v n) ws vs ls
      → Spells (c ∷ cs) n (w ∷ ws) (v ∷ vs) (us ∷ ls)

-- the values of a reader's table of two numbers a column, without the places
unfoldable pub firsts : List ℕ → List ℕ
firsts [] = []
firsts (v ∷ []) = v ∷ []
firsts (v ∷ p ∷ vs) = v ∷ firsts vs

-- and the places
unfoldable pub seconds : List ℕ → List ℕ
seconds [] = []
seconds (v ∷ []) = []
seconds (v ∷ p ∷ vs) = p ∷ seconds vs
