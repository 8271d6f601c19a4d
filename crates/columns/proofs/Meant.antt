-- The words of a line by the reader's own function (`spelt`), and that this is what they spell by their bytes alone (`Spells`). Assumes nothing.
use mathlib.Core.Path.{◌≡◌, refl, ap}
use mathlib.Core.List.{List, [], ◌∷◌}
use Prim.Native.Nat.{ℕ, zero, suc, ◌<◌}
use native.Mathlib.Omega.{arith}
use lib.ListN.{length, get_or}
use Rattle.kinds.specs.declared.Kind.{Kind}
use Rattle.kinds.specs.declared.Kind.TheVariants.{Name}
use Rattle.kinds.specs.Kinds.{spelt, count_after}
use Rattle.kinds.proofs.SpeltAsLaws.{numbers_in, spelt_as, as_spelt}
use Rattle.columns.specs.Spells.{Spells, spells_none, spells_more}
use Rattle.std.specs.Prelude.{Ok}

-- the reader takes the words ws for the values vs, n being the last count before them
pub data Meant : List Kind → ℕ → List (List ℕ) → List ℕ → Type 0 where
  meant_none : {n : ℕ} → Meant [] n [] []
  meant_more : {c : Kind} {cs : List Kind} {n v : ℕ} {w : List ℕ} {ws : List (List ℕ)} {vs : List ℕ} → spelt c n w ≡ Ok v → Meant cs (count_after c v n) ws vs → Meant (c ∷ cs) n (w ∷ ws) (v ∷ vs)

-- values are as many as the columns
pub meant_length : {cs : List Kind} {n : ℕ} {ws : List (List ℕ)} {vs : List ℕ} → Meant cs n ws vs → (length ws ≡ length cs) × (length vs ≡ length cs)
meant_length meant_none = (refl, refl)
meant_length (meant_more p t) = let r = meant_length t in (ap suc r.0, ap suc r.1)

-- the lists of words, one a column
pub lists_in : List Kind → List (List ℕ) → List (List ℕ)
lists_in [] ws = []
lists_in (c ∷ cs) [] = []
lists_in (c ∷ cs) (w ∷ ws) = numbers_in c w ∷ lists_in cs ws

-- what the reader takes them for is what they spell
pub meant_spells : {cs : List Kind} {n : ℕ} {ws : List (List ℕ)} {vs : List ℕ} → Meant cs n ws vs → Spells cs n ws vs (lists_in cs ws)
unfolding lists_in
meant_spells meant_none = spells_none
meant_spells (meant_more {c = c} {n = n} {v = v} {w = w} p t) = spells_more (spelt_as c n v w p) (meant_spells t)

pub spells_meant : {cs : List Kind} {n : ℕ} {ws : List (List ℕ)} {vs : List ℕ} {ls : List (List ℕ)} → Spells cs n ws vs ls → Meant cs n ws vs
spells_meant spells_none = meant_none
spells_meant (spells_more {c = c} {n = n} {v = v} {w = w} {us = us} p t) = meant_more (as_spelt c n v w us p).0 (spells_meant t)

pub spells_lists : {cs : List Kind} {n : ℕ} {ws : List (List ℕ)} {vs : List ℕ} {ls : List (List ℕ)} → Spells cs n ws vs ls → ls ≡ lists_in cs ws
unfolding lists_in
spells_lists spells_none = refl
spells_lists (spells_more {c = c} {n = n} {v = v} {w = w} {us = us} p t) = λ i. (as_spelt c n v w us p).1 i ∷ spells_lists t i

-- the list of column k
pub list_at : (cs : List Kind) (ws : List (List ℕ)) (k : ℕ) → k < length cs → k < length ws → get_or (lists_in cs ws) k [] ≡ numbers_in (get_or cs k Name) (get_or ws k [])
unfolding lists_in
list_at [] ws k h l = absurd (omega arith)
list_at (c ∷ cs) [] k h l = absurd (omega arith)
list_at (c ∷ cs) (w ∷ ws) zero h l = refl
list_at (c ∷ cs) (w ∷ ws) (suc k) h l = list_at cs ws k (omega arith) (omega arith)
