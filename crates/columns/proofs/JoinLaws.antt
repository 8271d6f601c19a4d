-- A line written by a table of columns is its words joined: for every table. Assumes nothing.
use mathlib.Core.Path.{◌≡◌, refl, ap}
use mathlib.Core.List.{List, [], ◌∷◌, append-nil}
use Prim.Native.Nat.{ℕ, zero, suc, ◌+◌, ◌*◌}
use lib.ListN.{take, get_or}
use Rattle.text.specs.Pieces.{joined}
use Rattle.kinds.specs.declared.Kind.{Kind}
use Rattle.kinds.specs.Kinds.{base_after}
use Rattle.kinds.specs.Words.{word_of}
use Rattle.columns.specs.Lines.{line_from, words_from}

module _ (sep : ℕ) (t vs ls : List ℕ) where
  -- a line from its second column on is a separator and the words joined
  line_tail : (k base : ℕ) (c : Kind) (cs : List Kind) → line_from (suc k) base (c ∷ cs) sep t vs ls ≡ sep ∷ joined sep (words_from (suc k) base (c ∷ cs) t vs ls)
  unfolding line_from words_from joined
  line_tail k base c [] = ap (λ (x : List ℕ). sep ∷ x) (append-nil (word_of c t ls base (get_or vs (2 * suc k) 0) (get_or vs (2 * suc k + 1) 0)))
  line_tail k base c (d ∷ cs) = rw (line_tail (suc k) (base_after c base) d cs)

  -- a line is its words joined
  pub line_joins : (cs : List Kind) → line_from 0 0 cs sep t vs ls ≡ joined sep (words_from 0 0 cs t vs ls)
  unfolding line_from words_from joined
  line_joins [] = refl
  line_joins (c ∷ []) = append-nil (word_of c t ls 0 (get_or vs 0 0) (get_or vs 1 0))
  line_joins (c ∷ d ∷ cs) = rw (line_tail 0 (base_after c 0) d cs)

-- the first words of a table are the words of its first columns
pub words_take : (n k base : ℕ) (cs : List Kind) (t vs ls : List ℕ) → words_from k base (take n cs) t vs ls ≡ take n (words_from k base cs t vs ls)
unfolding words_from
words_take zero k base cs t vs ls = refl
words_take (suc n) k base [] t vs ls = refl
words_take (suc n) k base (c ∷ cs) t vs ls =
    ap (λ (x : List (List ℕ)). word_of c t ls base (get_or vs (2 * k) 0) (get_or vs (2 * k + 1) 0) ∷ x) (words_take n (suc k) (base_after c base) cs t vs ls)
