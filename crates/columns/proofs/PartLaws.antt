-- The parts that names stand in: their bytes show, are words of the line, and are handed back whole. Assumes nothing.
use mathlib.Core.Path.{◌≡◌, sym, ap}
use mathlib.Core.List.{List, []}
use Prim.Native.Nat.{ℕ, ◌-◌, ◌≤◌}
use native.Mathlib.Omega.{arith}
use lib.ListN.{length, get_or}
use Rattle.text.specs.declared.Class.TheVariants.{Allowed, Graphic}
use Rattle.text.specs.Words.{word_at, bytes_of}
use Rattle.text.specs.Parts.{part_in, part_bytes}
use Rattle.text.specs.Pieces.{line_of, words_of}
use Rattle.text.proofs.PieceLaws.{word_bytes}
use Rattle.ledger.specs.declared.Part.{Part}
use Rattle.text.proofs.Laws.{part_fits}
use Rattle.text.proofs.TextLaws.{All}
use Rattle.text.proofs.ShowLaws.{word_shows, word_in}
use Rattle.columns.specs.Names.{part_of}
use Rattle.columns.proofs.WordLaws.{word_length}

-- the part that a word of an allowed text stands in shows, and has the word's length
pub part_shows : (s : List ℕ) → All Allowed s → (k : ℕ) → (All Graphic (part_bytes s (part_of (word_at s 0 k)))) × (length (part_bytes s (part_of (word_at s 0 k))) ≡ (part_of (word_at s 0 k)).length)
unfolding part_bytes
part_shows s h k = unfold bytes_of in (word_shows s 0 k h, word_length s k)

-- it holds the word's bytes
pub name_word : (s : List ℕ) (k : ℕ) (p : Part) → p ≡ part_of (word_at s 0 k) → part_bytes s p ≡ get_or (words_of (line_of s)) k []
unfolding part_bytes bytes_of
name_word s k p e = rw e (word_bytes s 0 k)

-- and is handed back whole, as every part that lies in the text
pub handed_in : (s : List ℕ) (p : Part) → p.start ≤ length s → p.length ≤ length s - p.start → part_bytes s (part_in s p) ≡ part_bytes s p
handed_in s p h k = ap (part_bytes s) (sym (part_fits s p h k))

pub name_handed : (s : List ℕ) (k : ℕ) (p : Part) → p ≡ part_of (word_at s 0 k) → part_bytes s (part_in s p) ≡ part_bytes s p
name_handed s k p e =
    let h = word_in s 0 k (omega arith) in
    handed_in s p (rw e h.0) (rw e (omega (arith, h.1)))
