-- The bytes of the answers.
use Rattle.std.specs.Prelude.{ℕ, zero, suc, ◌+◌, min, Bool, true, false, cond, List, [], ◌∷◌, ◌++◌, length, get_or, take, eqb, Ok, Err, Result, ⊤}
use Rattle.ledger.specs.declared.Part.{Part}
use Rattle.ledger.specs.declared.Refusal.{Refusal}
use Rattle.ledger.specs.declared.Strand.{Strand}
use Rattle.ledger.specs.Reasons.{reason_number}
use Rattle.ledger.specs.Strands.{strand_letter}
use Rattle.writing.specs.Digits.{digits}

-- a label and a number
abbrev pub labelled : List ℕ → ℕ → List ℕ
labelled label v = label ++ digits v

-- `refused N`
abbrev pub refused_label : List ℕ
refused_label = 114 ∷ 101 ∷ 102 ∷ 117 ∷ 115 ∷ 101 ∷ 100 ∷ 32 ∷ []

abbrev pub reason_text : Refusal → List ℕ
reason_text x = labelled refused_label (reason_number x.reason)

-- `refused N at P`
abbrev pub refusal_text : Refusal → List ℕ
refusal_text x = reason_text x ++ labelled (32 ∷ 97 ∷ 116 ∷ 32 ∷ []) x.place

-- `ok`, or the refusal
abbrev pub check_text : Result ⊤ Refusal → List ℕ
check_text (Ok tt) = 111 ∷ 107 ∷ []
check_text (Err x) = refusal_text x

-- nothing, or ` touched`
abbrev pub kept_text : Bool → List ℕ
kept_text true = []
kept_text false = 32 ∷ 116 ∷ 111 ∷ 117 ∷ 99 ∷ 104 ∷ 101 ∷ 100 ∷ []

-- ` S+L`
abbrev pub part_text : Part → List ℕ
part_text p = labelled (32 ∷ []) p.start ++ labelled (43 ∷ []) p.length

abbrev pub strand_text : Strand → List ℕ
strand_text s = (32 ∷ []) ++ (strand_letter s ∷ [])

-- ` T,Q,S`
abbrev pub row_text : ℕ → ℕ → ℕ → List ℕ
row_text t q z = (labelled (32 ∷ []) t ++ labelled (44 ∷ []) q) ++ labelled (44 ∷ []) z

-- n rows of three tables, from row i on
unfoldable pub rows_text : ℕ → ℕ → List ℕ → List ℕ → List ℕ → List ℕ
rows_text zero i ts qs zs = []
rows_text (suc n) i ts qs zs = row_text (get_or ts i 0) (get_or qs i 0) (get_or zs i 0) ++ rows_text n (i + 1) ts qs zs

-- numbers, a space before each
unfoldable pub spaced_text : List ℕ → List ℕ
spaced_text [] = []
spaced_text (v ∷ vs) = labelled (32 ∷ []) v ++ spaced_text vs

-- a tab or a line feed by its escape, any other byte as it is
unfoldable pub shown_byte : ℕ → List ℕ
shown_byte b = cond (eqb b 9) (92 ∷ 116 ∷ []) (cond (eqb b 10) (92 ∷ 110 ∷ []) (b ∷ []))

unfoldable pub shown_text : List ℕ → List ℕ
shown_text [] = []
shown_text (b ∷ bs) = shown_byte b ++ shown_text bs

-- what a writer wrote to the front of a buffer, or why it wrote nothing
abbrev pub written_text : List ℕ → Result ℕ Refusal → List ℕ
written_text buf (Ok n) = shown_text (take (min n (length buf)) buf)
written_text buf (Err x) = refusal_text x
