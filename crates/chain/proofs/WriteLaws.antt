-- Writing a chain: what each stage shows, on plain values. Assumes nothing.
use mathlib.Core.Path.{◌≡◌, refl, sym, ap, ◌∙◌}
use mathlib.Core.List.{List, [], ◌∷◌, ◌++◌}
use Prim.Native.Nat.{ℕ, suc, ◌+◌, ◌-◌, ◌*◌, ◌≤◌, ◌<◌}
use native.Mathlib.Numerals.{add-one}
use native.Mathlib.Omega.{arith}
use lib.ListN.{length, get_or, take}
use lib.Seq.{length-sets}
use lib.Dec.{leb}
use borrow.Author.Tests.{leb-true}
use Rattle.ledger.specs.Limits.{name_limit}
use Rattle.ledger.specs.declared.Refusal.{Refusal}
use Rattle.ledger.specs.Strands.{is_told}
use Rattle.text.proofs.StageLaws.{require_holds}
use Rattle.text.proofs.TextLaws.{both}
use Rattle.writing.specs.Digits.{digits}
use Rattle.writing.specs.Puts.{Put}
use Rattle.writing.specs.Answers.{Wrote}
use Rattle.writing.proofs.PutLaws.{Completes, completes_step, put_then}
use Rattle.columns.specs.Columns.{table_of}
use Rattle.columns.specs.Lines.{words_from, line_text, fed_line}
use Rattle.columns.proofs.JoinLaws.{line_joins}
use Rattle.blocks.specs.Blocks.{row_numbers_fit}
use Rattle.blocks.proofs.UseLaws.{use_of}
use Rattle.chain.specs.declared.Chain.{Chain}
use Rattle.chain.specs.Columns as column
use Rattle.chain.specs.Table.{chain_columns, block_columns}
use Rattle.chain.specs.Tests.{names_fit, fields_fit}
use Rattle.chain.specs.Write.{names_show, write_check, head_words, fed_words, gap_to, gap_words, block_text, chain_text, chain_write, ChainWrote}
use Rattle.chain.specs.Steps.{chain_values, text_of, Writable}
use Rattle.chain.proofs.BlockLaws.{block_kinds, table_is}
use Rattle.chain.proofs.StageLaws.{chain_kinds}
use Rattle.chain.proofs.StageLaws as stages
use Rattle.columns.specs.Names.{length_fits, names_in, NamesPut}
use Rattle.columns.proofs.NameLaws.{names_put}
use Rattle.columns.proofs.WordLaws.{letter_byte}
use Rattle.std.specs.Prelude.{Ok, Err, Result, ⊤}

-- a block line
pub block_put : (n at r : ℕ) (names vs ls b b' : List ℕ) → n ≤ column.gap_count → Put (fed_line (table_of (take n block_kinds)) 32 names vs ls) at b b' r → Put (fed_line (take n block_columns) 32 names vs ls) at b b' r
block_put n at r names vs ls b b' h f = rw (table_is n h) at f

module _ (z dt dq : ℕ) where
  fed_three : fed_line (take column.gap_count block_columns) 32 [] (z ∷ 0 ∷ dt ∷ 0 ∷ dq ∷ 0 ∷ []) [] ≡ fed_words (digits z ∷ digits dt ∷ digits dq ∷ [])
  unfolding fed_line line_text block_columns words_from
  fed_three = rw (line_joins 32 [] (z ∷ 0 ∷ dt ∷ 0 ∷ dq ∷ 0 ∷ []) [] (take column.gap_count block_columns))

  fed_one : fed_line (take column.last_count block_columns) 32 [] (z ∷ 0 ∷ dt ∷ 0 ∷ dq ∷ 0 ∷ []) [] ≡ fed_words (digits z ∷ [])
  unfolding fed_line line_text block_columns words_from
  fed_one = rw (line_joins 32 [] (z ∷ 0 ∷ dt ∷ 0 ∷ dq ∷ 0 ∷ []) [] (take column.last_count block_columns))

pub gap_put : (i : ℕ) (ts qs zs : List ℕ) (z a a' dt c c' dq at r : ℕ) (b b' : List ℕ) → z ≡ get_or zs i 0 → a ≡ get_or ts i 0 → a' ≡ get_or ts (i + 1) 0 → dt ≡ gap_to a z a'
    → c ≡ get_or qs i 0 → c' ≡ get_or qs (i + 1) 0 → dq ≡ gap_to c z c' → Put (fed_line (take column.gap_count block_columns) 32 [] (z ∷ 0 ∷ dt ∷ 0 ∷ dq ∷ 0 ∷ []) []) at b b' r → Put (fed_words (gap_words i ts qs zs)) at b b' r
unfolding gap_words
gap_put i ts qs zs z a a' dt c c' dq at r b b' ez ea ea' et ec ec' eq f =
    let o : i + 1 ≡ suc i = add-one i in
    let x : dt ≡ gap_to (get_or ts i 0) (get_or zs i 0) (get_or ts (suc i) 0) = et ∙ rw (ea, ea', ez, o) in
    let y : dq ≡ gap_to (get_or qs i 0) (get_or zs i 0) (get_or qs (suc i) 0) = eq ∙ rw (ec, ec', ez, o) in
    rw (← x, ← y, ← ez) (rw (fed_three z dt dq) at f)

-- the block lines: the lines from row i on complete the text
pub record Lining (ts qs zs : List ℕ) (at last : ℕ) (b₀ b : List ℕ) (p i : ℕ) : Type 0 where
  pub low : i ≤ last
  pub long : length b ≡ length b₀
  pub rest : Completes (block_text (last - i) i ts qs zs) p b (block_text last 0 ts qs zs) at b₀

module _ (ts qs zs : List ℕ) (at last : ℕ) (b₀ : List ℕ) where
  module _ (b : List ℕ) (p i : ℕ) (l : Lining ts qs zs at last b₀ b p i) where
    line_more : i < last → block_text (last - i) i ts qs zs ≡ fed_words (gap_words i ts qs zs) ++ block_text (last - (i + 1)) (i + 1) ts qs zs
    unfolding block_text
    line_more h =
        let e : last - i ≡ suc (last - (i + 1)) = omega arith in
        rw (e, add-one i)

    pub lines_step : (b₁ : List ℕ) (q : ℕ) → i < last → Put (fed_words (gap_words i ts qs zs)) p b b₁ q → Lining ts qs zs at last b₀ b₁ q (i + 1)
    lines_step b₁ q h f = record { low = omega arith; long = ap length f.stored ∙ simp length-sets l.long; rest = completes_step _ _ _ _ p q at b b₁ b₀ l.rest (line_more h) f }

    line_end : last ≤ i → block_text (last - i) i ts qs zs ≡ fed_words (digits (get_or zs last 0) ∷ [])
    unfolding block_text
    line_end h =
        let k = l.low in
        let e : last - i ≡ 0 = omega arith in
        let f : i ≡ last = omega arith in
        rw (e, f)

    pub lines_done : (z r : ℕ) (b₁ : List ℕ) → last ≤ i → z ≡ get_or zs last 0 → Put (fed_line (take column.last_count block_columns) 32 [] (z ∷ 0 ∷ 0 ∷ 0 ∷ 0 ∷ 0 ∷ []) []) p b b₁ r → Put (block_text last 0 ts qs zs) at b₀ b₁ r
    lines_done z r b₁ h ez f =
        let g : Put (fed_words (digits (get_or zs last 0) ∷ [])) p b b₁ r = rw (← ez) (rw (fed_one z 0 0) at f) in
        l.rest b₁ r (rw (line_end h) g)

-- the header's line and the block lines
pub text_put : (names vs ts qs zs : List ℕ) (n p r : ℕ) (b b₁ b₂ : List ℕ) → Put (fed_line (table_of chain_kinds) 32 names vs []) 0 b b₁ p → Put (block_text (n - 1) 0 ts qs zs) p b₁ b₂ r → Put (text_of names vs n ts qs zs) 0 b b₂ r
unfolding text_of
text_put names vs ts qs zs n p r b b₁ b₂ f g = put_then (rw (stages.table_is) at f) g

-- the line that the line writer makes of the values is the header's standard line
module _ (r : Chain) (tName qName names : List ℕ) (put : NamesPut tName qName names) where
  head_is : fed_line chain_columns 32 names (chain_values r (length tName) (length qName)) [] ≡ fed_words (head_words r tName qName)
  unfolding fed_line line_text chain_columns words_from chain_values head_words
  head_is = rw (line_joins 32 names (chain_values r (length tName) (length qName)) [] chain_columns, put.first_at, put.second_at, letter_byte r.qStrand)

  pub text_wrote : (ts qs zs vs b b' : List ℕ) (x : Result ℕ Refusal) → vs ≡ chain_values r (length tName) (length qName) → Wrote (text_of names vs r.blockCount ts qs zs) b b' x → Wrote (chain_text r tName qName ts qs zs) b b' x
  unfolding text_of chain_text
  text_wrote ts qs zs vs b b' x ev w = rw (ev, head_is) at w

-- the names of a record that passed the checks stand in their text
pub names_there : (r : Chain) (tName qName ts qs zs t names : List ℕ) → Writable r tName qName ts qs zs → names ≡ names_in tName qName t → length t ≡ 2 * name_limit → NamesPut tName qName names
names_there r tName qName ts qs zs t names w e l = names_put tName qName t names e l w.t_short w.q_short

-- a record that passes the checks can be written
pub check_writable : (r : Chain) (tName qName ts qs zs : List ℕ) → write_check r tName qName ts qs zs ≡ Ok tt → Writable r tName qName ts qs zs
unfolding write_check names_show names_fit
check_writable r tName qName ts qs zs e =
    let a = require_holds _ _ _ e in
    let b = require_holds _ _ _ a.1 in
    let f = require_holds _ _ _ b.1 in
    let numbers = both (fields_fit r) (row_numbers_fit (take r.blockCount ts) (take r.blockCount qs) (take r.blockCount zs)) f.0 in
    let names = (both (names_fit (length tName) (length qName)) _ (both (names_show tName qName) (is_told r.qStrand) b.0).0).0 in
    let both-names = both (length_fits (length tName)) (length_fits (length qName)) names in
    record {
      t_short = leb-true (length tName) name_limit (both (leb 1 (length tName)) (leb (length tName) name_limit) both-names.0).1;
      q_short = leb-true (length qName) name_limit (both (leb 1 (length qName)) (leb (length qName) name_limit) both-names.1).1;
      rows = use_of r.blockCount ts qs zs a.0 numbers.1;
    }

-- the writer: the checks, then the text
module _ (r : Chain) (tName qName ts qs zs b : List ℕ) (c : Result ⊤ Refusal) (ec : c ≡ write_check r tName qName ts qs zs) where
  pub write_refused : (x : Refusal) → c ≡ Err x → ChainWrote r tName qName ts qs zs b b (Err x)
  unfolding chain_write
  write_refused x q = record { is = rw (← ec, q); left = refl }

  pub write_ready : c ≡ Ok tt → Writable r tName qName ts qs zs
  write_ready q = check_writable r tName qName ts qs zs (sym ec ∙ q)

  pub write_wrote : (b' : List ℕ) (x : Result ℕ Refusal) → c ≡ Ok tt → Wrote (chain_text r tName qName ts qs zs) b b' x → ChainWrote r tName qName ts qs zs b b' x
  unfolding chain_write
  write_wrote b' x q h = record { is = rw (← ec, q) h.is; left = h.left }
