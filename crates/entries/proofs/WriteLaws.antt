-- A writer's answer as an entry's: the text stands at the front of what was lent, or nothing was changed. Assumes nothing.
use mathlib.Core.Path.{◌≡◌, refl, sym, ◌∙◌}
use mathlib.Core.List.{List, [], ◌∷◌, ◌++◌}
use Prim.Native.Nat.{ℕ}
use native.Mathlib.Omega.{arith}
use lib.ListN.{length, take, length-take}
use borrow.Author.Tests.{eq-eqb, ne_eqb}
use Rattle.std.specs.Prelude.{Ok, Err, Result, ⊤}
use Rattle.ledger.specs.declared.Reason.TheVariants.{NoRoom}
use Rattle.ledger.specs.declared.Refusal.{Refusal}
use Rattle.ledger.specs.Reasons.{reason_number}
use Rattle.text.specs.declared.Class.TheVariants.{Line}
use Rattle.text.specs.Scan.{run, end_of}
use Rattle.text.specs.Words.{line_end, LineEnd}
use Rattle.text.specs.Pieces.{line_of}
use Rattle.writing.specs.Answers.{room_answer, left_after, Wrote}
use Rattle.writing.proofs.PutLaws.{room_granted}
use Rattle.bed.specs.declared.Bed.{Bed}
use Rattle.columns.specs.Lines.{then_write}
use Rattle.bed.specs.Write as bed-write
use Rattle.psl.specs.declared.Psl.{Psl}
use Rattle.psl.specs.Write as psl-write
use Rattle.chain.specs.declared.Chain.{Chain}
use Rattle.chain.specs.Write as chain-write
use Rattle.answers.specs.Answers.{told, refusal_code, no_room_at, Answered}
use Rattle.entries.specs.Entries.{at_end, written, copied, name_bytes, bed_written, psl_written, chain_written}

-- the place of a writer's refusal
module _ (end : ℕ) (x : Refusal) (r m n : ℕ) (is : m ≡ reason_number x.reason) (room : n ≡ reason_number NoRoom) where
  pub moved : m ≡ n → r ≡ refusal_code (no_room_at end) → r ≡ refusal_code (at_end end x)
  moved e q = rw (eq-eqb (reason_number x.reason) (reason_number NoRoom) (sym is ∙ e ∙ room)) q

  pub not_moved : (m ≡ n → ⊥) → r ≡ refusal_code x → r ≡ refusal_code (at_end end x)
  not_moved f q = rw (ne_eqb (reason_number x.reason) (reason_number NoRoom) (λ e. f (is ∙ e ∙ sym room))) q

-- the code of a writer's answer, whatever its text is
pub code_written : (end n r : ℕ) (w : Result ℕ Refusal) → w ≡ Ok n → r ≡ told n → (bytes : List ℕ) → r ≡ (written end w bytes).answer
code_written end n r w e q bytes = rw e q

pub code_refused : (end r : ℕ) (x : Refusal) (w : Result ℕ Refusal) → w ≡ Err x → r ≡ refusal_code (at_end end x) → (bytes : List ℕ) → r ≡ (written end w bytes).answer
code_refused end r x w e q bytes = rw e q

-- a writer's answer is its checks', then that of the text's length and the room
module _ (then_write : Result ⊤ Refusal → Result ℕ Refusal → Result ℕ Refusal) (goes : (w : Result ℕ Refusal) → then_write (Ok tt) w ≡ w) (stops : (x : Refusal) (w : Result ℕ Refusal) → then_write (Err x) w ≡ Err x) where
  full_length : (k : Result ⊤ Refusal) (n room m : ℕ) → then_write k (room_answer n room) ≡ Ok m → n ≡ m
  full_length (Ok tt) n room m e = (room_granted n room m (sym (goes (room_answer n room)) ∙ e)).2
  full_length (Err x) n room m e = let z = sym (stops x (room_answer n room)) ∙ e in absurd (let o : ◌≡◌ {A = ℕ} 0 1 = cc in omega arith)

  writes : (k : Result ⊤ Refusal) (end : ℕ) (bytes b b' : List ℕ) (w : Result ℕ Refusal) (r : ℕ) → w ≡ then_write k (room_answer (length bytes) (length b)) → b' ≡ left_after w bytes b
      → r ≡ (written end w bytes).answer → Answered (written end w bytes) b b' r
  writes k end bytes b b' (Ok n) r e l q = let f : length bytes ≡ n = full_length k (length bytes) (length b) n (sym e) in record { is = q; left = rw f l }
  writes k end bytes b b' (Err x) r e l q = record { is = q; left = l }

-- a text's line as it stands, and a feed
pub line_part : (s : List ℕ) (e : ℕ) → LineEnd s 0 e → e ≡ length (take e s)
line_part s e h = rw length-take (omega (arith, h.high))

pub line_copied : (s b b' : List ℕ) (e : ℕ) (w : Result ℕ Refusal) (code : ℕ) → LineEnd s 0 e → Wrote (take e s ++ (10 ∷ [])) b b' w → ((bytes : List ℕ) → code ≡ (written (length s) w bytes).answer) → Answered (copied s (length b)) b b' code
unfolding copied line_of line_end end_of
line_copied s b b' e w code h g is =
    let q : e ≡ run Line s = omega (arith, h.is) in
    let g' : Wrote (take (run Line s) s ++ (10 ∷ [])) b b' w = rw q at g in
    let t = take (run Line s) s ++ (10 ∷ []) in
    rw (← g'.is) (writes then_write (λ v. refl) (λ x v. refl) (Ok tt) (length s) t b b' w code g'.is g'.left (is t))

module _ (s ts qs zs b b' : List ℕ) (w : Result ℕ Refusal) (code : ℕ) (is : (bytes : List ℕ) → code ≡ (written (length s) w bytes).answer) where
  pub bed_written_lem : (r : Bed) (chrom name : List ℕ) → chrom ≡ name_bytes s r.chrom → name ≡ name_bytes s r.name → bed-write.BedWrote r chrom name ts qs zs b b' w
      → Answered (bed_written s r ts qs zs (length b)) b b' code
  unfolding bed_written bed-write.bed_write
  bed_written_lem r chrom name e f g =
      let t = bed-write.bed_text r chrom name ts zs in
      let k = writes then_write (λ v. refl) (λ x v. refl) (bed-write.write_check r chrom name ts qs zs) (length s) t b b' w code g.is g.left (is t) in
      rw (← e, ← f, ← g.is) k

  pub psl_written_lem : (r : Psl) (query target : List ℕ) → query ≡ name_bytes s r.query.name → target ≡ name_bytes s r.target.name → psl-write.PslWrote r query target ts qs zs b b' w
      → Answered (psl_written s r ts qs zs (length b)) b b' code
  unfolding psl_written psl-write.psl_write
  psl_written_lem r query target e f g =
      let t = psl-write.psl_text r query target ts qs zs in
      let k = writes then_write (λ v. refl) (λ x v. refl) (psl-write.write_check r query target ts qs zs) (length s) t b b' w code g.is g.left (is t) in
      rw (← e, ← f, ← g.is) k

  pub chain_written_lem : (r : Chain) (target query : List ℕ) → target ≡ name_bytes s r.tName → query ≡ name_bytes s r.qName → chain-write.ChainWrote r target query ts qs zs b b' w
      → Answered (chain_written s r ts qs zs (length b)) b b' code
  unfolding chain_written chain-write.chain_write
  chain_written_lem r target query e f g =
      let t = chain-write.chain_text r target query ts qs zs in
      let k = writes then_write (λ v. refl) (λ x v. refl) (chain-write.write_check r target query ts qs zs) (length s) t b b' w code g.is g.left (is t) in
      rw (← e, ← f, ← g.is) k
