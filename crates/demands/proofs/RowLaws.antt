-- Rows and their flat lists, both ways. Assumes nothing.
use mathlib.Core.Path.{◌≡◌, refl, sym, ap, ◌∙◌}
use mathlib.Core.Bool.{Bool, true, false}
use mathlib.Core.List.{List, [], ◌∷◌, ◌++◌, append-nil}
use Prim.Native.Nat.{ℕ, ◌≤◌, ◌<◌}
use native.Mathlib.Omega.{arith}
use lib.ListN.{length, drop, drop_of_length-le}
use borrow.Author.Tests.{le-leb, lt-leb}
use Rattle.std.specs.Prelude.{Ok, Err}
use Rattle.ledger.specs.Refusals.{without_text, require}
use Rattle.ledger.specs.Limits.{text_limit, block_limit}
use Rattle.ledger.specs.declared.Reason.TheVariants.{BlockRules, NoRoom}
use Rattle.ledger.specs.declared.Refusal.{Refusal}
use Rattle.ledger.specs.declared.Row.{Row}
use Rattle.blocks.specs.Rows.{table_of, targets_of, queries_of, sizes_of}
use Rattle.blocks.proofs.TableLaws.{table_length}
use Rattle.text.specs.Checks.{refused}
use Rattle.writing.specs.Answers.{room_answer}
use Rattle.rows.proofs.ReaderLaws.{Reads}

-- the flat lists of a table of three lists of one length are those lists
pub record Flat (ts qs zs : List ℕ) : Type 0 where
  pub targets : targets_of (table_of ts qs zs) ≡ ts
  pub queries : queries_of (table_of ts qs zs) ≡ qs
  pub sizes : sizes_of (table_of ts qs zs) ≡ zs

pub flat : (ts qs zs : List ℕ) → length qs ≡ length ts → length zs ≡ length ts → Flat ts qs zs
unfolding table_of
flat [] [] [] e f = record { targets = refl; queries = refl; sizes = refl }
flat [] [] (z ∷ zs) e f = absurd (omega arith)
flat [] (q ∷ qs) zs e f = absurd (omega arith)
flat (t ∷ ts) [] zs e f = absurd (omega arith)
flat (t ∷ ts) (q ∷ qs) [] e f = absurd (omega arith)
flat (t ∷ ts) (q ∷ qs) (z ∷ zs) e f =
    let w = flat ts qs zs (omega arith) (omega arith) in
    record {
      targets = ap (λ (l : List ℕ). t ∷ l) w.targets;
      queries = ap (λ (l : List ℕ). q ∷ l) w.queries;
      sizes = ap (λ (l : List ℕ). z ∷ l) w.sizes;
    }

-- the columns of what a reader accepts make its table
pub read_flat : {R A : Type 0} {acc : R → A} {ref : Refusal → A} {blocks : R → ℕ} {filled : A → ℕ} {check : A} {read : ℕ → A} {no_room : Refusal} {ts qs zs : R → List ℕ}
    → Reads acc ref blocks filled check read no_room ts qs zs → (r : R) → check ≡ acc r → Flat (ts r) (qs r) (zs r)
read_flat {ts = ts} {qs = qs} {zs = zs} f r ok = flat (ts r) (qs r) (zs r) (f.queries r ok ∙ sym (f.targets r ok)) (f.sizes r ok ∙ sym (f.targets r ok))

pub read_count : {R A : Type 0} {acc : R → A} {ref : Refusal → A} {blocks : R → ℕ} {filled : A → ℕ} {check : A} {read : ℕ → A} {no_room : Refusal} {ts qs zs : R → List ℕ}
    → Reads acc ref blocks filled check read no_room ts qs zs → (r : R) → check ≡ acc r → length (table_of (ts r) (qs r) (zs r)) ≡ blocks r
read_count {ts = ts} {qs = qs} {zs = zs} f r ok = omega (arith, table_length (ts r) (qs r) (zs r), f.targets r ok, f.queries r ok, f.sizes r ok)

-- rows at the front of a table, n of them
pub front_rows : (rows said before after : List Row) (n : ℕ) → rows ≡ said → length said ≡ n → after ≡ said ++ drop n before → after ≡ rows ++ drop (length rows) before
front_rows rows said before after n e l h = rw (e, l) h

-- a test that a checker passed
pub holds_if : (t : Bool) → require t (refused BlockRules) (Ok tt) ≡ Ok tt → t ≡ true
holds_if true e = refl
holds_if false e = absurd (let z : ◌≡◌ {A = ℕ} 0 1 = cc in omega arith)

-- and one that it did not pass: 9 at place 0
pub breach_if : (t : Bool) (x : Refusal) → require t (refused BlockRules) (Ok tt) ≡ Err x → x ≡ without_text BlockRules
breach_if true x e = absurd (let z : ◌≡◌ {A = ℕ} 0 1 = cc in omega arith)
breach_if false x e = cc

-- a text that keeps the limit is written, given room
pub room_written : (text : List ℕ) (room : ℕ) → length text ≤ text_limit → length text ≤ room → room_answer (length text) room ≡ Ok (length text)
unfolding room_answer
room_written text room short h = rw (le-leb (length text) text_limit short, le-leb (length text) room h)

pub room_short : (text : List ℕ) (room : ℕ) → length text ≤ text_limit → room < length text → room_answer (length text) room ≡ Err (without_text NoRoom)
unfolding room_answer
room_short text room short h = rw (le-leb (length text) text_limit short, lt-leb (length text) room h)

-- the rows of a text, read into a table that holds just them
pub self_rows : (rows said : List Row) (n : ℕ) → rows ≡ said → length said ≡ n → rows ≡ said ++ drop n rows
self_rows rows said n e l =
    let h : length rows ≤ n = omega (arith, ap length e) in
    e ∙ sym (append-nil said) ∙ ap (λ (k : List Row). said ++ k) (sym (drop_of_length-le rows h))

-- what a reader refuses with room for any record, its text checker refuses
pub refused_of : {R A : Type 0} {acc : R → A} {ref : Refusal → A} {blocks : R → ℕ} {filled : A → ℕ} {check : A} {read : ℕ → A} {no_room : Refusal} {ts qs zs : R → List ℕ}
    → Reads acc ref blocks filled check read no_room ts qs zs → (room : ℕ) (x : Refusal) → block_limit ≤ room → ref x ≡ read room → check ≡ ref x
refused_of {check = check} f room x h e =
    f.cases check _ (λ q k. absurd (f.apart q x (sym (f.roomy q room k (omega (arith, f.few q k))) ∙ sym e))) (λ y k. k ∙ sym (f.refused y room k) ∙ sym e)
