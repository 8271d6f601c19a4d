-- What the columns of a line that is read hold, each by its number: its value, and its list at its place. Assumes nothing.
use mathlib.Core.Path.{◌≡◌, refl, ◌∙◌}
use mathlib.Core.Bool.{Bool, true, false}
use mathlib.Core.List.{List, [], ◌∷◌, ◌++◌, append_assoc}
use Prim.Native.Nat.{ℕ, zero, suc, ◌+◌, ◌-◌, ◌*◌, ◌≤◌, ◌<◌}
use native.Mathlib.Omega.{arith}
use lib.ListN.{length, set, get_or, take, drop, length-take}
use lib.Seq.{sets, length-sets, sets-eq, drop-set-add, take-set-le, take_at, drop_at}
use Rattle.text.specs.Words.{next_word, word_at, bytes_of}
use Rattle.kinds.specs.declared.Kind.{Kind}
use Rattle.kinds.specs.Kinds.{spelt, items_in, count_after, is_list, pick_base, base_by}
use Rattle.columns.specs.Columns.{field_of, field_from, then_columns, columns_from, values_from, lists_by}
use Rattle.columns.specs.Spells.{firsts, seconds}
use Rattle.columns.proofs.Meant.{Meant, meant_none, meant_more}
use Rattle.columns.specs.Places.{kind_at, count_before, base_before}
use Rattle.columns.proofs.SpellsLaws.{word_later}
use Rattle.std.specs.Prelude.{Ok, Err, Result}
use Rattle.ledger.specs.declared.Fault.{Fault}

-- the count before a column does not look at values before the first
count_later : (cs : List Kind) (n v : ℕ) (vs : List ℕ) (j k : ℕ) → count_before cs n (v ∷ vs) (suc j) k ≡ count_before cs n vs j k
count_later [] n v vs j k = refl
count_later (c ∷ cs) n v vs j zero = refl
count_later (c ∷ cs) n v vs j (suc k) = count_later cs (count_after c (get_or vs j 0) n) v vs (suc j) k

-- words that spell values: word k spells value k
pub spelt_at : {cs : List Kind} {n : ℕ} {ws : List (List ℕ)} {vs : List ℕ} → Meant cs n ws vs → (k : ℕ) → k < length cs → spelt (kind_at cs k) (count_before cs n vs 0 k) (get_or ws k []) ≡ Ok (get_or vs k 0)
spelt_at meant_none k h = absurd (omega arith)
spelt_at (meant_more p t) zero h = p
spelt_at (meant_more {c = c} {cs = cs} {n = n} {v = v} {vs = vs} p t) (suc k) h = rw (count_later cs (count_after c v n) v vs 0 k) (spelt_at t k (omega arith))

-- the values and the places of a reader's table, by number
twice : (k : ℕ) → 2 * suc k ≡ suc (suc (2 * k))
twice k = omega arith

pub value_first : (vs : List ℕ) (k : ℕ) → get_or (firsts vs) k 0 ≡ get_or vs (2 * k) 0
unfolding firsts
value_first [] k = refl
value_first (v ∷ []) zero = refl
value_first (v ∷ []) (suc k) = rw (twice k)
value_first (v ∷ p ∷ vs) zero = refl
value_first (v ∷ p ∷ vs) (suc k) = rw (twice k) (value_first vs k)

pub value_second : (vs : List ℕ) (k : ℕ) → get_or (seconds vs) k 0 ≡ get_or vs (2 * k + 1) 0
unfolding seconds
value_second [] k = refl
value_second (v ∷ []) k =
    let q : 2 * k + 1 ≡ suc (2 * k) = omega arith in
    rw q
value_second (v ∷ p ∷ vs) zero = refl
value_second (v ∷ p ∷ vs) (suc k) =
    let q : 2 * suc k + 1 ≡ suc (suc (2 * k + 1)) = omega arith in
    rw q (value_second vs k)

-- a line that is read: its first word spells a value, and the rest is read after it
record Head (c : Kind) (cs : List Kind) (n : ℕ) (s : List ℕ) (at e : ℕ) : Type 0 where
  value : ℕ
  says : spelt c n (bytes_of s (next_word s at)) ≡ Ok value
  rest : columns_from cs (count_after c value n) s (next_word s at).end ≡ Ok e

head : (c : Kind) (cs : List Kind) (n : ℕ) (s : List ℕ) (at e : ℕ) → columns_from (c ∷ cs) n s at ≡ Ok e → Head c cs n s at e
unfolding columns_from field_from
head c cs n s at e q = go (spelt c n (bytes_of s (next_word s at))) refl q
  where
    go : (x : Result ℕ Fault) → spelt c n (bytes_of s (next_word s at)) ≡ x → then_columns (field_of x (next_word s at)) (λ v w. columns_from cs (count_after c v n) s w.end) ≡ Ok e → Head c cs n s at e
    go (Ok v) p q = record { value = v; says = p; rest = q }
    go (Err bad) p q = absurd (let y : ◌≡◌ {A = ℕ} 0 1 = cc in omega arith)

-- two numbers for each column
pub values_length : (cs : List Kind) (n : ℕ) (s : List ℕ) (at e : ℕ) → columns_from cs n s at ≡ Ok e → length (values_from cs n s at) ≡ 2 * length cs
unfolding values_from field_from
values_length [] n s at e q = refl
values_length (c ∷ cs) n s at e q =
    let f = head c cs n s at e q in
    rw f.says (omega (arith, values_length cs (count_after c f.value n) s (next_word s at).end e f.rest))

-- stores from a base on leave what stands before it
set_keep : (d : List ℕ) (i x b m : ℕ) → b + m ≤ i → take m (drop b (set d i x)) ≡ take m (drop b d)
set_keep d i x b m h =
    let q : i ≡ b + (i - b) = omega arith in
    rw (q, drop-set-add b d (i - b) x) (take-set-le m (drop b d) (i - b) x (omega arith))

pub sets_keep : (d : List ℕ) (base : ℕ) (xs : List ℕ) (b m : ℕ) → b + m ≤ base → take m (drop b (sets d base xs)) ≡ take m (drop b d)
sets_keep d base [] b m h = refl
sets_keep d base (x ∷ xs) b m h = sets_keep (set d base x) (suc base) xs b m (omega arith) ∙ set_keep d base x b m h

-- and put what is stored at the base
pub sets_there : (d : List ℕ) (base : ℕ) (xs : List ℕ) → base + length xs ≤ length d → take (length xs) (drop base (sets d base xs)) ≡ xs
sets_there d base xs h =
    let l : length (take base d) ≡ base = rw length-take (omega arith) in
    rw (sets-eq xs d base h, append_assoc, drop_at (take base d) (xs ++ drop (base + length xs) d) base l) (take_at xs (drop (base + length xs) d) (length xs) refl)

base_grows : (t : Bool) (stride base : ℕ) → base ≤ pick_base t stride base
base_grows true stride base = omega arith
base_grows false stride base = omega arith

-- the lists of a line leave what stands before their base, and the length of the table
pub lists_keep : (stride : ℕ) (cs : List Kind) (n : ℕ) (s : List ℕ) (at e base : ℕ) (d : List ℕ) → columns_from cs n s at ≡ Ok e → (b m : ℕ) → b + m ≤ base → take m (drop b (lists_by stride cs n s at base d)) ≡ take m (drop b d)
unfolding lists_by field_from
lists_keep stride [] n s at e base d q b m h = refl
lists_keep stride (c ∷ cs) n s at e base d q b m h =
    let f = head c cs n s at e q in
    let xs = items_in c (bytes_of s (next_word s at)) in
    rw f.says
    (lists_keep stride cs (count_after c f.value n) s (next_word s at).end e (base_by stride c base) (sets d base xs) f.rest b m (omega (arith, base_grows (is_list c) stride base)) ∙ sets_keep d base xs b m h)

pub lists_length : (stride : ℕ) (cs : List Kind) (n : ℕ) (s : List ℕ) (at e base : ℕ) (d : List ℕ) → columns_from cs n s at ≡ Ok e → length (lists_by stride cs n s at base d) ≡ length d
unfolding lists_by field_from
lists_length stride [] n s at e base d q = refl
lists_length stride (c ∷ cs) n s at e base d q =
    let f = head c cs n s at e q in
    let xs = items_in c (bytes_of s (next_word s at)) in
    rw f.says (lists_length stride cs (count_after c f.value n) s (next_word s at).end e (base_by stride c base) (sets d base xs) f.rest ∙ length-sets d base xs)

-- the list of column k stands at its place
pub lists_at : (stride : ℕ) (cs : List Kind) (n : ℕ) (s : List ℕ) (at e base : ℕ) (d : List ℕ) → columns_from cs n s at ≡ Ok e → (k : ℕ) → k < length cs → is_list (kind_at cs k) ≡ true → (m : ℕ)
    → length (items_in (kind_at cs k) (bytes_of s (word_at s at k))) ≡ m → m ≤ stride → base_before stride cs base k + m ≤ length d
    → take m (drop (base_before stride cs base k) (lists_by stride cs n s at base d)) ≡ items_in (kind_at cs k) (bytes_of s (word_at s at k))
unfolding lists_by field_from word_at
lists_at stride [] n s at e base d q k h t m l small fits = absurd (omega arith)
lists_at stride (c ∷ cs) n s at e base d q zero h t m l small fits =
    let f = head c cs n s at e q in
    let xs = items_in c (bytes_of s (next_word s at)) in
    let room : base + m ≤ base_by stride c base = rw t (omega arith) in
    let there : take m (drop base (sets d base xs)) ≡ xs = rw l at (sets_there d base xs (rw l fits)) in
    rw f.says (lists_keep stride cs (count_after c f.value n) s (next_word s at).end e (base_by stride c base) (sets d base xs) f.rest base m room ∙ there)
lists_at stride (c ∷ cs) n s at e base d q (suc k) h t m l small fits =
    let f = head c cs n s at e q in
    let xs = items_in c (bytes_of s (next_word s at)) in
    let l' : length (items_in (kind_at cs k) (bytes_of s (word_at s (next_word s at).end k))) ≡ m = rw (word_later s at k) at l in
    rw (f.says, word_later s at k)
    (lists_at stride cs (count_after c f.value n) s (next_word s at).end e (base_by stride c base) (sets d base xs) f.rest k (omega arith) t m l' small (rw length-sets fits))
