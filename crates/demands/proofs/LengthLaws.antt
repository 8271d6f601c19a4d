-- The standard text of a record that obeys its rules keeps the text limit: no number has more than twenty digits, and no record more blocks than its limit. Assumes nothing.
use mathlib.Core.Bool.{Bool, true, false, cond}
use mathlib.Core.List.{List, [], ◌∷◌, ◌++◌}
use Prim.Native.Nat.{ℕ, zero, suc, ◌+◌, ◌-◌, ◌*◌, ◌≤◌}
use native.Mathlib.Omega.{arith}
use lib.ListN.{length, take, get_or, length-append, length-take}
use lib.Dec.{eqb}
use Rattle.ledger.specs.Limits.{text_limit, name_limit, block_limit}
use Rattle.text.specs.Pieces.{joined}
use Rattle.text.proofs.Laws.{either}
use Rattle.writing.specs.Digits.{digits, list_text}
use Rattle.writing.proofs.DigitLaws.{digits_length}
use Rattle.kinds.specs.Words.{red_of, green_of, blue_of, colour_text}
use Rattle.blocks.specs.Blocks.{subtracted}
use Rattle.blocks.proofs.RuleLaws.{subtracted_length}
use Rattle.bed.specs.declared.Bed.{Bed}
use Rattle.bed.specs.Rules as bed
use Rattle.bed.specs.Write.{bed_words, bed_text}
use Rattle.psl.specs.declared.Psl.{Psl}
use Rattle.psl.specs.Rules as psl
use Rattle.psl.specs.Write.{psl_words, psl_text}
use Rattle.chain.specs.declared.Chain.{Chain}
use Rattle.chain.specs.Rules as chain
use Rattle.chain.specs.Write.{head_words, fed_words, gap_to, gap_words, block_text, chain_text}

-- the bytes of some words, with one more for each
abbrev pub spread : List (List ℕ) → ℕ
spread [] = 0
spread (w ∷ ws) = length w + 1 + spread ws

-- words put together take no more
joined_short : (sep : ℕ) (ws : List (List ℕ)) → length (joined sep ws) ≤ spread ws
unfolding joined
joined_short sep [] = omega arith
joined_short sep (w ∷ []) = omega arith
joined_short sep (w ∷ (v ∷ ws)) = rw length-append (omega (arith, joined_short sep (v ∷ ws)))

fed_short : (sep : ℕ) (ws : List (List ℕ)) → length (joined sep ws ++ (10 ∷ [])) ≤ spread ws + 1
fed_short sep ws = rw length-append (omega (arith, joined_short sep ws))

spread_take : (n : ℕ) (ws : List (List ℕ)) → spread (take n ws) ≤ spread ws
spread_take zero ws = omega arith
spread_take (suc n) [] = omega arith
spread_take (suc n) (w ∷ ws) = omega (arith, spread_take n ws)

-- a list of numbers, each with its comma
list_short : (vs : List ℕ) → length (list_text vs) ≤ 21 * length vs
unfolding list_text
list_short [] = omega arith
list_short (v ∷ vs) = rw length-append (omega (arith, digits_length v, list_short vs))

first_short : (n : ℕ) (vs : List ℕ) → n ≤ block_limit → length (list_text (take n vs)) ≤ 21 * block_limit
first_short n vs h = omega (arith, list_short (take n vs), length-take n vs)

colour_short : (v : ℕ) → length (colour_text v) ≤ 62
unfolding colour_text
colour_short v = go (eqb v 0)
  where
    go : (t : Bool) → length (cond t (48 ∷ []) (digits (red_of v) ++ (44 ∷ (digits (green_of v) ++ (44 ∷ digits (blue_of v)))))) ≤ 62
    go true = omega arith
    go false = simp length-append (omega (arith, digits_length (red_of v), digits_length (green_of v), digits_length (blue_of v)))

-- BED: a line of any number of words is no longer than one of twelve
pub bed_short : (r : Bed) (chrom name ts qs zs : List ℕ) → bed.BedRules (bed.named r chrom name) ts qs zs → length (bed_text r chrom name ts zs) ≤ text_limit
unfolding bed_text bed_words
bed_short r chrom name ts qs zs k =
    let n = r.blockCount in
    let short : length name ≤ name_limit = either r.words 3 _ (λ h. omega (arith, k.no_name h)) (λ h. k.name_short h) in
    let starts = subtracted r.chromStart (take n ts) in
    omega (
      arith,
      fed_short 9 (take r.words (bed_words r chrom name ts zs)),
      spread_take r.words (bed_words r chrom name ts zs),
      k.chrom_short,
      k.rows.few_blocks,
      digits_length r.chromStart,
      digits_length r.chromEnd,
      digits_length r.score,
      digits_length r.thickStart,
      digits_length r.thickEnd,
      colour_short r.itemRgb,
      digits_length r.blockCount,
      first_short n zs k.rows.few_blocks,
      list_short starts,
      subtracted_length r.chromStart (take n ts),
      length-take n ts,
    )

-- PSL
pub psl_short : (r : Psl) (query target ts qs zs : List ℕ) → psl.PslRules (psl.named r query target) ts qs zs → length (psl_text r query target ts qs zs) ≤ text_limit
unfolding psl_text psl_words
psl_short r query target ts qs zs k =
    let n = r.blockCount in
    let c = r.counts in
    omega (
      arith,
      fed_short 9 (psl_words r query target ts qs zs),
      k.query_range.name_short,
      k.target_range.name_short,
      digits_length c.matches,
      digits_length c.misMatches,
      digits_length c.repMatches,
      digits_length c.nCount,
      digits_length c.qNumInsert,
      digits_length c.qBaseInsert,
      digits_length c.tNumInsert,
      digits_length c.tBaseInsert,
      digits_length r.query.size,
      digits_length r.query.start,
      digits_length r.query.end,
      digits_length r.target.size,
      digits_length r.target.start,
      digits_length r.target.end,
      digits_length n,
      first_short n zs k.rows.few_blocks,
      first_short n qs k.rows.few_blocks,
      first_short n ts k.rows.few_blocks,
    )

-- a chain's block lines: three numbers each at most
three_short : (a b c : ℕ) → length (fed_words (digits a ∷ digits b ∷ digits c ∷ [])) ≤ 64
three_short a b c = omega (arith, fed_short 32 (digits a ∷ digits b ∷ digits c ∷ []), digits_length a, digits_length b, digits_length c)

block_short : (k i : ℕ) (ts qs zs : List ℕ) → length (block_text k i ts qs zs) ≤ 64 * (k + 1)
unfolding block_text gap_words
block_short zero i ts qs zs = omega (arith, fed_short 32 (digits (get_or zs i 0) ∷ []), digits_length (get_or zs i 0))
block_short (suc k) i ts qs zs =
    let z = get_or zs i 0 in
    rw length-append (omega (arith, three_short z (gap_to (get_or ts i 0) z (get_or ts (suc i) 0)) (gap_to (get_or qs i 0) z (get_or qs (suc i) 0)), block_short k (suc i) ts qs zs))

-- CHAINS
pub chain_short : (r : Chain) (target query ts qs zs : List ℕ) → chain.ChainRules (chain.named r target query) ts qs zs → length (chain_text r target query ts qs zs) ≤ text_limit
unfolding chain_text head_words
chain_short r target query ts qs zs k =
    rw length-append
    (omega (
      arith,
      fed_short 32 (head_words r target query),
      k.t_name_short,
      k.q_name_short,
      k.rows.some_block,
      k.rows.few_blocks,
      digits_length r.score,
      digits_length r.tSize,
      digits_length r.tStart,
      digits_length r.tEnd,
      digits_length r.qSize,
      digits_length r.qStart,
      digits_length r.qEnd,
      digits_length r.id,
      block_short (r.blockCount - 1) 0 ts qs zs,
    ))
