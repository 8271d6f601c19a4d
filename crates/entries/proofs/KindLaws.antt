-- The entries by the kind of text. Assumes nothing.
use mathlib.Core.Path.{◌≡◌}
use mathlib.Core.List.{List}
use Prim.Native.Nat.{ℕ}
use borrow.Author.Tests.{ne_eqb}
use Rattle.ledger.specs.Refusals.{without_text}
use Rattle.ledger.specs.declared.Reason.TheVariants.{BadWord}
use Rattle.answers.specs.Answers.{Outcome, refuses_by, Answered}
use Rattle.answers.proofs.AnswerLaws.{refused_is}
use Rattle.entries.specs.Entries.{by_kind}

module _ (kind : ℕ) (x y z : Outcome) where
  kind_bed : kind ≡ 1 → by_kind kind x y z ≡ x
  unfolding by_kind
  kind_bed e = rw e

  kind_psl : kind ≡ 2 → by_kind kind x y z ≡ y
  unfolding by_kind
  kind_psl e = rw e

  kind_chain : kind ≡ 3 → by_kind kind x y z ≡ z
  unfolding by_kind
  kind_chain e = rw e

  kind_other : (kind ≡ 1 → ⊥) → (kind ≡ 2 → ⊥) → (kind ≡ 3 → ⊥) → by_kind kind x y z ≡ refuses_by BadWord
  unfolding by_kind
  kind_other f g h = rw (ne_eqb kind 1 f, ne_eqb kind 2 g, ne_eqb kind 3 h)

  module _ (r : ℕ) where
    pub code_bed : kind ≡ 1 → r ≡ x.answer → r ≡ (by_kind kind x y z).answer
    code_bed e q = rw (kind_bed e) q

    pub code_psl : kind ≡ 2 → r ≡ y.answer → r ≡ (by_kind kind x y z).answer
    code_psl e q = rw (kind_psl e) q

    pub code_chain : kind ≡ 3 → r ≡ z.answer → r ≡ (by_kind kind x y z).answer
    code_chain e q = rw (kind_chain e) q

    pub code_other : (kind ≡ 1 → ⊥) → (kind ≡ 2 → ⊥) → (kind ≡ 3 → ⊥) → r ≡ (refuses_by BadWord).answer → r ≡ (by_kind kind x y z).answer
    code_other f g h q = rw (kind_other f g h) q

    pub by_bed : (b b' : List ℕ) → kind ≡ 1 → Answered x b b' r → Answered (by_kind kind x y z) b b' r
    by_bed b b' e q = rw (kind_bed e) q

    pub by_psl : (b b' : List ℕ) → kind ≡ 2 → Answered y b b' r → Answered (by_kind kind x y z) b b' r
    by_psl b b' e q = rw (kind_psl e) q

    pub by_chain : (b b' : List ℕ) → kind ≡ 3 → Answered z b b' r → Answered (by_kind kind x y z) b b' r
    by_chain b b' e q = rw (kind_chain e) q

    pub by_other : (b : List ℕ) → (kind ≡ 1 → ⊥) → (kind ≡ 2 → ⊥) → (kind ≡ 3 → ⊥) → r ≡ (refuses_by BadWord).answer → Answered (by_kind kind x y z) b b r
    by_other b f g h q = rw (kind_other f g h) (refused_is (without_text BadWord) b r q)
