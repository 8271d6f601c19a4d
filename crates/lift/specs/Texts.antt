-- Lifting through a chain's text: refused as the text is, or lifted through the chain that it says.
use Rattle.std.specs.Prelude.{ℕ, ◌≡◌, List, Ok, Err, Result, ℤ}
use Rattle.ledger.specs.declared.Refusal.{Refusal}
use Rattle.chain.specs.declared.Chain.{Chain}
use Rattle.chain.specs.Records.{chain_rows}
use Rattle.chain.specs.Read.{chain_check, Held}
use Rattle.lift.specs.Positions.{lift_position}

-- the answer for a text that is refused, or for its chain
abbrev pub of_checked : {A : Type 0} → (Refusal → A) → (Chain → A) → Result Chain Refusal → A
of_checked refused rest (Ok c) = rest c
of_checked refused rest (Err x) = refused x

unfoldable pub text_position : List ℕ → ℕ → Result (ℕ × ℤ) Refusal
text_position s p = of_checked Err (λ c. lift_position c (chain_rows s c) p) (chain_check s)

-- the rows of an accepted chain's text, in the working room
pub record ChainHeld (s : List ℕ) (c : Chain) (rows : List ℕ) : Type 0 where
  pub is : chain_check s ≡ Ok c
  pub held : Held s c rows
