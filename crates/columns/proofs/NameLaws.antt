-- Two names in a text of their own. Assumes nothing.
use mathlib.Core.Path.{◌≡◌, ◌∙◌}
use mathlib.Core.List.{List}
use Prim.Native.Nat.{ℕ, ◌*◌, ◌≤◌}
use native.Mathlib.Omega.{arith}
use lib.ListN.{length}
use lib.Seq.{sets, length-sets}
use Rattle.ledger.specs.Limits.{name_limit}
use Rattle.writing.specs.Puts.{Put}
use Rattle.columns.specs.Names.{names_in, NamesPut}
use Rattle.columns.proofs.PlaceLaws.{sets_keep, sets_there}

pub names_stored : (first second t t₁ t₂ : List ℕ) (p q : ℕ) → Put first 0 t t₁ p → Put second name_limit t₁ t₂ q → t₂ ≡ names_in first second t
unfolding names_in
names_stored first second t t₁ t₂ p q f g = rw (g.stored, f.stored)

-- names of at most the limit's length stand in room for two
pub names_put : (first second t names : List ℕ) → names ≡ names_in first second t → length t ≡ 2 * name_limit → length first ≤ name_limit → length second ≤ name_limit → NamesPut first second names
unfolding names_in
names_put first second t names e long f s = record {
  first_at = rw e (sets_keep (sets t 0 first) name_limit second 0 (length first) (omega arith) ∙ sets_there t 0 first (omega arith));
  second_at = rw e (sets_there (sets t 0 first) name_limit second (rw length-sets (omega arith)));
}
