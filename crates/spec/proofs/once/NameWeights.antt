-- A let and a rec set enter each of their names once, so that their names weigh no more than was paid for them. Assumes
-- nothing.
use mathlib.Core.Bool.{Bool, true, false}
use mathlib.Core.List.{List, [], ◌∷◌}
use Prim.Native.Nat.{◌+◌, ◌≤◌}
use native.Mathlib.Omega.{arith}
use Rattle.words.specs.Order.{pick}
use Rattle.spec.specs.Basics.{NameId}
use Rattle.spec.specs.Module.{BindingValue}
use Rattle.spec.specs.Scopes.{is_definition, name_at, defined}
use Rattle.spec.proofs.general.Sums.{sum_by}
use Rattle.spec.proofs.once.Weights.{Scale}

module _ (σ : Scale) where
  pub defined_weigh : (bs : List (NameId × BindingValue)) → sum_by σ.of_name (defined σ.lowered bs) ≤ sum_by (λ b. σ.of_name b.0) bs
  unfolding defined
  defined_weigh [] = omega arith
  defined_weigh (b ∷ bs) = go (is_definition (name_at σ.lowered b.0).kind) (defined_weigh bs)
    where
      go : (c : Bool) → sum_by σ.of_name (defined σ.lowered bs) ≤ sum_by (λ b. σ.of_name b.0) bs
          → sum_by σ.of_name (pick c (b.0 ∷ defined σ.lowered bs) (defined σ.lowered bs)) ≤ σ.of_name b.0 + sum_by (λ b. σ.of_name b.0) bs
      go true h = omega arith
      go false h = omega arith
