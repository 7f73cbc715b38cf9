-- Chains of scopes. Assumes nothing.
use mathlib.Core.Path.{◌≡◌, refl}
use mathlib.Core.List.{List, [], ◌∷◌}
use mathlib.Core.Option.{Option, none, some}
use Prim.Native.Nat.{ℕ, zero, suc, ◌+◌, ◌≤◌}
use native.Mathlib.Omega.{arith}
use lib.ListN.{length}
use Rattle.spec.specs.Scopes.{Scope}
use Rattle.spec.specs.Answer.{scope_at, chain_to, chain}
use Rattle.module.specs.declared.ids.ScopeId.{ScopeId}
use Rattle.resolve.specs.declared.chain.ScopeChain.{ScopeChain}
use Rattle.resolve.specs.Chain.{scopes_left}
use Rattle.std.specs.Iterator.{YieldsFirstBy}
use Rattle.std.specs.Prelude as rust

pub not_some : {A : Type 0} {x : A} → none ≡ some x → ⊥
not_some e = let z : ◌≡◌ {A = ℕ} 0 1 = cc in omega arith

module _ (scopes : List Scope) where
  pub chain_none : (n : ℕ) → chain_to scopes n none ≡ []
  unfolding chain_to
  chain_none zero = refl
  chain_none (suc n) = refl

  to_low : (n : ℕ) (o : Option ℕ) → length (chain_to scopes n o) ≤ n
  unfolding chain_to
  to_low zero o = omega arith
  to_low (suc n) none = omega arith
  to_low (suc n) (some s) = omega (arith, to_low n (scope_at scopes s).parent)

  pub chain_low : (s : ℕ) → length (chain scopes s) ≤ s + 1
  unfolding chain
  chain_low s = omega (arith, to_low (suc s) (some s))

-- ---- one after the other
module _ (c d : ScopeChain) {r : rust.Option ScopeId} (gives : YieldsFirstBy (λ (i : ScopeId). i.0) scopes_left c r d) where
  pub one_comes : {i : ScopeId} → r ≡ rust.Some i → scopes_left c ≡ i.0 ∷ scopes_left d
  one_comes e = rw e at gives

  pub none_comes : r ≡ rust.None → scopes_left c ≡ []
  none_comes e = (rw e at gives).0
