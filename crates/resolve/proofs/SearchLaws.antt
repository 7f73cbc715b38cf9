-- The search for the innermost definition, one scope after the other. Assumes nothing.
use mathlib.Core.Path.{◌≡◌, refl}
use mathlib.Core.List.{List, ◌∷◌}
use mathlib.Core.Option.{none, some}
use Prim.Native.Nat.{ℕ}
use Rattle.spec.specs.Basics.{Text}
use Rattle.spec.specs.Scopes.{Scope}
use Rattle.spec.specs.Answer.{scope_at, defined_in, innermost}

module _ (text_of : ℕ → Text) (scopes : List Scope) (t : Text) {i : ℕ} {ss rest : List ℕ} (e : ss ≡ i ∷ rest) where
  pub search_here : {x : ℕ} → some x ≡ defined_in text_of t (scope_at scopes i).kind → innermost text_of scopes t ss ≡ some (i, x)
  unfolding innermost
  search_here h = rw (e, ← h) refl

  pub search_on : none ≡ defined_in text_of t (scope_at scopes i).kind → innermost text_of scopes t ss ≡ innermost text_of scopes t rest
  unfolding innermost
  search_on h = rw (e, ← h) refl
