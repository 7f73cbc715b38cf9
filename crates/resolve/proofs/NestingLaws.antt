-- A scope sought along the chain of another. Assumes nothing.
use mathlib.Core.Path.{◌≡◌, refl, ap}
use mathlib.Core.Bool.{Bool, ◌||◌}
use mathlib.Core.List.{List, [], ◌∷◌}
use Prim.Native.Nat.{ℕ}
use lib.Dec.{eqb}
use Rattle.spec.specs.Scopes.{is_in}
use Rattle.std.specs.List.{list_any}

-- ---- along the chain
pub any_is : (h : ℕ) (ss : List ℕ) → list_any (λ i. eqb h i) ss ≡ is_in h ss
unfolding is_in
any_is h [] = refl
any_is h (s ∷ ss) = ap (λ (b : Bool). eqb h s || b) (any_is h ss)
