-- Rules over the kinds, each shown by one computed test of the numbers below 34. Assumes nothing.
use mathlib.Core.Path.{◌≡◌, refl}
use mathlib.Core.Bool.{Bool, true, false, ◌&&◌, ◌||◌}
use mathlib.Core.List.{List, [], ◌∷◌}
use mathlib.Core.Logic.{inl, inr}
use Prim.Native.Nat.{ℕ, zero, suc, ◌<◌}
use native.Mathlib.Nat.{not-suc-le-zero}
use native.Mathlib.Omega.{arith}
use lib.Dec.{T, eqb}
use borrow.Author.Tests.{eqb-true, eqb-false}
use mir.Facts.{and_yes}
use mir.Val.{has_key}
use types.Run.{OneOf, hit}

pub or_second : (a b : Bool) → T (a || b) → a ≡ false → T b
or_second true b h e = let z : ◌≡◌ {A = ℕ} 0 1 = cc in absurd (omega arith)
or_second false b h e = h

-- a test passes at every number below n
abbrev pub all_up_to : ℕ → (ℕ → Bool) → Bool
all_up_to zero P = true
all_up_to (suc n) P = P n && all_up_to n P

pub at_number : (n : ℕ) (P : ℕ → Bool) → T (all_up_to n P) → (k : ℕ) → k < n → T (P k)
at_number zero P h k l = absurd (not-suc-le-zero l)
at_number (suc n) P h k l = here (eqb k n) refl (at_number n P (and_yes (P n) (all_up_to n P) h).1 k)
  where
    here : (b : Bool) → eqb k n ≡ b → (k < n → T (P k)) → T (P k)
    here true e below = rw (eqb-true k n e) (and_yes (P n) (all_up_to n P) h).0
    here false e below = let other : k ≡ n → ⊥ = eqb-false k n e in below (omega (arith, other))

-- ---- keys of a `match`
-- none of the keys of the arms, the last arm first
abbrev pub NoneOf : List (List ℕ) → ℕ → Type 0
NoneOf [] k = Unit {0}
NoneOf (ks ∷ kss) k = NoneOf kss k × (OneOf ks k → ⊥)

abbrev pub some_key : List (List ℕ) → ℕ → Bool
some_key [] k = false
some_key (ks ∷ kss) k = has_key ks k || some_key kss k

pub no_key : (kss : List (List ℕ)) (k : ℕ) → NoneOf kss k → some_key kss k ≡ false
no_key [] k h = refl
no_key (ks ∷ kss) k h = missed (has_key ks k) refl (no_key kss k h.0)
  where
    missed : (b : Bool) → has_key ks k ≡ b → some_key kss k ≡ false → (b || some_key kss k) ≡ false
    missed true e others = absurd (h.1 (hit ks k (rw e tt)))
    missed false e others = others

-- what holds at each key holds at one of them
abbrev pub AtKeys : (ℕ → Type 0) → List ℕ → Type 0
AtKeys P [] = Unit {0}
AtKeys P (k ∷ ks) = P k × AtKeys P ks

pub at_key : (P : ℕ → Type 0) (ks : List ℕ) (k : ℕ) → AtKeys P ks → OneOf ks k → P k
at_key P [] k all h = absurd h
at_key P (j ∷ []) k all h = rw h all.0
at_key P (j ∷ (i ∷ is)) k all (inl h) = rw h all.0
at_key P (j ∷ (i ∷ is)) k all (inr h) = at_key P (i ∷ is) k all.1 h
