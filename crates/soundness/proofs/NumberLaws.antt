-- What holds at each of the numbers below a bound, one by one. Assumes nothing.
use mathlib.Core.Path.{◌≡◌, refl}
use mathlib.Core.Bool.{Bool, true, false}
use Prim.Native.Nat.{ℕ, zero, suc, ◌≤◌, ◌<◌}
use native.Mathlib.Nat.{not-suc-le-zero}
use native.Mathlib.Omega.{arith}
use lib.Dec.{eqb}
use borrow.Author.Tests.{eqb-true, eqb-false}

-- a case that there is not
pub no_such : {A : Type 0} → false ≡ true → A
no_such h = let z : ◌≡◌ {A = ℕ} 0 1 = cc in absurd (omega arith)

-- at 0, 1, .., n - 1
abbrev pub UpTo : (ℕ → Type 0) → ℕ → Type 0
UpTo P zero = Unit {0}
UpTo P (suc n) = UpTo P n × P n

pub at_each : (P : ℕ → Type 0) (n : ℕ) → UpTo P n → (k : ℕ) → k < n → P k
at_each P zero h k l = absurd (not-suc-le-zero l)
at_each P (suc n) h k l = here (eqb k n) refl (at_each P n h.0 k)
  where
    here : (b : Bool) → eqb k n ≡ b → (k < n → P k) → P k
    here true e below = rw (eqb-true k n e) h.1
    here false e below = let other : k ≡ n → ⊥ = eqb-false k n e in below (omega (arith, other))

-- ---- the tags of items
pub by_tag : (P : ℕ → Type 0) → P 0 → P 1 → P 2 → P 3 → P 4 → P 5 → P 6 → P 7 → P 8 → P 9 → (tag : ℕ) → tag ≤ 9 → P tag
by_tag P p₀ p₁ p₂ p₃ p₄ p₅ p₆ p₇ p₈ p₉ tag l = at_each P 10 ((((((((((tt, p₀), p₁), p₂), p₃), p₄), p₅), p₆), p₇), p₈), p₉) tag (omega arith)

-- ---- the sorts of expressions
pub by_sort : (P : ℕ → Type 0) → P 0 → P 1 → P 2 → P 3 → P 4 → P 5 → P 6 → P 7 → P 8 → P 9
    → P 10 → P 11 → P 12 → P 13 → P 14 → P 15 → P 16 → P 17 → P 18 → P 19
    → P 20 → P 21 → P 22 → P 23 → P 24 → P 25 → P 26 → P 27 → P 28 → (sort : ℕ) → sort ≤ 28 → P sort
by_sort P p₀ p₁ p₂ p₃ p₄ p₅ p₆ p₇ p₈ p₉ q₀ q₁ q₂ q₃ q₄ q₅ q₆ q₇ q₈ q₉ r₀ r₁ r₂ r₃ r₄ r₅ r₆ r₇ r₈ sort l =
    let to_9 : UpTo P 10 = ((((((((((tt, p₀), p₁), p₂), p₃), p₄), p₅), p₆), p₇), p₈), p₉) in
    let to_19 : UpTo P 20 = ((((((((((to_9, q₀), q₁), q₂), q₃), q₄), q₅), q₆), q₇), q₈), q₉) in
    at_each P 29 (((((((((to_19, r₀), r₁), r₂), r₃), r₄), r₅), r₆), r₇), r₈) sort (omega arith)
