-- Tests that pass and fail. Assumes nothing.
use mathlib.Core.Path.{◌≡◌, refl}
use mathlib.Core.Bool.{Bool, true, false, ◌||◌}
use Prim.Native.Nat.{ℕ}
use native.Mathlib.Omega.{arith}

-- nothing is both true and false
pub differ : {A : Type 0} → true ≡ false → A
differ h = absurd (let z : ◌≡◌ {A = ℕ} 0 1 = cc in omega arith)

-- of two tests, neither of which passes
pub neither : (a b : Bool) → a || b ≡ false → (a ≡ false) × (b ≡ false)
neither true b h = differ h
neither false b h = (refl, h)

-- what cannot be false is true
pub decided : (b : Bool) → ¬ (b ≡ false) → b ≡ true
decided true h = refl
decided false h = absurd (h refl)
