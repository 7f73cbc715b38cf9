-- The number that a text says, capped, one byte after the other. Assumes nothing.
use mathlib.Core.Path.{◌≡◌, refl}
use mathlib.Core.List.{[], ◌∷◌, ◌++◌}
use Prim.Native.Nat.{ℕ, ◌+◌, ◌-◌, ◌*◌}
use native.Mathlib.Omega.{arith}
use Rattle.spec.specs.Basics.{Text}
use Rattle.spec.specs.Sheet.{bits_from, value_from}
use Rattle.keys.specs.Literals.{capped}

-- ---- one byte more at the end
value_more : (t : Text) (c v : ℕ) → value_from v (t ++ (c ∷ [])) ≡ 10 * value_from v t + (c - 48)
unfolding value_from
value_more [] c v = refl
value_more (d ∷ t) c v = value_more t c (10 * v + (d - 48))

bits_more : (t : Text) (c v : ℕ) → bits_from v (t ++ (c ∷ [])) ≡ 256 * bits_from v t + c
unfolding bits_from
bits_more [] c v = refl
bits_more (d ∷ t) c v = bits_more t c (256 * v + d)

-- ---- a capped number goes on like the number itself
pub value_capped : (t : Text) (c v w : ℕ) → v ≡ capped (value_from 0 t) → w ≡ capped (10 * v + (c - 48)) → w ≡ capped (value_from 0 (t ++ (c ∷ [])))
value_capped t c v w e f = omega (arith, value_more t c 0)

pub bits_capped : (t : Text) (c v w : ℕ) → v ≡ capped (bits_from 0 t) → w ≡ capped (256 * v + c) → w ≡ capped (bits_from 0 (t ++ (c ∷ [])))
bits_capped t c v w e f = omega (arith, bits_more t c 0)
