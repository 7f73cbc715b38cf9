-- What a counter's test says. Assumes nothing.
use mathlib.Core.Path.{◌≡◌, sym, ◌∙◌}
use mathlib.Core.Bool.{Bool, true, false}
use Prim.Native.Nat.{ℕ, ◌≤◌, ◌<◌}
use native.Mathlib.Omega.{arith}
use lib.Dec.{ltb}
use borrow.Author.Tests.{ltb-true, ltb-false}

pub room_left : (r : Bool) (n limit : ℕ) → r ≡ ltb n limit → r ≡ true → n < limit
room_left r n limit e h = ltb-true n limit (sym e ∙ h)

pub room_gone : (r : Bool) (n limit : ℕ) → r ≡ ltb n limit → r ≡ false → limit ≤ n
room_gone r n limit e h = ltb-false n limit (sym e ∙ h)

-- the next number is one too
pub small_next : (r : Bool) (n limit : ℕ) → r ≡ ltb n limit → r ≡ true → limit ≤ 4294967295 → n < 4294967295
small_next r n limit e h l = omega (arith, room_left r n limit e h)
