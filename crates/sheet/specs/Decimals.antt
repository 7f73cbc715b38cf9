-- Numbers whose value stops at 4,294,967,296.
use Rattle.std.proofs.Math.Option as math
use Rattle.std.specs.Prelude.{Option, Some, None, [], ◌∷◌, ℕ, ◌+◌, ◌-◌, ◌*◌, min, if◌then◌else◌}
use Rattle.spec.specs.Basics.{Text}
use Rattle.spec.specs.Sheet.{is_digit}

abbrev pub capped : ℕ → ℕ
capped v = min v 4294967296

-- digits read on from a value; none where one is no digit
unfoldable pub capped_from : ℕ → Text → math.Option ℕ
capped_from v [] = math.some v
capped_from v (c ∷ d) = if is_digit c then capped_from (capped (10 * v + (c - 48))) d else math.none

abbrev pub got_decimal : Option ℕ → math.Option ℕ
got_decimal (Some v) = math.some v
got_decimal None = math.none
