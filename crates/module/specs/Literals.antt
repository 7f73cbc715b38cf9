-- Literals: what each is in the definitions, and which of them a module can have.
use Rattle.std.specs.Prelude.{◌≡◌, ℕ, ◌≤◌, ℤ, pos, negsuc, Float}
use Rattle.std.specs.Float.Ieee as Ieee
use Rattle.std.specs.Float.{binary64}
use Rattle.spec.specs.Basics.{Text}
use Rattle.spec.specs.Module as spec
use Rattle.module.specs.declared.literal.Literal.{Literal}
use Rattle.module.specs.declared.literal.Literal.TheVariants as code

-- The bits of an f64. The logic has one NaN, and gives it the pattern 7ff8000000000000 hex.
unfoldable pub float_bits : Float → ℕ
float_bits x = Ieee.to_bits binary64 x

-- the value of an integer, and 0 for a negative one
unfoldable pub nat_of : ℤ → ℕ
nat_of (pos n) = n
nat_of (negsuc n) = 0

-- A text is known by its number: text_of gives the bytes.
unfoldable pub literal_of : (ℕ → Text) → Literal → spec.Literal
literal_of text_of (code.Float x) = spec.float (float_bits x)
literal_of text_of (code.Integer n) = spec.integer (nat_of n)
literal_of text_of (code.Text t) = spec.string (text_of t.0)
literal_of text_of (code.Path t) = spec.path (text_of t.0)
literal_of text_of code.Uri = spec.uri

-- What a Nix text can write has no sign and is no NaN. 9218868437227405312 is 7ff0000000000000 hex, the bits of
-- infinity: those of a NaN are above it, and so are all with the sign's bit.
unfoldable pub Unsigned : Float → Type 0
Unsigned x = float_bits x ≤ 9218868437227405312

-- not negative, and an i64
unfoldable pub NotNegative : ℤ → Type 0
NotNegative n = (n ≡ pos (nat_of n)) × (nat_of n ≤ 9223372036854775807)

unfoldable pub Valid : Literal → Type 0
Valid (code.Float x) = Unsigned x
Valid (code.Integer n) = NotNegative n
Valid (code.Text t) = Unit {0}
Valid (code.Path t) = Unit {0}
Valid code.Uri = Unit {0}
