-- Hex as the code reads it: each two digits are a byte, and a digit that is none counts as 0. Where a text is hex, this
-- gives the bytes that `hex` does (proofs/TextLaws.antt, `hex_decoded`, `text_agree`).
use Rattle.std.proofs.Math.Option as math
use Rattle.std.specs.Prelude.{Option, Some, None, Bool, true, false, List, [], ◌∷◌, ℕ, ◌+◌, ◌*◌}
use Rattle.spec.specs.Basics.{Text, maybe}
use Rattle.spec.specs.Sheet.{Got, got, bad, malformed, hex_digit, hex}
use Rattle.sheet.specs.Lines.{span_of}
use Rattle.sheet.specs.Verdicts.{Formed}
use Rattle.sheet.specs.declared.position.Span.{Span}

abbrev pub is_there : {A : Type 0} → math.Option A → Bool
is_there o = maybe o false (λ a. true)

unfoldable pub is_hex : ℕ → Bool
is_hex c = is_there (hex_digit c)

unfoldable pub digit_of : ℕ → ℕ
digit_of c = maybe (hex_digit c) 0 (λ x. x)

unfoldable pub decoded : Text → Text
decoded [] = []
decoded (a ∷ []) = []
decoded (a ∷ b ∷ l) = (16 * digit_of a + digit_of b) ∷ decoded l

-- a text whose kind is not asked for
abbrev pub got_text : List ℕ → ℕ → Option Span → Got Text
got_text s at (Some v) = got (decoded (span_of s v)) (v.end + 1)
got_text s at None = bad malformed at

abbrev pub TextInside : List ℕ → Option Span → Type 0
TextInside s (Some v) = Formed hex decoded (λ t. true) s v
TextInside s None = Unit
