-- What the answers about a line say.
use Rattle.std.proofs.Math.Option as math
use Rattle.std.specs.Borrow.{Bor}
use Rattle.std.specs.Prelude.{Option, Some, None, List, ℕ, ◌+◌, ◌-◌, ◌≤◌, ◌<◌}
use Rattle.words.specs.Runs.{run}
use Rattle.spec.specs.Basics.{Text}
use Rattle.spec.specs.Sheet.{Got, got, bad, malformed}
use Rattle.sheet.specs.declared.position.Span.{Span}

-- the bytes of a span
abbrev pub span_of : List ℕ → Span → Text
span_of s v = run s v.start (v.end - v.start)

-- what follows a key
abbrev pub rest_of : Option (Bor (List ℕ)) → math.Option (List ℕ)
rest_of (Some rest) = math.some rest.now
rest_of None = math.none

abbrev pub got_line : List ℕ → ℕ → Option Span → Got Text
got_line s at (Some v) = got (span_of s v) (v.end + 1)
got_line s at None = bad malformed at

abbrev pub ValueInside : Option Span → ℕ → Type 0
ValueInside (Some v) length = (v.start ≤ v.end) × (v.end < length)
ValueInside None length = Unit
