-- What the answers about a judged value say.
use Rattle.std.proofs.Math.Option as math
use Rattle.std.specs.Prelude.{Result, Ok, Err, Bool, true, ◌≡◌, List, ℕ, ◌+◌, ◌≤◌, ◌<◌, length}
use Rattle.spec.specs.Basics.{Text}
use Rattle.spec.specs.Sheet.{Got, got, bad}
use Rattle.sheet.specs.Faults.{fault_of}
use Rattle.sheet.specs.Lines.{span_of}
use Rattle.sheet.specs.declared.position.Span.{Span}
use Rattle.sheet.specs.declared.faults.Malformed.{Malformed}
use Rattle.sheet.specs.declared.faults.Refused.{Refused}

-- what the test says of what was read, if it could be read
abbrev pub verdict_of : Result Bool Malformed → math.Option Bool
verdict_of (Ok b) = math.some b
verdict_of (Err e) = math.none

-- `get` gives what a value that was judged right stands for
abbrev pub got_span : {A : Type 0} → (Text → A) → List ℕ → Result Span Refused → Got A
got_span get s (Ok v) = got (get (span_of s v)) (v.end + 1)
got_span get s (Err r) = bad (fault_of r.why) r.at

-- a span of the sheet whose form and rule hold
pub record Formed {A : Type 0} (parse : Text → math.Option A) (get : Text → A) (test : A → Bool) (s : List ℕ) (v : Span) : Type 0 where
  pub ordered : v.start ≤ v.end
  pub within : v.end < length s
  pub formed : parse (span_of s v) ≡ math.some (get (span_of s v))
  pub fits : test (get (span_of s v)) ≡ true

abbrev pub FormedIn : {A : Type 0} → (Text → math.Option A) → (Text → A) → (A → Bool) → List ℕ → Result Span Refused → Type 0
FormedIn parse get test s (Ok v) = Formed parse get test s v
FormedIn parse get test s (Err r) = Unit
