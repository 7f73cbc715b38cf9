-- One name of a scope, held against a text.
use Rattle.std.specs.Prelude.{if◌then◌else◌}
use Rattle.std.proofs.Math.Option.{Option, none, some}
use Rattle.words.specs.Equality.{equalb}
use Rattle.spec.specs.Basics.{Text, NameId}

-- a name, where it has the text
unfoldable pub only_with : (NameId → Text) → Text → Option NameId → Option NameId
only_with text_of t none = none
only_with text_of t (some x) = if equalb (text_of x) t then some x else none
