-- An answer of the code, what it is among the definitions' answers, and the name that it means.
use Rattle.std.specs.Prelude.{List}
use Rattle.std.proofs.Math.Option.{Option, none, some}
use Rattle.spec.specs.Basics.{ExprId, NameId}
use Rattle.spec.specs.Answer as spec
use Rattle.answer.specs.declared.answer.Answer.{Answer}
use Rattle.answer.specs.declared.answer.Answer.TheVariants.{Unresolved, Definition, Builtin, Withs}
use Rattle.std.specs.Prelude as rust

-- ---- the list of its Withs is no part of it
unfoldable pub answer_with : Answer → List ExprId → spec.Answer
answer_with Unresolved es = spec.unresolved
answer_with (Definition x) es = spec.definition x.0
answer_with (Builtin i) es = spec.builtin i
answer_with Withs es = spec.withs es

unfoldable pub maybe_with : rust.Option Answer → List ExprId → Option spec.Answer
maybe_with (rust.Some a) es = some (answer_with a es)
maybe_with rust.None es = none

-- ---- the name that an answer means: of the code's, and of the definitions'
unfoldable pub meant_by : Answer → Option NameId
meant_by Unresolved = none
meant_by (Definition x) = some x.0
meant_by (Builtin i) = none
meant_by Withs = none

unfoldable pub meant : Option spec.Answer → Option NameId
meant none = none
meant (some spec.unresolved) = none
meant (some (spec.definition x)) = some x
meant (some (spec.builtin i)) = none
meant (some (spec.withs es)) = none
