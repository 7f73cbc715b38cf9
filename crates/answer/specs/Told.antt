-- Document 01's number and value of an answer (docs/RULES.md, "Answers"): "0 none. Else 1, the innermost definition;
-- else 2, the index in the 22 names ..; else 3, all enclosing Withs".
use Rattle.std.specs.Prelude.{◌≡◌, List, ℕ}
use Rattle.spec.specs.Basics.{ExprId}
use Rattle.spec.specs.Answer as spec
use Rattle.answer.specs.declared.answer.Answer.{Answer}
use Rattle.answer.specs.Answers.{answer_with}

unfoldable pub number_of : spec.Answer → ℕ
number_of spec.unresolved = 0
number_of (spec.definition x) = 1
number_of (spec.builtin i) = 2
number_of (spec.withs es) = 3

-- the name or the index; the Withs are a list of their own
unfoldable pub value_of : spec.Answer → ℕ
value_of spec.unresolved = 0
value_of (spec.definition x) = x
value_of (spec.builtin i) = i
value_of (spec.withs es) = 0

-- of an answer of the code, whatever its Withs are
pub record Tells (f : spec.Answer → ℕ) (a : Answer) (r : ℕ) : Type 0 where
  pub says : (es : List ExprId) → r ≡ f (answer_with a es)
