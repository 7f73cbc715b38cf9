-- `rows::decode::integer_expr` meets its contract.
use Rattle.rows.proofs.ReadLaws.{integer_read}
use mathlib.Core.Path.{◌∙◌}
use native.Mathlib.Omega.{arith}
use Rattle.rows.proofs.decode.integer_expr.Goals as goal

pub returns-then-value-le-LARGEST_INTEGER : goal.returns-then-value-le-LARGEST_INTEGER
returns-then-value-le-LARGEST_INTEGER c = integer_read _ c.integer_of.result c.requires (c.integer_of.ensures.result_value ∙ c.joined-value.ensures) (omega arith) c.integer_of.ensures.not_negative
