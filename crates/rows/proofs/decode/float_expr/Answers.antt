-- `rows::decode::float_expr` meets its contract.
use Rattle.rows.proofs.ReadLaws.{float_read}
use mathlib.Core.Path.{◌∙◌}
use native.Mathlib.Omega.{arith}
use Rattle.rows.proofs.decode.float_expr.Goals as goal

pub returns-then-bits-le-INFINITY_BITS : goal.returns-then-bits-le-INFINITY_BITS
returns-then-bits-le-INFINITY_BITS c = float_read _ _ c.requires (c.float_of.ensures ∙ c.joined-bits.ensures) (omega arith)
