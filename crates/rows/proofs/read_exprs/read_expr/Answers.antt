-- `rows::read_exprs::read_expr` meets its contract.
use Rattle.rows.proofs.ReadLaws.{expr_in, expr_out}
use Rattle.rows.proofs.read_exprs.read_expr.Goals as goal

pub returns-then-expr_count-n : goal.returns-then-expr_count-n
returns-then-expr_count-n c = expr_out _ _ _ c.expr_count.ensures.0 c.if-expr_count-n.true

pub returns : goal.returns
returns c = expr_in _ _ _ c.expr_count.ensures.0 _ _ c.if-expr_count-n.false c.at.ensures.0 c.at.ensures.1 c.at.ensures.2 c.at.ensures.3 c.from.ensures
