-- `store::exprs::alloc_expr` meets its contract.
use Rattle.store.proofs.ExprLaws.{expr_allocated}
use Rattle.store.proofs.exprs.alloc_expr.Goals as goal

pub returns : goal.returns
returns c = expr_allocated _ _ c.row_of.result c.held_row-row.result _ _ _ _ c.row_of.ensures c.held_row-row.ensures c.alloc_row.ensures
