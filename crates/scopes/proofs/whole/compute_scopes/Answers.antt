-- `scopes::whole::compute_scopes` meets its contract.
use Rattle.scopes.proofs.WholeLaws.{scopes_computed}
use Rattle.scopes.proofs.whole.compute_scopes.Goals as goal

pub returns : goal.returns
returns c = scopes_computed c.clear_scopes.ensures c.open_root.ensures c.entry-e.ensures c.traverse_expr.ensures
