-- `kept::scopes::place_expr` meets its contract.
use Rattle.kept.proofs.ScopeLaws.{placed}
use Rattle.kept.proofs.scopes.place_expr.Goals as goal

pub returns : goal.returns
returns c = placed _ _ _ _ _ c.requires c.if-scope-ge-SCOPE_LIMIT.false c.in_use.ensures.0 c.if-in_use-i.false c.put32.ensures
