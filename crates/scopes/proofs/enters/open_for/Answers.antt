-- `scopes::enters::open_for` meets its contract.
use Rattle.scopes.proofs.OpenLaws.{for_none, for_opened}
use Rattle.scopes.proofs.enters.open_for.Goals as goal

pub returns-then-n-eq0 : goal.returns-then-n-eq0
returns-then-n-eq0 c = for_none _ _ _ c.if-n-eq0.true

pub returns : goal.returns
returns c = for_opened _ _ c.if-n-eq0.false c.open_scope.ensures
