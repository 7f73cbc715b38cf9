-- `scopes::enters::open_for_bindings` meets its contract.
use Rattle.scopes.proofs.OpenLaws.{opened_for}
use Rattle.scopes.specs.Entering.{entered}
use mathlib.Core.Path.{refl}
use Rattle.scopes.proofs.enters.open_for_bindings.Goals as goal

pub returns : goal.returns
unfolding entered
returns c = opened_for _ _ refl c.enter_items-n.ensures c.open_for.ensures
