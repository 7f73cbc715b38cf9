-- `moving::by_reference::moved_by_reference` meets its contract.
use Rattle.moving.proofs.OneLaws.{by_reference}
use native.Mathlib.Omega.{arith}
use Rattle.moving.proofs.by_reference.moved_by_reference.Goals as goal

pub returns : goal.returns
returns c = by_reference _ _ _ c.requires.1 _ (omega arith) _ c.resolve_as-a.ensures _ c.unless_kept.ensures
