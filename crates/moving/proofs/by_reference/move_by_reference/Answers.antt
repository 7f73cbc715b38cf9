-- `moving::by_reference::move_by_reference` meets its contract.
use Rattle.moving.proofs.AllLaws.{reference_counted, reference_moves, reference_stays}
use native.Mathlib.Omega.{arith}
use Rattle.moving.proofs.by_reference.move_by_reference.Goals as goal

pub put32-requires : goal.put32-requires
put32-requires c = omega (arith, c.requires.1.1.room, reference_counted _ _ _ c.requires.1.0 _ c.moved_by_reference.ensures _ c.in-Some.is)

pub returns-in-Some : goal.returns-in-Some
returns-in-Some c = reference_moves _ _ _ c.requires.1.0 _ c.moved_by_reference.ensures _ c.in-Some.is c.requires.1.1.named _ _ _ _ c.set_answer.ensures c.put32.ensures c.list_references.ensures

pub returns-in-None : goal.returns-in-None
returns-in-None c = reference_stays _ _ _ c.requires.1.0 _ c.moved_by_reference.ensures _ c.in-None.is
