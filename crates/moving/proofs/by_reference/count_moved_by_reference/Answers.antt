-- `moving::by_reference::count_moved_by_reference` meets its contract.
use Rattle.moving.proofs.AllLaws.{reference_counted, none_of_it}
use Rattle.moving.proofs.by_reference.count_moved_by_reference.Goals as goal

pub returns-in-Some : goal.returns-in-Some
returns-in-Some c = reference_counted _ _ _ c.requires.1 _ c.moved_by_reference.ensures _ c.in-Some.is

pub returns-in-None : goal.returns-in-None
returns-in-None c = none_of_it _ _ _ c.requires.1 _ c.moved_by_reference.ensures c.in-None.is
