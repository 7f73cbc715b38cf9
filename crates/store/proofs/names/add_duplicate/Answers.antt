-- `store::names::add_duplicate` meets its contract.
use Rattle.module.proofs.CounterLaws.{room_left}
use Rattle.store.proofs.NameLaws.{duplicate_put}
use Rattle.store.proofs.names.add_duplicate.Goals as goal

pub returns-then-has_room-2 : goal.returns-then-has_room-2
returns-then-has_room-2 c = duplicate_put _ _ _ _ _ _ _ _ _ c.held_text-held.ensures c.requires c.counter-count.ensures (room_left _ _ _ c.has_room.ensures c.if-has_room.true) c.counter-lost.ensures (room_left _ _ _ c.has_room-then-has_room.ensures c.if-has_room-2.true) c.put_diagnostic.ensures c.put_lost.ensures
