-- `open_sets::add::add_entry` meets its contract.
use Rattle.module.proofs.CounterLaws.{room_left}
use Rattle.open_sets.proofs.RunAdds.{place_below, entered}
use native.Mathlib.Omega.{arith}
use Rattle.open_sets.proofs.add.add_entry.Goals as goal

pub insert_number-requires : goal.insert_number-requires
insert_number-requires c = (omega (arith, c.requires.0, c.put_entry.ensures.wrote.size), (place_below _ _ _ c.counter-count.ensures (room_left _ _ _ c.has_room.ensures c.if-has_room.true) c.place-q.ensures.within, room_left _ _ _ c.has_room.ensures c.if-has_room.true))

pub returns-then-has_room : goal.returns-then-has_room
returns-then-has_room c = entered _ _ _ _ _ _ c.counter-count.ensures (room_left _ _ _ c.has_room.ensures c.if-has_room.true) c.put_entry.ensures c.insert_number.ensures c.place-q.ensures.within _ c.standing_of.ensures c.place-q.ensures
