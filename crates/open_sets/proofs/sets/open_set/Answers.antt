-- `open_sets::sets::open_set` meets its contract.
use Rattle.layout.specs.Layout.{set_limit}
use Rattle.module.proofs.CounterLaws.{room_left}
use Rattle.open_sets.proofs.SetLaws.{set_opened}
use mathlib.Core.Path.{◌∙◌}
use native.Mathlib.Omega.{arith}
use Rattle.open_sets.proofs.sets.open_set.Goals as goal

pub returns-then-has_room : goal.returns-then-has_room
returns-then-has_room c = (set_opened _ _ _ _ _ _ _ _ _ c.requires c.counter-count.ensures (room_left _ _ _ c.has_room.ensures c.if-has_room.true) c.number-number.ensures (omega arith) (omega arith, (omega arith, (omega arith, tt))) (omega arith) c.put_pointer.ensures c.put32.ensures (c.put32-then-has_room.ensures ∙ rw c.next-next.ensures), omega (arith, room_left c.has_room.result c.counter-count.result.used set_limit c.has_room.ensures c.if-has_room.true))
