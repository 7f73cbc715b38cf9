-- `store::exprs::alloc_row` meets its contract.
use Rattle.module.proofs.CounterLaws.{room_left}
use Rattle.store.proofs.ExprLaws.{did_where, row_crowded, row_allocated}
use native.Mathlib.Omega.{arith}
use Rattle.store.proofs.exprs.alloc_row.Goals as goal

pub returns-then-first-waiting : goal.returns-then-first-waiting
returns-then-first-waiting c = row_allocated _ _ _ _ _ _ _ _ _ c.requires.1 c.counter-count.ensures (room_left _ _ _ c.has_room.ensures c.if-has_room.true) c.get32-first.ensures c.waiting_from-waiting.ensures.0 (omega arith) c.take_items.ensures c.put_row.ensures

pub returns-then-has_room : goal.returns-then-has_room
returns-then-has_room c = did_where (row_crowded _ _ _ _ _ _ c.counter-count.ensures (room_left _ _ _ c.has_room.ensures c.if-has_room.true) c.get32-first.ensures c.waiting_from-waiting.ensures.0 (omega arith))
