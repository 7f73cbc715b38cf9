-- `store::exprs::push_item` meets its contract.
use Rattle.module.proofs.CounterLaws.{room_left}
use Rattle.store.proofs.ExprLaws.{item_pushed_lem}
use mathlib.Core.Path.{◌∙◌}
use native.Mathlib.Omega.{arith}
use Rattle.store.proofs.exprs.push_item.Goals as goal

pub returns-then-has_room : goal.returns-then-has_room
returns-then-has_room c = item_pushed_lem _ _ _ _ c.held_item-row.result _ _ c.requires (c.held_item-row.ensures.same ∙ c.from.ensures.same _) (rw c.held_item-row.ensures.tag_same c.from.ensures.in_range) c.held_item-row.ensures.coded (omega arith, (omega arith, (omega arith, tt))) c.counter-count.ensures (room_left _ _ _ c.has_room.ensures c.if-has_room.true) (omega arith) c.put_words.ensures (c.put32.ensures ∙ rw c.next-next.ensures)
