-- `store::names::append_name` meets its contract.
use Rattle.module.proofs.CounterLaws.{room_left}
use Rattle.store.proofs.NameLaws.{name_put}
use native.Mathlib.Omega.{arith}
use Rattle.store.proofs.names.append_name.Goals as goal

pub returns-then-has_room : goal.returns-then-has_room
returns-then-has_room c = rw (c.put32.ensures, c.next-next.ensures, c.put_pointer.ensures, c.put_words.ensures, c.number-number.ensures) (name_put _ _ _ _ _ c.requires.1 c.requires.0 c.counter-count.ensures (room_left _ _ _ c.has_room.ensures c.if-has_room.true) (omega arith) (omega arith) (omega arith) (omega arith))
