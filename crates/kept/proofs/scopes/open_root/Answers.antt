-- `kept::scopes::open_root` meets its contract.
use Rattle.kept.proofs.ScopeLaws.{room_count, full_count, root_full, root_more}
use Rattle.module.proofs.CounterLaws.{room_left}
use borrow.Author.Tests.{not-true, not-false}
use Rattle.kept.proofs.scopes.open_root.Goals as goal

pub returns-then-not-has_room : goal.returns-then-not-has_room
returns-then-not-has_room c = root_full _ (full_count _ _ _ _ c.counter-count.ensures c.has_room.ensures (not-true _ c.if-not-has_room.true-raw))

pub returns : goal.returns
returns c = root_more _ _ _ _ c.requires (room_count _ _ _ _ c.counter-count.ensures c.has_room.ensures (not-false _ c.if-not-has_room.false-raw)) (room_left _ _ _ c.has_room.ensures (not-false _ c.if-not-has_room.false-raw)) c.get32-first.ensures c.put_scope.ensures
