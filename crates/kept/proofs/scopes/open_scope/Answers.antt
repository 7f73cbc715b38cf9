-- `kept::scopes::open_scope` meets its contract.
use Rattle.kept.proofs.ScopeLaws.{names_full, names_more}
use Rattle.kept.proofs.scopes.open_scope.Goals as goal

pub returns-then-first-n-gt-ENTERED_ROOM : goal.returns-then-first-n-gt-ENTERED_ROOM
returns-then-first-n-gt-ENTERED_ROOM c =
    let r = rw c.in-Some.is at c.room_inside.ensures in
    names_full _ _ r.0 _ c.get32-first.ensures _ _ r.1.0 r.1.1 c.if-first-n-gt-ENTERED_ROOM.true

pub returns : goal.returns
returns c =
    let r = rw c.in-Some.is at c.room_inside.ensures in
    names_more _ _ r.0 _ c.get32-first.ensures _ _ _ c.requires r.1.0 r.1.1 c.if-first-n-gt-ENTERED_ROOM.false c.put_scope.ensures
