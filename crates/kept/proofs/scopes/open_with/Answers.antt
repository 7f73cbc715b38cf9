-- `kept::scopes::open_with` meets its contract.
use Rattle.kept.proofs.ScopeLaws.{with_unfit, with_more}
use Rattle.kept.proofs.scopes.open_with.Goals as goal

pub returns-then-source-ge-EXPR_LIMIT : goal.returns-then-source-ge-EXPR_LIMIT
returns-then-source-ge-EXPR_LIMIT c =
    let r = rw c.in-Some.is at c.room_inside.ensures in
    with_unfit _ _ r.0 _ _ r.1.0 r.1.1 c.if-source-ge-EXPR_LIMIT.true

pub returns : goal.returns
returns c =
    let r = rw c.in-Some.is at c.room_inside.ensures in
    with_more _ _ r.0 _ c.get32-first.ensures _ _ _ c.requires r.1.0 r.1.1 c.if-source-ge-EXPR_LIMIT.false c.put_scope.ensures
