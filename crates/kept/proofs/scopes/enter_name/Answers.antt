-- `kept::scopes::enter_name` meets its contract.
use Rattle.kept.proofs.ScopeLaws.{not_waiting, waiting}
use borrow.Author.Rules.{rules}
use Rattle.kept.proofs.scopes.enter_name.Goals as goal

pub returns-then-at-ge-ENTERED_ROOM : goal.returns-then-at-ge-ENTERED_ROOM
returns-then-at-ge-ENTERED_ROOM c = not_waiting _ _ _ _ _ c.requires c.in_use-n.ensures.0 c.get32.ensures c.if-at-ge-ENTERED_ROOM.true

pub returns : goal.returns
returns c = waiting _ _ _ _ _ c.requires c.in_use-n.ensures.0 c.get32.ensures _ c.if-at-ge-ENTERED_ROOM.false (search rules) c.put32.ensures
