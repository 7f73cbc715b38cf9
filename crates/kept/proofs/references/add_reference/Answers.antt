-- `kept::references::add_reference` meets its contract.
use Rattle.kept.proofs.ReferenceLaws.{no_name, no_room, refers}
use borrow.Author.Rules.{rules}
use Rattle.kept.proofs.references.add_reference.Goals as goal

pub returns-then-name-ge-NAME_LIMIT : goal.returns-then-name-ge-NAME_LIMIT
returns-then-name-ge-NAME_LIMIT c = no_name _ _ _ _ c.if-name-ge-NAME_LIMIT.true

pub returns-then-at-ge-REFERENCE_ROOM : goal.returns-then-at-ge-REFERENCE_ROOM
returns-then-at-ge-REFERENCE_ROOM c = no_room _ _ _ _ _ c.get32.ensures c.if-at-ge-REFERENCE_ROOM.true

pub returns : goal.returns
returns c = refers _ _ _ _ _ _ c.requires c.if-name-ge-NAME_LIMIT.false c.get32.ensures c.if-at-ge-REFERENCE_ROOM.false (search rules) c.put32.ensures
