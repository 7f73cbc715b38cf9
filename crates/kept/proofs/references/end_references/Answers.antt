-- `kept::references::end_references` meets its contract.
use Rattle.kept.proofs.ReferenceLaws.{no_name_ends, no_room_ends, ended}
use Rattle.kept.proofs.references.end_references.Goals as goal

pub returns-then-name-ge-NAME_LIMIT : goal.returns-then-name-ge-NAME_LIMIT
returns-then-name-ge-NAME_LIMIT c = no_name_ends _ _ _ c.if-name-ge-NAME_LIMIT.true

pub returns-then-first-n-gt-REFERENCE_ROOM : goal.returns-then-first-n-gt-REFERENCE_ROOM
returns-then-first-n-gt-REFERENCE_ROOM c = no_room_ends _ _ _ _ c.get32-first.ensures c.if-first-n-gt-REFERENCE_ROOM.true

pub returns : goal.returns
returns c = ended _ _ _ _ _ c.requires c.if-name-ge-NAME_LIMIT.false c.get32-first.ensures c.if-first-n-gt-REFERENCE_ROOM.false c.put32.ensures
