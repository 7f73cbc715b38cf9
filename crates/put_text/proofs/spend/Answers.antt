-- `put_text::spend` meets its contract.
use Rattle.put_text.proofs.ChangeLaws.{spends_nothing, spends_more}
use mathlib.Core.Logic.{inl, inr}
use Rattle.put_text.proofs.spend.Goals as goal

pub returns-then-before-gt-ROOM_LIMIT : goal.returns-then-before-gt-ROOM_LIMIT
returns-then-before-gt-ROOM_LIMIT c = spends_nothing _ _ _ c.spent-before.ensures (inl c.if-before-gt-ROOM_LIMIT.true)

pub returns-then-n-gt-ROOM : goal.returns-then-n-gt-ROOM
returns-then-n-gt-ROOM c = spends_nothing _ _ _ c.spent-before.ensures (inr c.if-n-gt-ROOM.true)

pub returns : goal.returns
returns c = spends_more _ _ _ c.spent-before.ensures _ c.set_spent.ensures
