-- `texts::held::held_text` meets its contract.
use Rattle.texts.proofs.HeldLaws.{held_itself, held_mark}
use Rattle.texts.proofs.held.held_text.Goals as goal

pub returns-then-text_held : goal.returns-then-text_held
returns-then-text_held c = held_itself _ _ _ c.text_held.ensures c.if-text_held.true

pub returns-else-text_held : goal.returns-else-text_held
returns-else-text_held c = held_mark _ _ _ c.text_held.ensures c.if-text_held.false
