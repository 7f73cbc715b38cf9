-- `store::held::held_item` meets its contract.
use Rattle.store.proofs.HeldLaws.{item_held, item_itself}
use Rattle.store.proofs.held.held_item.Goals as goal

pub returns-then-row-eq-TEXT_PART : goal.returns-then-row-eq-TEXT_PART
returns-then-row-eq-TEXT_PART c = item_held _ _ _ c.if-row-eq-TEXT_PART.true c.held_text.ensures

pub returns : goal.returns
returns c = item_itself _ _ c.if-row-eq-TEXT_PART.false
