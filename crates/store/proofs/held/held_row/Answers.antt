-- `store::held::held_row` meets its contract.
use Rattle.store.proofs.HeldLaws.{row_held}
use mathlib.Core.Path.{sym, ◌∙◌}
use Rattle.store.proofs.held.held_row.Goals as goal

pub returns-then-has_text : goal.returns-then-has_text
returns-then-has_text c = row_held _ _ _ (sym c.has_text.ensures ∙ c.if-has_text.true) c.held_text.ensures
