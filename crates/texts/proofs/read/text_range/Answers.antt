-- `texts::read::text_range` meets its contract.
use Rattle.texts.proofs.ReadLaws.{held_inside, lies_nowhere, lies_there}
use mathlib.Core.Path.{sym, ◌∙◌}
use native.Mathlib.Omega.{arith}
use Rattle.texts.proofs.read.text_range.Goals as goal

pub returns-then-not-text_held : goal.returns-then-not-text_held
returns-then-not-text_held c = lies_nowhere _ _ (sym c.text_held.ensures ∙ c.if-not-text_held.true)

pub get32-requires : goal.get32-requires
get32-requires c = omega (arith, c.requires, held_inside _ _ (sym c.text_held.ensures ∙ c.if-not-text_held.false))

pub returns : goal.returns
returns c = lies_there _ _ (sym c.text_held.ensures ∙ c.if-not-text_held.false) c.requires _ c.get32.ensures
