-- `sheet::kinds::text_rule` meets its contract.
use mathlib.Core.Path.{◌∙◌, ap}
use Rattle.sheet.proofs.KindLaws.{kind_told, no_rule}
use Rattle.sheet.proofs.kinds.text_rule.Goals as goal

pub returns-in-Some : goal.returns-in-Some
returns-in-Some c = c.text_rule_of.ensures ∙ ap (λ d. d.text) (kind_told _ _ c.of.ensures _ c.in-Some.is)

pub returns-in-None : goal.returns-in-None
returns-in-None c = no_rule _ _ c.of.ensures c.in-None.is
