-- `sheet::kinds::flags` meets its contract.
use mathlib.Core.Path.{◌∙◌, ap}
use Rattle.sheet.proofs.KindLaws.{kind_told, no_flags}
use Rattle.sheet.proofs.kinds.flags.Goals as goal

pub returns-in-Some : goal.returns-in-Some
returns-in-Some c = c.flags_of.ensures ∙ ap (λ d. d.flags) (kind_told _ _ c.of.ensures _ c.in-Some.is)

pub returns-in-None : goal.returns-in-None
returns-in-None c = no_flags _ _ c.of.ensures c.in-None.is
