-- `words::equality::equal` meets its contract.
use Rattle.words.proofs.EqualityLaws.{equalb_is}
use mathlib.Core.Path.{◌∙◌, sym}
use Rattle.words.proofs.equality.equal.Goals as goal

pub returns : goal.returns
returns c = c.eq.ensures ∙ sym (equalb_is _ _)
