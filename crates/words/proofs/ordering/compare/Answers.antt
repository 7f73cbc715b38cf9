-- `words::ordering::compare` meets its contract.
use Rattle.words.proofs.OrderLaws.{order_is}
use mathlib.Core.Path.{◌∙◌, sym}
use Rattle.words.proofs.ordering.compare.Goals as goal

pub returns : goal.returns
returns c = c.cmp.ensures ∙ sym (order_is _ _)
