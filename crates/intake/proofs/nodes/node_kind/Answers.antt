-- `intake::nodes::node_kind` meets its contract.
use Rattle.intake.proofs.NodeLaws.{kind_is}
use mathlib.Core.Path.{◌∙◌}
use Rattle.intake.proofs.nodes.node_kind.Goals as goal

pub returns : goal.returns
returns c = c.node_word.ensures ∙ kind_is _ _
