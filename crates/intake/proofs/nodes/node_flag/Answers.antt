-- `intake::nodes::node_flag` meets its contract.
use Rattle.intake.proofs.NodeLaws.{flag_is}
use mathlib.Core.Path.{◌∙◌}
use Rattle.intake.proofs.nodes.node_flag.Goals as goal

pub returns : goal.returns
returns c = c.node_word.ensures ∙ flag_is _ _
