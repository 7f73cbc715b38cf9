-- `intake::nodes::has_node` meets its contract.
use Rattle.intake.proofs.NodeLaws.{count_from}
use Rattle.intake.proofs.nodes.has_node.Goals as goal

pub returns : goal.returns
returns c = count_from _ _ _ _ c.get32.ensures c.at_most.ensures.0
