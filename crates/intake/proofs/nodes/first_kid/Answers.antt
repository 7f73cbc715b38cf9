-- `intake::nodes::first_kid` meets its contract.
use Rattle.intake.proofs.NodeLaws.{first_from}
use Rattle.intake.proofs.nodes.first_kid.Goals as goal

pub returns : goal.returns
returns c = first_from _ _ _ _ c.get32.ensures c.at_most.ensures.0
