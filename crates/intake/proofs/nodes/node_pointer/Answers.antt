-- `intake::nodes::node_pointer` meets its contract.
use Rattle.intake.proofs.NodeLaws.{pointer_is}
use Rattle.module.specs.Ids.{pointer_of}
use Rattle.intake.proofs.nodes.node_pointer.Goals as goal

pub returns : goal.returns
unfolding pointer_of
returns c = pointer_is _ _ _ _ _ c.node_word.ensures c.node_word-2.ensures c.node_word-3.ensures
