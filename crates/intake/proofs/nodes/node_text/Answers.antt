-- `intake::nodes::node_text` meets its contract.
use Rattle.intake.proofs.NodeLaws.{has_in, has_out, text_is, text_none}
use Rattle.intake.proofs.nodes.node_text.Goals as goal

pub returns-then-has_node : goal.returns-then-has_node
returns-then-has_node c = text_is _ _ (has_in _ _ _ c.has_node.ensures c.if-has_node.true) _ c.node_word.ensures

pub returns : goal.returns
returns c = text_none _ _ (has_out _ _ _ c.has_node.ensures c.if-has_node.false)
