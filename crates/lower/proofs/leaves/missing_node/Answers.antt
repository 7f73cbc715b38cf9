-- `lower::leaves::missing_node` meets its contract.
use Rattle.lower.proofs.LeafLaws.{pointed}
use Rattle.rows.specs.Decoded.{expr_with}
use Rattle.lower.proofs.leaves.missing_node.Goals as goal

pub returns : goal.returns
unfolding expr_with
returns c = pointed _ _ _ c.node_pointer-p.ensures _ c.alloc_lone.ensures
