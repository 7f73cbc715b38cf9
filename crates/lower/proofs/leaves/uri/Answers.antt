-- `lower::leaves::uri` meets its contract.
use Rattle.lower.proofs.LeafLaws.{pointed}
use Rattle.module.specs.Literals.{literal_of}
use Rattle.rows.specs.Decoded.{expr_with}
use Rattle.lower.proofs.leaves.uri.Goals as goal

pub returns : goal.returns
unfolding expr_with literal_of
returns c = pointed _ _ _ c.node_pointer-p.ensures _ c.alloc_lone.ensures
