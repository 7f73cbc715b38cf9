-- `lower::leaves::lower_name` meets its contract.
use Rattle.lower.proofs.LeafLaws.{name_taken_lem, name_absent}
use Rattle.module.specs.Ids.{name_of}
use Rattle.lower.proofs.leaves.lower_name.Goals as goal

pub returns-in_err-n : goal.returns-in_err-n
unfolding name_of
returns-in_err-n c = rw c.from_residual.ensures (name_absent _ _ _ c.in_err-n.was)

pub returns : goal.returns
unfolding name_of
returns c = name_taken_lem _ _ _ _ c.in_ok-n.was _ c.node_text-text.ensures _ c.node_pointer-p.ensures c.alloc_name.ensures
