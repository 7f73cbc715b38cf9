-- `intake::nodes::kid_at` meets its contract.
use Rattle.intake.proofs.NodeLaws.{kid_marked, kid_number}
use Rattle.module.specs.Ids.{node_of}
use Rattle.intake.proofs.nodes.kid_at.Goals as goal

pub returns-then-k : goal.returns-then-k
unfolding node_of
returns-then-k c = kid_marked _ _ _ c.get32-k.ensures c.if-k.true

pub returns : goal.returns
unfolding node_of
returns c = kid_number _ _ _ c.get32-k.ensures c.if-k.false
