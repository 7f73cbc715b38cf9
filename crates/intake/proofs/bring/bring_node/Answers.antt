-- `intake::bring::bring_node` meets its contract.
use Rattle.intake.proofs.BringLaws.{was_read, not_read, node_bad, its_spans, node_brought}
use native.Mathlib.Omega.{arith}
use Rattle.intake.proofs.bring.bring_node.Goals as goal

pub returns-in_err-node : goal.returns-in_err-node
returns-in_err-node c =
    let p = not_read c.node.result c.in_err-node.ensures.value in
    rw c.from_residual.ensures
    (node_bad _ _ _ _ _ c.requires.1.1.1 c.requires.1.1.0 _ (c.node.ensures.result_value, c.node.ensures.formed_node) p.0 p.1)

pub bring_row-requires : goal.bring_row-requires
bring_row-requires c =
    let r = was_read c.node.result c.in_ok-node.node c.in_ok-node.ensures.value in
    (c.requires.0, (omega arith, (its_spans _ _ _ _ _ c.requires.1.1.1 c.requires.1.1.0 _ (c.node.ensures.result_value, c.node.ensures.formed_node) _ r c.requires.1.0, c.requires.1.1.1.rows)))

pub returns : goal.returns
returns c =
    let r = was_read c.node.result c.in_ok-node.node c.in_ok-node.ensures.value in
    node_brought _ _ _ _ _ c.requires.1.1.1 c.requires.1.1.0 _ (c.node.ensures.result_value, c.node.ensures.formed_node) _ r c.bring_row.new.store c.bring_row.result c.bring_row.ensures
