-- `tree::judging::judge_tree` meets its contract.
use Rattle.std.proofs.lemmas.Result.{err_from_is_err_and}
use Rattle.tree.proofs.JudgeLaws.{some_nodes, root_stands, stopped_tree, met_all, met_few}
use Rattle.tree.proofs.judging.judge_tree.Goals as goal

pub lines-root-requires : goal.lines-root-requires
lines-root-requires c = (some_nodes _ _ _ c.requires, root_stands _ _ _ c.requires)

pub returns-in_err-front : goal.returns-in_err-front
returns-in_err-front c =
    let p = err_from_is_err_and c.from_residual.result c.from_residual.ensures.1 in
    rw (p.1, p.2) (stopped_tree _ _ _ c.requires _ c.in_err-front.ensures)

pub returns-then-next-nodes : goal.returns-then-next-nodes
returns-then-next-nodes c = met_few _ _ _ c.requires _ c.in_ok-front.ensures c.if-next-nodes.true

pub returns : goal.returns
returns c = met_all _ _ _ c.requires _ c.in_ok-front.ensures c.if-next-nodes.false
