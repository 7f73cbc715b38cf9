-- `tree::judging::judge` meets its contract.
use Rattle.std.proofs.lemmas.Result.{err_from_is_err_and}
use Rattle.tree.proofs.JudgeLaws.{lines_refused, lines_accepted, all_accepted, tree_refused}
use Rattle.tree.proofs.judging.judge.Goals as goal

pub returns-in_err-nodes : goal.returns-in_err-nodes
returns-in_err-nodes c =
    let p = err_from_is_err_and c.from_residual.result c.from_residual.ensures.1 in
    rw (p.1, p.2) (lines_refused _ _ c.in_err-nodes.ensures)

pub judge_tree-requires : goal.judge_tree-requires
judge_tree-requires c = lines_accepted _ _ _ c.in_ok-nodes.ensures

pub returns-in_err-judge_tree : goal.returns-in_err-judge_tree
returns-in_err-judge_tree c =
    let p = err_from_is_err_and c.from_residual-in_err-judge_tree.result c.from_residual-in_err-judge_tree.ensures.1 in
    rw (p.1, p.2) (tree_refused _ _ c.in_err-judge_tree.ensures)

pub returns : goal.returns
returns c = all_accepted _ _ _ (lines_accepted _ _ _ c.in_ok-nodes.ensures) c.in_ok-judge_tree.ensures
