-- `change::judging::held_text` meets its contract.
use Rattle.std.proofs.lemmas.Result.{err_from_is_err_and}
use Rattle.replies.proofs.ReplyLaws.{count_refuses, count_passes}
use Rattle.change.proofs.JudgeLaws.{no_name, name_held, no_expr, reference_held}
use Rattle.change.proofs.judging.held_text.Goals as goal

pub returns-in_err-below-in-Name : goal.returns-in_err-below-in-Name
returns-in_err-below-in-Name c =
    let p = err_from_is_err_and c.from_residual.result c.from_residual.ensures.1 in
    let q = count_refuses _ _ _ c.below.ensures _ c.in_err-below-in-Name.was in
    rw (p.1, p.2, c.in-Name.is, q.1) (no_name _ _ _ c.name_count.ensures.0 q.0)

pub returns-in_ok-below-in-Name : goal.returns-in_ok-below-in-Name
returns-in_ok-below-in-Name c = rw c.in-Name.is (name_held _ _ _ c.name_count.ensures.0 (count_passes _ _ _ c.below.ensures _ c.in_ok-below-in-Name.was) _ c.name_text.ensures)

pub returns-in_err-below-in-Reference : goal.returns-in_err-below-in-Reference
returns-in_err-below-in-Reference c =
    let p = err_from_is_err_and c.from_residual-in_err-below-in-Reference.result c.from_residual-in_err-below-in-Reference.ensures.1 in
    let q = count_refuses _ _ _ c.below-in-Reference.ensures _ c.in_err-below-in-Reference.was in
    rw (p.1, p.2, c.in-Reference.is, q.1) (no_expr _ _ _ c.expr_count.ensures.0 q.0)

pub returns-in_ok-below-in-Reference : goal.returns-in_ok-below-in-Reference
returns-in_ok-below-in-Reference c = rw (c.in-Reference.is, c.ok_or.ensures.value) (reference_held _ _ _ c.expr_count.ensures.0 (count_passes _ _ _ c.below-in-Reference.ensures _ c.in_ok-below-in-Reference.was) _ c.reference_text.ensures)
