-- `ask::find_answer` meets its contract.
use Rattle.std.proofs.lemmas.Result.{err_from_is_err_and}
use Rattle.replies.proofs.ReplyLaws.{count_refuses, count_passes}
use Rattle.ask.proofs.AskLaws.{no_expr, no_answer, answer_long, answer_told}
use Rattle.ask.proofs.find_answer.Goals as goal

pub returns-in_err-below : goal.returns-in_err-below
returns-in_err-below c =
    let p = err_from_is_err_and c.from_residual.result c.from_residual.ensures.1 in
    let q = count_refuses _ _ _ c.below.ensures _ c.in_err-below.was in
    rw (p.1, p.2, q.1) (no_expr _ _ _ _ c.expr_count.ensures.0 q.0)

pub returns-in_default : goal.returns-in_default
returns-in_default c = no_answer _ _ _ _ c.expr_count.ensures.0 (count_passes _ _ _ c.below.ensures _ c.in_ok-below.was) _ c.kept_answer.ensures c.in_default.is

pub returns-in_err-room_for : goal.returns-in_err-room_for
returns-in_err-room_for c =
    let p = err_from_is_err_and c.from_residual-in_err-room_for.result c.from_residual-in_err-room_for.ensures.1 in
    rw (p.1, p.2) (answer_long _ _ _ _ c.expr_count.ensures.0 (count_passes _ _ _ c.below.ensures _ c.in_ok-below.was) _ c.kept_answer.ensures _ c.in-Some.is _ _ c.list_answer-with_count.ensures _ c.room_for.ensures _ c.in_err-room_for.was)

pub returns : goal.returns
returns c = answer_told _ _ _ _ c.expr_count.ensures.0 (count_passes _ _ _ c.below.ensures _ c.in_ok-below.was) _ c.kept_answer.ensures _ c.in-Some.is _ _ c.list_answer-with_count.ensures _ c.room_for.ensures _ c.in_ok-room_for.was
