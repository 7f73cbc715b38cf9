-- `change::judging::judge` meets its contract.
use Rattle.std.proofs.lemmas.Result.{err_from_is_err_and}
use Rattle.change.proofs.JudgeLaws.{unheld, unfit, equal_text, no_room, other_text}
use Rattle.change.proofs.judging.judge.Goals as goal

pub returns-in_err-held : goal.returns-in_err-held
returns-in_err-held c =
    let p = err_from_is_err_and c.from_residual.result c.from_residual.ensures.1 in
    rw (p.1, p.2) (unheld _ _ _ _ _ c.held_text.ensures _ c.in_err-held.was)

pub returns-in_err-other : goal.returns-in_err-other
returns-in_err-other c =
    let p = err_from_is_err_and c.from_residual-in_err-other.result c.from_residual-in_err-other.ensures.1 in
    rw (p.1, p.2) (unfit _ _ _ _ _ c.held_text.ensures _ c.in_ok-held.was _ c.judge_text.ensures _ c.in_err-other.was)

pub returns-then-not-other : goal.returns-then-not-other
returns-then-not-other c = equal_text _ _ _ _ _ c.held_text.ensures _ c.in_ok-held.was _ c.judge_text.ensures (rw c.if-not-other.true at c.in_ok-other.was)

pub count_moved-requires : goal.count_moved-requires
count_moved-requires c = (c.requires, rw c.place-place.ensures (c.held_text.ensures.stands _ c.in_ok-held.was).0)

pub returns-in_err-count : goal.returns-in_err-count
returns-in_err-count c =
    let p = err_from_is_err_and c.from_residual-in_err-count.result c.from_residual-in_err-count.ensures.1 in
    rw (p.1, p.2) (no_room _ _ _ _ _ c.held_text.ensures _ c.in_ok-held.was _ c.judge_text.ensures (rw c.if-not-other.false at c.in_ok-other.was) _ (rw c.place-place.ensures at c.count_moved.ensures) _ c.room_for.ensures _ c.in_err-count.was)

pub returns : goal.returns
returns c = other_text _ _ _ _ _ c.held_text.ensures _ c.in_ok-held.was _ c.judge_text.ensures (rw c.if-not-other.false at c.in_ok-other.was) _ (rw c.place-place.ensures at c.count_moved.ensures) _ c.room_for.ensures _ c.in_ok-count.was
