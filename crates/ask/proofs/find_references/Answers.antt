-- `ask::find_references` meets its contract.
use Rattle.std.proofs.lemmas.Result.{err_from_is_err_and}
use Rattle.replies.proofs.ReplyLaws.{count_refuses, count_passes}
use Rattle.ask.proofs.AskLaws.{no_name, references_listed}
use Rattle.ask.proofs.find_references.Goals as goal

pub returns-in_err-below : goal.returns-in_err-below
returns-in_err-below c =
    let p = err_from_is_err_and c.from_residual.result c.from_residual.ensures.1 in
    let q = count_refuses _ _ _ c.below.ensures _ c.in_err-below.was in
    rw (p.1, p.2, q.1) (no_name _ _ _ _ c.name_count.ensures.0 q.0)

pub returns : goal.returns
returns c = references_listed _ _ _ _ c.name_count.ensures.0 (count_passes _ _ _ c.below.ensures _ c.in_ok-below.was) _ _ c.list_kept_references-use_count.ensures _ c.room_for.ensures
