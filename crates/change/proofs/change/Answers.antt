-- `change::change` meets its contract.
use Rattle.requests.proofs.StateLaws.{goes_on_same, goes_on_fit, refusal_changed}
use Rattle.change.proofs.JudgeLaws.{call_reply}
use Rattle.change.proofs.change.Goals as goal

pub set_text-requires : goal.set_text-requires
set_text-requires c = goes_on_fit c.in-Ok.ensures

pub returns-in-Ok : goal.returns-in-Ok
returns-in-Ok c = rw (goes_on_same c.in-Ok.ensures) at c.set_text.ensures

pub returns-in-Err : goal.returns-in-Err
returns-in-Err c = refusal_changed _ c.in-Err.ensures _ (call_reply _ _ _ _) _ _ c.number.ensures
