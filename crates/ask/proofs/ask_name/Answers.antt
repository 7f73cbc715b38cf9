-- `ask::ask_name` meets its contract.
use Rattle.requests.proofs.StateLaws.{goes_on_same, goes_on_fit, refusal_asked}
use Rattle.spec.specs.Calls.{reply_of}
use mathlib.Core.Path.{refl}
use Rattle.ask.proofs.ask_name.Goals as goal

pub tell_name-requires : goal.tell_name-requires
tell_name-requires c = goes_on_fit c.in-Ok.ensures

pub returns-in-Ok : goal.returns-in-Ok
returns-in-Ok c = rw (goes_on_same c.in-Ok.ensures) at c.tell_name.ensures

pub returns-in-Err : goal.returns-in-Err
unfolding reply_of
returns-in-Err c = refusal_asked _ c.in-Err.ensures _ refl _ _ c.number.ensures
