-- `ask::ask_reference` meets its contract.
use Rattle.requests.proofs.StateLaws.{goes_on_same, goes_on_fit, refusal_asked}
use Rattle.spec.specs.Calls.{reply_of}
use mathlib.Core.Path.{refl}
use Rattle.ask.proofs.ask_reference.Goals as goal

pub tell_reference-requires : goal.tell_reference-requires
tell_reference-requires c = goes_on_fit c.in-Ok.ensures

pub returns-in-Ok : goal.returns-in-Ok
returns-in-Ok c = rw (goes_on_same c.in-Ok.ensures) at c.tell_reference.ensures

pub returns-in-Err : goal.returns-in-Err
unfolding reply_of
returns-in-Err c = refusal_asked _ c.in-Err.ensures _ refl _ _ c.number.ensures
