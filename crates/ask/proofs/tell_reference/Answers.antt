-- `ask::tell_reference` meets its contract.
use Rattle.ask.proofs.AskLaws.{refused, given}
use Rattle.soundness.proofs.ConditionLaws.{fit_long}
use Rattle.spec.specs.Calls.{reply_of}
use Rattle.replies.specs.Replies.{list_of}
use mathlib.Core.Path.{refl}
use Rattle.ask.proofs.tell_reference.Goals as goal

pub find_answer-requires : goal.find_answer-requires
find_answer-requires c = fit_long _ c.requires.0

pub returns-in-Ok : goal.returns-in-Ok
unfolding reply_of list_of
returns-in-Ok c = given _ _ _ _ _ _ c.requires.0 c.requires.1 refl _ _ c.find_answer.ensures _ c.in-Ok.is _ _ (c.tell_answer.ensures.says _ (c.find_answer.ensures.counted _ c.in-Ok.is))

pub returns-in-Err : goal.returns-in-Err
unfolding reply_of
returns-in-Err c = refused _ _ _ _ _ _ c.requires.0 c.requires.1 refl _ _ c.find_answer.ensures _ c.in-Err.is _ _ c.tell.ensures
