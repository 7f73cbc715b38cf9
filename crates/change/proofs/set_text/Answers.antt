-- `change::set_text` meets its contract.
use Rattle.change.proofs.SetLaws.{changeable, counted_settable, refused, equal, moved}
use Rattle.soundness.proofs.ConditionLaws.{fit_long}
use Rattle.std.specs.Prelude as rust
use mathlib.Core.Path.{ap, ◌∙◌}
use Rattle.change.proofs.set_text.Goals as goal

pub judge-requires : goal.judge-requires
judge-requires c = fit_long _ c.requires.0

pub put_text-requires : goal.put_text-requires
put_text-requires c =
    let set = c.judge.ensures.moves _ (c.in-Ok.is ∙ ap rust.Ok c.in-Some.is) in
    rw c.place-place.ensures (fit_long _ c.requires.0, (changeable _ _ _ _ _ c.requires.0 set, counted_settable _ _ _ _ _ set))

pub returns-in-Err : goal.returns-in-Err
returns-in-Err c = refused _ _ _ _ _ c.requires.0 c.requires.1 _ c.judge.ensures _ c.in-Err.is _ _ c.tell.ensures

pub returns-in-None : goal.returns-in-None
returns-in-None c = equal _ _ _ _ _ c.requires.0 c.requires.1 _ c.judge.ensures (c.in-Ok.is ∙ ap rust.Ok c.in-None.is) _ _ c.tell_count.ensures.moved

pub returns-in-Some : goal.returns-in-Some
returns-in-Some c = moved _ _ _ _ _ c.requires.0 c.requires.1 _ c.judge.ensures _ (c.in-Ok.is ∙ ap rust.Ok c.in-Some.is) _ _ (rw c.place-place.ensures at c.put_text.ensures) _ _ c.tell_count-in-Some.ensures.moved
