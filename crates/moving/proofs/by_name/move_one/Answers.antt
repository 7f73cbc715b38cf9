-- `moving::by_name::move_one` meets its contract.
use Rattle.moving.proofs.OneLaws.{bare_stays, one_moved_lem, none_moved}
use mathlib.Core.Path.{refl}
use native.Mathlib.Omega.{arith}
use Rattle.moving.proofs.by_name.move_one.Goals as goal

pub returns-in_default : goal.returns-in_default
returns-in_default c = none_moved _ _ _ _ _ (bare_stays _ _ _ _ _ c.reference_text.ensures c.in_default.is) _ _ refl

pub overflow_mul-n : goal.overflow_mul-n
overflow_mul-n c = omega (arith, c.requires.1.1.room (c.moved_by_name.ensures.moves _ c.in-Some-moved_by_name.is).0)

pub put32-requires : goal.put32-requires
put32-requires c = omega (arith, c.requires.1.1.room (c.moved_by_name.ensures.moves _ c.in-Some-moved_by_name.is).0)

pub overflow_add-result : goal.overflow_add-result
overflow_add-result c = omega (arith, c.ranges, c.well_formed, c.requires.1.1.room (c.moved_by_name.ensures.moves _ c.in-Some-moved_by_name.is).0)

pub returns-in-Some-moved_by_name : goal.returns-in-Some-moved_by_name
returns-in-Some-moved_by_name c = one_moved_lem _ _ _ _ _ c.moved_by_name.ensures _ _ _ c.in-Some-moved_by_name.is _ c.set_answer.ensures _ c.put32.ensures

pub returns-in-None : goal.returns-in-None
returns-in-None c = none_moved _ _ _ _ _ c.moved_by_name.ensures _ _ c.in-None.is
