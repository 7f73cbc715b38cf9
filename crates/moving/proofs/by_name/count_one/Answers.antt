-- `moving::by_name::count_one` meets its contract.
use Rattle.moving.proofs.OneLaws.{bare_stays, one_counted, none_counted}
use mathlib.Core.Path.{refl}
use Rattle.moving.proofs.by_name.count_one.Goals as goal

pub returns-in_default : goal.returns-in_default
returns-in_default c = none_counted _ _ _ _ _ (bare_stays _ _ _ _ _ c.reference_text.ensures c.in_default.is) refl

pub returns-in-Some-moved_by_name : goal.returns-in-Some-moved_by_name
returns-in-Some-moved_by_name c = one_counted _ _ _ _ _ c.moved_by_name.ensures _ c.in-Some-moved_by_name.is

pub returns-in-None : goal.returns-in-None
returns-in-None c = none_counted _ _ _ _ _ c.moved_by_name.ensures c.in-None.is
