-- `scopes::enters::enter_maybe` meets its contract.
use Rattle.module.specs.Ids.{name_of}
use Rattle.scopes.proofs.EnterLaws.{enters_one, enters_none}
use Rattle.spec.specs.Scopes.{one_or_none}
use Rattle.scopes.proofs.enters.enter_maybe.Goals as goal

pub returns-in_default : goal.returns-in_default
unfolding name_of one_or_none
returns-in_default c = rw c.in_default.is (enters_none _ _)

pub returns : goal.returns
unfolding name_of one_or_none
returns c = rw c.in-Some.is (enters_one c.enter_name.ensures)
