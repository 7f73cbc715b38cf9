-- `scopes::enters::open_for_lambda` meets its contract.
use Rattle.scopes.proofs.EnterLaws.{few_params, enters_lambda}
use Rattle.scopes.proofs.OpenLaws.{opened_for}
use mathlib.Core.Path.{refl}
use native.Mathlib.Omega.{arith}
use Rattle.scopes.proofs.enters.open_for_lambda.Goals as goal

pub enter_fields-n-requires : goal.enter_fields-n-requires
enter_fields-n-requires c = (omega (arith, c.requires, c.enter_maybe-first.ensures.wrote.size), omega (arith, few_params _ c.enter_maybe-first.ensures))

pub returns : goal.returns
returns c = opened_for _ _ refl (enters_lambda _ _ c.enter_maybe-first.ensures c.enter_fields-n.ensures) c.open_for.ensures
