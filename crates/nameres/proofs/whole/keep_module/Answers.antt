-- `nameres::whole::keep_module` meets its contract.
use Rattle.nameres.proofs.LoadLaws.{keeps_all}
use Rattle.nameres.proofs.whole.keep_module.Goals as goal

pub returns : goal.returns
returns c = keeps_all _ _ _ _ c.compute_scopes.ensures c.compute_name_resolution.ensures c.set_spent.ensures
