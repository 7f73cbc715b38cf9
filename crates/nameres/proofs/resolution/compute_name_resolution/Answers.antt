-- `nameres::resolution::compute_name_resolution` meets its contract.
use Rattle.nameres.proofs.ResolveLaws.{resolved}
use Rattle.nameres.proofs.resolution.compute_name_resolution.Goals as goal

pub returns : goal.returns
returns c = resolved _ _ _ c.answer_all.ensures c.list_references.ensures
