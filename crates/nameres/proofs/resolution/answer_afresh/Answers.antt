-- `nameres::resolution::answer_afresh` meets its contract.
use Rattle.nameres.proofs.StepLaws.{afresh_reference, afresh_other}
use Rattle.nameres.proofs.resolution.answer_afresh.Goals as goal

pub returns-in-Some : goal.returns-in-Some
returns-in-Some c = afresh_reference _ _ _ _ _ _ c.reference_text.ensures c.in-Some.is c.resolve_name-a.ensures c.set_answer.ensures

pub returns-in-None : goal.returns-in-None
returns-in-None c = afresh_other _ _ _ _ c.reference_text.ensures c.in-None.is c.set_answer-in-None.ensures
