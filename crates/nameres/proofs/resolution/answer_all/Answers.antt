-- `nameres::resolution::answer_all` meets its contract.
use Rattle.nameres.proofs.StepLaws.{afresh_none, afresh_more, afresh_done}
use Rattle.nameres.proofs.resolution.answer_all.Goals as goal

pub loop-e-init : goal.loop-e-init
loop-e-init c = afresh_none _

pub loop-e-preserved : goal.loop-e-preserved
loop-e-preserved c = afresh_more _ _ _ _ c.loop-e.invariant c.answer_afresh.ensures

pub returns : goal.returns
returns c = afresh_done _ _ _ _ c.loop-e.invariant c.loop-e.auto.e-end c.loop-e-test.false c.expr_count-e-end.ensures.0
