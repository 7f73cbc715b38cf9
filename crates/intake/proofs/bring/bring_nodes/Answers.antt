-- `intake::bring::bring_nodes` meets its contract.
use Rattle.intake.proofs.BringLaws.{count_bad, counted}
use Rattle.intake.proofs.bring.bring_nodes.Goals as goal

pub bring_counted-requires : goal.bring_counted-requires
bring_counted-requires c = (c.requires, counted _ c.first-start.result c.first-start.ensures _ c.number.ensures _ _ c.in-Ok.is)

pub returns-in-Err : goal.returns-in-Err
returns-in-Err c = count_bad _ c.first-start.result c.first-start.ensures _ c.number.ensures _ c.in-Err.is _
