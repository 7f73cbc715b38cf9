-- `intake::bring::bring_all` meets its contract.
use Rattle.intake.proofs.BringLaws.{going_end}
use native.Mathlib.Omega.{arith}
use Rattle.intake.proofs.bring.bring_all.Goals as goal

pub returns : goal.returns
returns c = going_end c.loop-i.invariant (omega arith)
