-- The loop of `intake::bring::bring_all`.
use Rattle.intake.proofs.BringLaws.{Going}
use Rattle.intake.proofs.bring.bring_all.Given as goal

abbrev pub invariant-loop-i : goal.invariant-loop-i
invariant-loop-i l = Going l.sheet l.nodes l.initial.store l.i l.front l.store
