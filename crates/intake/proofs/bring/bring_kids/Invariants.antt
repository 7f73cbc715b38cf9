-- The loop of `intake::bring::bring_kids`.
use Rattle.intake.proofs.BringKidLaws.{Filling}
use Rattle.intake.proofs.bring.bring_kids.Given as goal

abbrev pub invariant-loop-used : goal.invariant-loop-used
invariant-loop-used l = Filling l.kids l.initial.store l.first l.left l.used l.store
