use Rattle.sheet.proofs.SheetLaws.{Reading}
use Rattle.sheet.proofs.position.Position.nodes.Given as goal

abbrev pub invariant-loop-i : goal.invariant-loop-i
invariant-loop-i l = Reading l.s l.fn.self.at l.nodes l.i l.here.at
