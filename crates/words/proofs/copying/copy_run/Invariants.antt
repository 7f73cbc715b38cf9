-- The loop of `words::copying::copy_run`.
use Rattle.words.proofs.CopyLoops.{Begun}
use Rattle.words.proofs.copying.copy_run.Given as goal

abbrev pub invariant-loop-i : goal.invariant-loop-i
invariant-loop-i l = Begun l.initial.s l.at l.t l.s l.i
