use Rattle.std.proofs.Common.{length}
use Rattle.sheet.proofs.KidLaws.{Judging}
use Rattle.sheet.proofs.kids.judge_kids.Given as goal

abbrev pub invariant-loop-kid : goal.invariant-loop-kid
invariant-loop-kid l = Judging l.kids l.nodes l.low l.left

abbrev pub decreases-loop-kid : goal.decreases-loop-kid
decreases-loop-kid l = length l.left
