-- The loop of `vectors::run_list`.
use Rattle.std.proofs.Common.{length}
use Rattle.vectors.proofs.run_list.Given as goal

abbrev pub decreases-loop-rest : goal.decreases-loop-rest
decreases-loop-rest g l = length l.rest
