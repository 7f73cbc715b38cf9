-- The loop of `vectors::run_calls`.
use Rattle.std.proofs.Common.{length, ◌≤◌}
use Rattle.vectors.proofs.run_calls.Given as goal

abbrev pub invariant-loop : goal.invariant-loop
invariant-loop g l = length l.rest ≤ length l.list
