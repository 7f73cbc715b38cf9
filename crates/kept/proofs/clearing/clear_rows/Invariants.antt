-- The loop of `kept::clearing::clear_rows`.
use Rattle.kept.specs.Zeroes.{Zeroed}
use Rattle.kept.proofs.clearing.clear_rows.Given as goal

abbrev pub invariant-loop-i : goal.invariant-loop-i
invariant-loop-i l = Zeroed l.table l.row l.i l.initial.store l.store
