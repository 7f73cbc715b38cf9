-- The measures of the cycle `+finishing`, and the loops in it.
use Prim.Native.Nat.{◌+◌, ◌*◌, ◌-◌}
use Rattle.layout.specs.Layout.{entry_limit}
use Rattle.merge.proofs.FinishLaws.{Going}
use Rattle.merge.proofs.finish.+finishing.Given as goal

abbrev pub decreases-finish : goal.decreases-finish
decreases-finish l = 4 * l.bound + 3

abbrev pub decreases-finish_entry : goal.decreases-finish_entry
decreases-finish_entry l = 4 * l.bound + 2

abbrev pub decreases-finish_expr : goal.decreases-finish_expr
decreases-finish_expr l = 4 * l.bound

abbrev pub decreases-finish_value : goal.decreases-finish_value
decreases-finish_value l = 4 * l.bound + 1

abbrev pub invariant-finish-loop-j : goal.invariant-finish-loop-j
invariant-finish-loop-j l = Going l.bound l.s.0 l.initial.store l.initial.j l.store l.j

abbrev pub decreases-finish-loop-j : goal.decreases-finish-loop-j
decreases-finish-loop-j l = entry_limit - l.j
