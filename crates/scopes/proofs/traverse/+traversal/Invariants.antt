-- The measures of the cycle `+traversal`, and the loop in it.
use Prim.Native.Nat.{◌+◌, ◌*◌}
use Rattle.rows.specs.Readers.{items_at_expr}
use Rattle.scopes.specs.Picking.{picked}
use Rattle.scopes.specs.Walking.{Follows}
use lib.ListN.{take}
use Rattle.scopes.proofs.traverse.+traversal.Given as goal

abbrev pub decreases-child : goal.decreases-child
decreases-child l = 8 * l.e.0

abbrev pub decreases-pair : goal.decreases-pair
decreases-pair l = 8 * l.e.0 + 1

abbrev pub decreases-traverse_bindings : goal.decreases-traverse_bindings
decreases-traverse_bindings l = 8 * l.e.0 + 4

abbrev pub decreases-traverse_expr : goal.decreases-traverse_expr
decreases-traverse_expr l = 8 * l.e.0 + 6

abbrev pub decreases-traverse_lambda : goal.decreases-traverse_lambda
decreases-traverse_lambda l = 8 * l.e.0 + 5

abbrev pub decreases-walk_defaults : goal.decreases-walk_defaults
decreases-walk_defaults l = 8 * l.e.0 + 4

abbrev pub decreases-walk_items : goal.decreases-walk_items
decreases-walk_items l = 8 * l.e.0 + 3

abbrev pub decreases-walk_path : goal.decreases-walk_path
decreases-walk_path l = 8 * l.e.0 + 4

abbrev pub decreases-child_if_any : goal.decreases-child_if_any
decreases-child_if_any l = 8 * l.e.0 + 2

abbrev pub invariant-walk_items-loop-i : goal.invariant-walk_items-loop-i
invariant-walk_items-loop-i l = Follows l.e.0 l.scope.0 (picked l.pass (take l.i (items_at_expr l.initial.store l.e.0))) l.initial.store l.store
