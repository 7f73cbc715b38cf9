-- The measures of the cycle `+walk`, and the loop in it.
use Prim.Native.Nat.{◌+◌, ◌*◌}
use lib.ListN.{length}
use Rattle.tree.proofs.WalkLaws.{Going}
use Rattle.tree.proofs.nodes.Tree.+walk.Given as goal

abbrev pub decreases-enter : goal.decreases-enter
decreases-enter l = 4 * l.parent.left

abbrev pub decreases-walk_kid : goal.decreases-walk_kid
decreases-walk_kid l = 4 * l.parent.left + 1

abbrev pub decreases-walk_kids : goal.decreases-walk_kids
decreases-walk_kids l = 4 * l.parent.left + 2

abbrev pub decreases-walk : goal.decreases-walk
decreases-walk l = 4 * l.parent.left + 3

abbrev pub invariant-walk_kids-loop-kid : goal.invariant-walk_kids-loop-kid
invariant-walk_kids-loop-kid l = Going l.self.sheet.now l.self.nodes l.parent.left l.parent.node l.initial.todo l.initial.kids l.todo l.kids

abbrev pub decreases-walk_kids-loop-kid : goal.decreases-walk_kids-loop-kid
decreases-walk_kids-loop-kid l = length l.kids
