-- `tree::nodes::Tree::lines` meets its contract.
use Rattle.tree.proofs.NodeLaws.{never_bad, lines_read}
use native.Mathlib.Omega.{arith}
use Rattle.tree.proofs.nodes.Tree.lines.Goals as goal

pub unreachable-requires : goal.unreachable-requires
unreachable-requires c =
    never_bad _ _ _ _ c.args.self.counted (omega arith) c.requires.0 c.requires.1 _ c.node.ensures.result_value c.node.ensures.formed_node _ c.in_default.is

pub returns : goal.returns
returns c =
    lines_read _ _ _ _ c.args.self.counted (omega arith) c.requires.0 c.requires.1 _ c.node.ensures.result_value c.node.ensures.formed_node _ c.in-Ok.is
    _ c.of.ensures
