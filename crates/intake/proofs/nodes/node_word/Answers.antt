-- `intake::nodes::node_word` meets its contract.
use Rattle.intake.proofs.NodeLaws.{has_in, has_out, count_few, word_in, word_out}
use mathlib.Core.Path.{sym, ◌∙◌}
use native.Mathlib.Omega.{arith}
use Rattle.intake.proofs.nodes.node_word.Goals as goal

pub get32-requires : goal.get32-requires
get32-requires c = omega (arith, has_in _ _ _ c.has_node.ensures c.if-has_node.true, count_few c.args.store.now)

pub returns-then-has_node : goal.returns-then-has_node
returns-then-has_node c = c.get32.ensures ∙ sym (word_in _ _ _ (has_in _ _ _ c.has_node.ensures c.if-has_node.true))

pub returns : goal.returns
returns c = sym (word_out _ _ _ (has_out _ _ _ c.has_node.ensures c.if-has_node.false))
