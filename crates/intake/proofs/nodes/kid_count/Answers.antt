-- `intake::nodes::kid_count` meets its contract.
use Rattle.intake.proofs.NodeLaws.{has_in, has_out, count_few, kids_none, kids_many, kids_no}
use borrow.Author.Tests.{not-true, not-false}
use native.Mathlib.Omega.{arith}
use Rattle.intake.proofs.nodes.kid_count.Goals as goal

pub returns-then-not-has_node : goal.returns-then-not-has_node
returns-then-not-has_node c = kids_none _ _ (has_out _ _ _ c.has_node.ensures (not-true _ c.if-not-has_node.true-raw))

pub first_kid-first-requires : goal.first_kid-first-requires
first_kid-first-requires c = (c.requires, omega (arith, has_in _ _ _ c.has_node.ensures (not-false _ c.if-not-has_node.false-raw), count_few c.args.store.now))

pub overflow_add-n : goal.overflow_add-n
overflow_add-n c = omega (arith, has_in _ _ _ c.has_node.ensures (not-false _ c.if-not-has_node.false-raw), count_few c.args.store.now)

pub first_kid-end-requires : goal.first_kid-end-requires
first_kid-end-requires c = (c.requires, omega (arith, has_in _ _ _ c.has_node.ensures (not-false _ c.if-not-has_node.false-raw), count_few c.args.store.now))

pub returns-then-end-first : goal.returns-then-end-first
returns-then-end-first c = kids_no _ _ _ _ (has_in _ _ _ c.has_node.ensures (not-false _ c.if-not-has_node.false-raw)) c.first_kid-first.ensures c.first_kid-end.ensures (omega arith)

pub returns : goal.returns
returns c = kids_many _ _ _ _ (has_in _ _ _ c.has_node.ensures (not-false _ c.if-not-has_node.false-raw)) c.first_kid-first.ensures c.first_kid-end.ensures
