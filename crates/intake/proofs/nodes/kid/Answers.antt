-- `intake::nodes::kid` meets its contract.
use Rattle.intake.proofs.NodeLaws.{kid_none, kid_row, kid_place, kid_from}
use Rattle.module.specs.Ids.{node_of}
use native.Mathlib.Omega.{arith}
use Rattle.intake.proofs.nodes.kid.Goals as goal

pub returns-then-kid_count-i : goal.returns-then-kid_count-i
unfolding node_of
returns-then-kid_count-i c = kid_none _ _ _ _ c.kid_count.ensures (omega arith)

pub first_kid-requires : goal.first_kid-requires
first_kid-requires c = (c.requires, kid_row _ _ c.args.i _ c.kid_count.ensures (omega arith))

pub overflow_add-first_kid : goal.overflow_add-first_kid
overflow_add-first_kid c = omega (arith, c.first_kid.ensures, kid_place _ _ c.args.i _ c.kid_count.ensures (omega arith))

pub kid_at-requires : goal.kid_at-requires
kid_at-requires c = (c.requires, omega (arith, c.first_kid.ensures, kid_place _ _ c.args.i _ c.kid_count.ensures (omega arith)))

pub returns : goal.returns
unfolding node_of
returns c = kid_from _ _ _ _ c.kid_count.ensures (omega arith) _ c.first_kid.ensures c.kid_at.ensures
