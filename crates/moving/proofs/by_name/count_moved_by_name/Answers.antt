-- `moving::by_name::count_moved_by_name` meets its contract.
use Rattle.moving.proofs.AllLaws.{counted}
use Rattle.moving.proofs.ListLaws.{counting_none, counting_low, counting_on, counting_done}
use native.Mathlib.Omega.{arith}
use Rattle.moving.proofs.by_name.count_moved_by_name.Goals as goal

pub loop-e-init : goal.loop-e-init
loop-e-init c = counting_none _ _ _

pub overflow_add-count : goal.overflow_add-count
overflow_add-count c = omega (arith, counting_low _ _ _ _ _ c.loop-e.invariant _ c.count_one-count.ensures, c.expr_count-e-end.ensures.1, c.loop-e-test.true)

pub loop-e-preserved : goal.loop-e-preserved
loop-e-preserved c = counting_on _ _ _ _ _ c.loop-e.invariant _ c.count_one-count.ensures (omega (arith, c.loop-e-test.true, counted _ _ c.expr_count-e-end.ensures.0))

pub returns : goal.returns
returns c = rw c.find_name-name.ensures.1 at (counting_done _ _ _ _ _ c.loop-e.invariant (omega (arith, c.loop-e-test.false, counted _ _ c.expr_count-e-end.ensures.0)))
