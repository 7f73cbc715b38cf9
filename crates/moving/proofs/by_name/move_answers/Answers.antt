-- `moving::by_name::move_answers` meets its contract.
use Rattle.moving.proofs.AllLaws.{counted, moving_none, moving_fits, moving_on, moving_done, about_still}
use native.Mathlib.Omega.{arith}
use Rattle.moving.proofs.by_name.move_answers.Goals as goal

pub loop-e-init : goal.loop-e-init
loop-e-init c = moving_none _ _ _ _

pub move_one-count-requires : goal.move_one-count-requires
move_one-count-requires c = (omega (arith, c.requires.0, c.loop-e.invariant.answers.wrote.size), (about_still _ _ _ _ _ _ c.loop-e.invariant.answers c.requires.1.named c.find_name-name.ensures.0, moving_fits _ _ _ _ _ _ _ _ c.loop-e.invariant c.requires.1.named (rw (← c.find_name-name.ensures.1) at c.requires.1.room) (omega (arith, c.loop-e-test.true, counted _ _ c.expr_count-e-end.ensures.0))))

pub loop-e-preserved : goal.loop-e-preserved
loop-e-preserved c = moving_on _ _ _ _ _ _ _ _ c.loop-e.invariant c.requires.1.named _ _ _ c.move_one-count.ensures (omega (arith, c.loop-e-test.true, counted _ _ c.expr_count-e-end.ensures.0))

pub returns : goal.returns
returns c = rw c.find_name-name.ensures.1 at (moving_done _ _ _ _ _ _ _ _ _ c.loop-e.invariant c.loop-e.auto.e-end c.loop-e-test.false c.expr_count-e-end.ensures.0)
