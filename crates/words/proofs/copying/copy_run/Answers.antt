-- `words::copying::copy_run` meets its contract.
use Rattle.words.proofs.CopyLoops.{begun_none, begun_more, begun_done}
use native.Mathlib.Omega.{arith}
use Rattle.words.proofs.copying.copy_run.Goals as goal

pub loop-i-init : goal.loop-i-init
loop-i-init c = begun_none _ _ _

pub loop-i-preserved : goal.loop-i-preserved
loop-i-preserved c = begun_more _ _ _ _ _ c.loop-i.invariant c.loop-i-test.true

pub returns : goal.returns
returns c = begun_done _ _ _ _ _ c.loop-i.invariant (omega (arith, c.loop-i.auto.i-end, c.loop-i-test.false))
