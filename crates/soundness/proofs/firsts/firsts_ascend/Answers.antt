-- `soundness::firsts::firsts_ascend` meets its contract.
use Rattle.soundness.proofs.SoundLaws.{climbs_none, climbs_more, starts_above, falls, climbs_end}
use Rattle.soundness.proofs.SoundTableLaws.{at_base}
use mathlib.Core.Path.{sym}
use native.Mathlib.Omega.{arith}
use Rattle.soundness.proofs.firsts.firsts_ascend.Goals as goal

pub returns-then-last-ne0 : goal.returns-then-last-ne0
returns-then-last-ne0 c = sym (starts_above _ _ _ _ (at_base _ _ _ _ c.get32-last.ensures) c.if-last-ne0.true)

pub loop-i-init : goal.loop-i-init
loop-i-init c = climbs_none _ _ (at_base _ _ _ _ c.get32-last.ensures) c.if-last-ne0.false

pub returns-then-next-last : goal.returns-then-next-last
returns-then-next-last c = sym (falls _ _ _ _ _ _ c.loop-i.invariant c.loop-i-test.true c.get32-next.ensures c.if-next-last.true)

pub loop-i-preserved : goal.loop-i-preserved
loop-i-preserved c = climbs_more _ _ _ _ c.loop-i.invariant c.get32-next.ensures c.if-next-last.false

pub returns : goal.returns
returns c = sym (climbs_end _ _ _ _ _ c.loop-i.invariant (omega arith))
