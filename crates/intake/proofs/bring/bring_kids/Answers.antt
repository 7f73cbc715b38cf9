-- `intake::bring::bring_kids` meets its contract.
use Rattle.intake.proofs.BringKidLaws.{filling_start, filling_end, filling_full, filling_more}
use mathlib.Core.Path.{refl}
use borrow.Author.Rules.{rules}
use native.Mathlib.Omega.{arith}
use Rattle.intake.proofs.bring.bring_kids.Goals as goal

pub loop-used-init : goal.loop-used-init
loop-used-init c = filling_start _ _ _ c.requires.1.0 c.requires.1.1

pub returns-in_default : goal.returns-in_default
returns-in_default c = filling_end c.loop-used.invariant c.in_default.ensures _ refl

pub loop-used-preserved : goal.loop-used-preserved
loop-used-preserved c = filling_more c.loop-used.invariant c.in-Some.ensures c.requires.0 (search rules) c.loop-used-test.true _ c.put32.ensures

pub returns-in-Some-kid_word : goal.returns-in-Some-kid_word
returns-in-Some-kid_word c = filling_full c.loop-used.invariant c.in-Some-kid_word.ensures c.loop-used-test.false

pub returns-in-None : goal.returns-in-None
returns-in-None c = filling_end c.loop-used.invariant c.in-None.ensures _ (omega (arith, c.loop-used.invariant.room))
