-- `intake::bring::bring_row` meets its contract.
use Rattle.intake.proofs.BringRowLaws.{row_brought, text_over}
use Rattle.intake.proofs.bring.bring_row.Goals as goal

pub returns-in_err-texts : goal.returns-in_err-texts
returns-in_err-texts c =
    rw c.from_residual-in_err-texts.ensures (text_over _ _ _ _ _ _ (rw c.of.ensures at c.in_ok-end.ensures) _ (rw c.of-2.ensures at c.in_err-texts.ensures))

pub returns : goal.returns
returns c =
    row_brought _ _ _ _ _ _ _ _ _ _ c.requires.0 c.requires.1.0 c.requires.1.1.1 (rw c.of.ensures at c.in_ok-end.ensures) (rw c.of-2.ensures at c.in_ok-texts.ensures) c.put_row.ensures
