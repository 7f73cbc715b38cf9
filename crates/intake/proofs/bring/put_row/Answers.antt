-- `intake::bring::put_row` meets its contract.
use Rattle.intake.proofs.BringRowLaws.{row_put}
use native.Mathlib.Omega.{arith}
use Rattle.intake.proofs.bring.put_row.Goals as goal

pub returns : goal.returns
returns c =
    row_put _ _ _ _ _ _ _ _ _ c.requires.0 c.requires.1 (omega (arith, c.number-kind.ensures), (omega arith, (omega arith, (omega arith, (c.ranges.text.fits, (c.ranges.end.fits, tt))))))
    (rw c.number-kind.ensures at c.put_words.ensures)
