-- `intake::bring::bring_counted` meets its contract.
use Rattle.intake.proofs.BringLaws.{bringing_start, stopped_brought, all_brought}
use borrow.Author.Rules.{rules}
use Rattle.intake.proofs.bring.bring_counted.Goals as goal

pub bring_all-requires : goal.bring_all-requires
bring_all-requires c = (search rules, (c.requires.1.few, bringing_start _ _ _ c.requires.1 _ _ _ c.requires.0 c.put32.ensures c.put32-2.ensures))

pub returns-in_err-texts : goal.returns-in_err-texts
returns-in_err-texts c = rw c.from_residual.ensures (stopped_brought _ _ _ _ c.put32.ensures c.put32-2.ensures _ c.in_err-texts.ensures)

pub returns : goal.returns
returns c = all_brought _ _ _ _ c.put32.ensures c.put32-2.ensures _ _ _ c.in_ok-texts.ensures c.requires.0 c.requires.1.few _ _ c.put32-3.ensures c.put32-4.ensures
