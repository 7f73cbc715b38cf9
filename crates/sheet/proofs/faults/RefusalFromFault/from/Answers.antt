use mathlib.Core.Logic.{⊎_elim}
use Rattle.spec.specs.Sheet.{fault_number}
use Rattle.sheet.proofs.faults.RefusalFromFault.from.Goals as goal

pub returns-in-Malformed : goal.returns-in-Malformed
unfolding fault_number
returns-in-Malformed c = rw c.in-Malformed.is

pub returns-in-WrongCount : goal.returns-in-WrongCount
unfolding fault_number
returns-in-WrongCount c = ⊎_elim (λ e. rw e) (⊎_elim (λ e. rw e) (λ e. rw e)) c.in-WrongCount.is

pub returns-in-WrongFlag : goal.returns-in-WrongFlag
unfolding fault_number
returns-in-WrongFlag c = rw c.in-WrongFlag.is

pub returns-in-WrongText : goal.returns-in-WrongText
unfolding fault_number
returns-in-WrongText c = rw c.in-WrongText.is

pub returns-in-WrongRange : goal.returns-in-WrongRange
unfolding fault_number
returns-in-WrongRange c = rw c.in-WrongRange.is
