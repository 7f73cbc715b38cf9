-- `lower::leaves::pair_form` meets its contract.
use Rattle.lower.proofs.LeafLaws.{form_apply, form_with, form_assert}
use Rattle.lower.proofs.leaves.pair_form.Goals as goal

pub returns-in-Apply : goal.returns-in-Apply
returns-in-Apply c = form_apply _ _ _ c.in-Apply.is

pub returns-in-With : goal.returns-in-With
returns-in-With c = form_with _ _ _ c.in-With.is

pub returns-in_default : goal.returns-in_default
returns-in_default c = form_assert _ _ _ c.in_default.not-Apply c.in_default.not-With
