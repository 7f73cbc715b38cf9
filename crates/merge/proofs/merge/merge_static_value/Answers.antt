-- `merge::merge::merge_static_value` meets its contract.
use Rattle.merge.proofs.KeySteps.{value_new, value_again}
use Rattle.open_sets.specs.Run.{maybe_entry_of}
use Rattle.merge.proofs.merge.merge_static_value.Goals as goal

pub returns-in-Some : goal.returns-in-Some
unfolding maybe_entry_of
returns-in-Some c = value_again _ _ _ _ _ (rw c.in-Some.is at c.find.ensures) (c.second_value.ensures _)

pub returns-in-None : goal.returns-in-None
unfolding maybe_entry_of
returns-in-None c = value_new _ _ _ _ (rw c.in-None.is at c.find.ensures) c.first_value.ensures
