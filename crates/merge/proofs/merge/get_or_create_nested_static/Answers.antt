-- `merge::merge::get_or_create_nested_static` meets its contract.
use Rattle.merge.proofs.KeySteps.{nested_new, nested_again}
use Rattle.open_sets.specs.Run.{maybe_entry_of}
use Rattle.merge.proofs.merge.get_or_create_nested_static.Goals as goal

pub returns-in-Some : goal.returns-in-Some
unfolding maybe_entry_of
returns-in-Some c = nested_again _ _ _ _ (rw c.in-Some.is at c.find.ensures) (c.nested_or.ensures _ _)

pub returns-in-None : goal.returns-in-None
unfolding maybe_entry_of
returns-in-None c = nested_new _ _ _ (rw c.in-None.is at c.find.ensures) c.first_nested.ensures
