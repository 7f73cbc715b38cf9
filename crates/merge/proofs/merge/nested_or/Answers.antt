-- `merge::merge::nested_or` meets its contract.
use Rattle.merge.proofs.KeySteps.{nested_read, nested_there, nested_lacked}
use Rattle.open_sets.specs.Entries.{maybe_set_of}
use Rattle.merge.proofs.merge.nested_or.Goals as goal

pub returns-in-Some : goal.returns-in-Some
unfolding maybe_set_of
returns-in-Some c = nested_there _ _ _ (rw c.in-Some.is at (nested_read _ _ _ _ c.nested_in.ensures c.entry_at.ensures))

pub returns-in-None : goal.returns-in-None
unfolding maybe_set_of
returns-in-None c = nested_lacked _ _ (rw c.in-None.is at (nested_read _ _ _ _ c.nested_in.ensures c.entry_at.ensures)) c.nest_in.ensures
