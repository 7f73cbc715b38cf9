-- `merge::merge::add_dynamic` meets its contract.
use Rattle.merge.proofs.SetSteps.{dynamic_added}
use Rattle.open_sets.specs.Entries.{entry_with}
use Rattle.merge.proofs.merge.add_dynamic.Goals as goal

pub returns : goal.returns
unfolding entry_with
returns c = dynamic_added _ _ _ c.add_entry.ensures
