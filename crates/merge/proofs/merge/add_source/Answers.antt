-- `merge::merge::add_source` meets its contract.
use Rattle.merge.proofs.SetSteps.{source_added}
use Rattle.open_sets.specs.Entries.{entry_with}
use Rattle.merge.proofs.merge.add_source.Goals as goal

pub returns : goal.returns
unfolding entry_with
returns c = source_added _ _ c.add_entry.ensures
