-- `merge::merge::first_value` meets its contract.
use Rattle.merge.proofs.KeySteps.{value_first}
use Rattle.open_sets.specs.Entries.{entry_with, maybe_set_of, maybe_value_of}
use Rattle.merge.proofs.merge.first_value.Goals as goal

pub returns : goal.returns
unfolding entry_with maybe_set_of maybe_value_of
returns c = value_first _ _ _ _ c.name_key-x.ensures c.add_entry.ensures
