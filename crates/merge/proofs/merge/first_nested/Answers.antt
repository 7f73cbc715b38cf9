-- `merge::merge::first_nested` meets its contract.
use Rattle.merge.proofs.KeySteps.{nested_first}
use Rattle.module.specs.Kinds.{kind_of}
use Rattle.open_sets.specs.Entries.{entry_with, maybe_set_of, maybe_value_of}
use Rattle.merge.proofs.merge.first_nested.Goals as goal

pub returns : goal.returns
unfolding kind_of entry_with maybe_set_of maybe_value_of
returns c = nested_first _ _ _ c.name_key-x.ensures c.open_set-t.ensures.0 c.add_entry.ensures
