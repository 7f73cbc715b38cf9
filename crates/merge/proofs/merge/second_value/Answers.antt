-- `merge::merge::second_value` meets its contract.
use Rattle.merge.proofs.KeySteps.{name_read, value_second}
use Rattle.merge.proofs.merge.second_value.Goals as goal

pub returns : goal.returns
returns c = value_second _ _ _ _ _ _ (name_read _ _ _ _ c.name_in-x.ensures c.entry_at.ensures) c.name_pointer-first.ensures c.add_duplicate.ensures c.set_value.ensures
