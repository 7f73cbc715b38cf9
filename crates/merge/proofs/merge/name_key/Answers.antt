-- `merge::merge::name_key` meets its contract.
use Rattle.merge.proofs.KeySteps.{name_given}
use Rattle.merge.proofs.merge.name_key.Goals as goal

pub returns : goal.returns
returns c = name_given _ _ _ _ c.set_name_kind-kind.ensures c.alloc_name.ensures
