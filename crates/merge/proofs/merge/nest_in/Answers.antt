-- `merge::merge::nest_in` meets its contract.
use Rattle.merge.proofs.KeySteps.{nested_made}
use Rattle.module.specs.Kinds.{kind_of}
use Rattle.merge.proofs.merge.nest_in.Goals as goal

pub returns : goal.returns
unfolding kind_of
returns c = nested_made _ _ c.open_set-t.ensures.0 c.set_nested.ensures
