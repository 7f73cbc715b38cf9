-- `texts::held::text_held` meets its contract.
use Rattle.layout.specs.Texts.{texts_used, text_held}
use Rattle.texts.proofs.held.text_held.Goals as goal

pub returns : goal.returns
unfolding texts_used text_held
returns c = rw (← c.in_use-used.ensures.0) c.lies_within.ensures
