-- `open_sets::run::first_of` meets its contract.
use Rattle.layout.proofs.Frames.{text_absent}
use Rattle.open_sets.proofs.RunFirsts.{first_runs}
use mathlib.Core.Path.{refl}
use Rattle.open_sets.proofs.run.first_of.Goals as goal

pub returns : goal.returns
returns c = (λ o. first_runs _ _ _ _ refl refl (text_absent _) c.place.ensures o, c.place.ensures.few)
