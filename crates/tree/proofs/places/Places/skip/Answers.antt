-- `tree::places::Places::skip` meets its contract.
use mathlib.Core.Path.{refl}
use Rattle.tree.proofs.PlaceLaws.{after_first}
use Rattle.tree.proofs.places.Places.skip.Goals as goal

pub returns-in-len1-up : goal.returns-in-len1-up
returns-in-len1-up c = (after_first _ c.in-len1-up.len_at_least, refl)
