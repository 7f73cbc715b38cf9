-- `soundness::counted::CountedStore::names_fit` meets its contract.
use Rattle.std.proofs.Common.{rules}
use Rattle.soundness.proofs.RangeLaws.{all_of_rows}
use Rattle.soundness.specs.Sound.{name_row_fits, names_fit}
use mathlib.Core.Path.{refl}
use Rattle.soundness.proofs.counted.CountedStore.names_fit.Goals as goal

pub returns : goal.returns
unfolding names_fit
returns c = rw (← c.args.self.now.counted.taken.names) (all_of_rows (name_row_fits c.args.self.now.store.now) _ _ c.all.ensures.ran (λ x b q k. search rules) _ refl)
