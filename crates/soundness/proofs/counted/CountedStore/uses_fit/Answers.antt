-- `soundness::counted::CountedStore::uses_fit` meets its contract.
use Rattle.std.proofs.Common.{rules}
use Rattle.soundness.proofs.RangeLaws.{all_of_rows}
use Rattle.soundness.specs.Sound.{use_fits}
use mathlib.Core.Path.{refl}
use Rattle.soundness.proofs.counted.CountedStore.uses_fit.Goals as goal

pub returns : goal.returns
returns c = all_of_rows (use_fits c.args.self.now.store.now) _ _ c.all.ensures.ran (λ x b q k. search rules) _ refl
