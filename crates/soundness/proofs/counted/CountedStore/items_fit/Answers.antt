-- `soundness::counted::CountedStore::items_fit` meets its contract.
use Rattle.std.proofs.Common.{rules}
use Rattle.soundness.proofs.RangeLaws.{all_of_range}
use Rattle.soundness.specs.Sound.{item_fits}
use mathlib.Core.Path.{refl}
use Rattle.soundness.proofs.counted.CountedStore.items_fit.Goals as goal

pub returns : goal.returns
returns c = all_of_range (item_fits c.args.self.now.store.now c.args.e.0 c.args.sort) _ _ c.all.ensures.ran (λ x b q k. search rules) _ _ refl
