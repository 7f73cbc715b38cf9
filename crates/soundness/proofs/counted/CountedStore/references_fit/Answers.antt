-- `soundness::counted::CountedStore::references_fit` meets its contract.
use Rattle.soundness.specs.Sound.{expr_fits}
use Rattle.soundness.proofs.counted.CountedStore.references_fit.Goals as goal

pub returns : goal.returns
unfolding expr_fits
returns c = rw (← c.args.self.now.counted.taken.exprs) c.all_below.ensures
