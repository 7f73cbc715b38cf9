-- `soundness::counted::CountedStore::new` meets its contract.
use Rattle.soundness.proofs.SoundCountLaws.{counted}
use mathlib.Core.Path.{sym, ◌∙◌}
use Rattle.soundness.proofs.counted.CountedStore.new.Goals as goal

pub invariant_of-result : goal.invariant_of-result
invariant_of-result c = record { counted = counted _ _ c.counts_of-counts.ensures c.requires (sym c.counts_fit.ensures ∙ c.if-not-counts_fit.false) }
