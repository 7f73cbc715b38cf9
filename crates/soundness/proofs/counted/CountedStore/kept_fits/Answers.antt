-- `soundness::counted::CountedStore::kept_fits` meets its contract.
use Rattle.soundness.proofs.SoundLaws.{last_within}
use Rattle.soundness.proofs.counted.CountedStore.kept_fits.Goals as goal

pub references_fit-requires : goal.references_fit-requires
references_fit-requires c = last_within _ _ _ _ c.firsts_ascend.ensures c.if-not-firsts_ascend.false _ c.get32.ensures
