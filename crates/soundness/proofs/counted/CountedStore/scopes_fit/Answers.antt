-- `soundness::counted::CountedStore::scopes_fit` meets its contract.
use Rattle.soundness.proofs.SoundLaws.{last_within}
use Rattle.soundness.proofs.counted.CountedStore.scopes_fit.Goals as goal

pub entered_fit-requires : goal.entered_fit-requires
entered_fit-requires c = last_within _ _ _ _ c.firsts_ascend.ensures c.if-not-firsts_ascend.false _ c.get32-entered.ensures
