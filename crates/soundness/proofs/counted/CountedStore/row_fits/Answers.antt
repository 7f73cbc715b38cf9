-- `soundness::counted::CountedStore::row_fits` meets its contract.
use Rattle.soundness.proofs.SoundTableLaws.{next_first, items_within}
use Rattle.soundness.proofs.counted.CountedStore.row_fits.Goals as goal

pub items_fit-requires : goal.items_fit-requires
items_fit-requires c = items_within _ _ _ c.requires.1 c.requires.0 _ (next_first _ _ _ c.get32-next.ensures)
