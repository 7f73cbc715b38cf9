-- `merge::finish::finish_set` meets its contract.
use Rattle.merge.proofs.FinishLaws.{finished_whole}
use Rattle.merge.proofs.finish.finish_set.Goals as goal

pub returns : goal.returns
returns c = finished_whole _ _ c.set_count-bound.ensures.0 c.finish.ensures
