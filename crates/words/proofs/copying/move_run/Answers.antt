-- `words::copying::move_run` meets its contract.
use Rattle.words.proofs.RunLaws.{moved_is}
use Rattle.words.proofs.copying.move_run.Goals as goal

pub returns : goal.returns
returns c = moved_is _ _ _ _ _ c.requires.0 c.requires.1 c.copy_within.ensures.after
