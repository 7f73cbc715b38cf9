-- `open_sets::sets::cut` meets its contract.
use Rattle.open_sets.proofs.SetLaws.{cut_done}
use native.Mathlib.Omega.{arith}
use Rattle.open_sets.proofs.sets.cut.Goals as goal

pub returns : goal.returns
returns c = cut_done _ _ _ _ _ _ _ _ c.requires c.set_count.ensures.0 c.entry_count.ensures.0 c.at_most-s.ensures.0 c.at_most-e.ensures.0 (omega arith) (omega arith) c.put_words.ensures
