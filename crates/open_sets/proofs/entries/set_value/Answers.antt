-- `open_sets::entries::set_value` meets its contract.
use Rattle.open_sets.proofs.ChangeLaws.{value_set}
use Rattle.open_sets.specs.Entries.{maybe_value_of}
use native.Mathlib.Omega.{arith}
use Rattle.open_sets.proofs.entries.set_value.Goals as goal

pub returns-then-i-entry_count : goal.returns-then-i-entry_count
unfolding maybe_value_of
returns-then-i-entry_count c = value_set _ _ _ _ _ _ _ _ c.requires c.entry_count.ensures.0 c.if-i-entry_count.true (omega arith) (omega arith) (omega arith) c.from-words.ensures c.put_words.ensures
