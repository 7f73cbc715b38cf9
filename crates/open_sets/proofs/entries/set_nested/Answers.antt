-- `open_sets::entries::set_nested` meets its contract.
use Rattle.open_sets.proofs.ChangeLaws.{nested_set}
use native.Mathlib.Omega.{arith}
use Rattle.open_sets.proofs.entries.set_nested.Goals as goal

pub returns-then-i-entry_count : goal.returns-then-i-entry_count
returns-then-i-entry_count c = nested_set _ _ _ _ _ _ c.requires.0 c.entry_count.ensures.0 c.if-i-entry_count.true (omega arith) c.requires.1 c.put32.ensures
