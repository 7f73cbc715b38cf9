-- `open_sets::entries::put_entry` meets its contract.
use Rattle.open_sets.proofs.ChangeLaws.{entry_put}
use native.Mathlib.Omega.{arith}
use Rattle.open_sets.proofs.entries.put_entry.Goals as goal

pub returns : goal.returns
returns c = entry_put _ _ _ _ _ _ _ c.requires.0 c.requires.1.0 (omega arith) c.entry_row-row.ensures (omega arith, (omega arith, (omega arith, (omega arith, (omega arith, tt))))) (omega arith, (omega arith, tt)) c.put_words.ensures c.put_words-2.ensures
