-- `open_sets::add::insert_number` meets its contract.
use Rattle.open_sets.proofs.RunAdds.{number_inserted}
use mathlib.Core.Path.{◌∙◌}
use native.Mathlib.Omega.{arith}
use Rattle.open_sets.proofs.add.insert_number.Goals as goal

pub returns : goal.returns
returns c = number_inserted _ _ _ _ _ _ _ _ c.requires.0 c.requires.1.0 c.requires.1.1 (omega arith) (omega arith) c.move_run.ensures c.put32.ensures (c.put32-2.ensures ∙ rw c.next-next.ensures)
