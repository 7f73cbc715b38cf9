-- `layout::rows::get_pointer` meets its contract.
use Rattle.layout.proofs.Frames.{pointer_got}
use Rattle.layout.proofs.rows.get_pointer.Goals as goal

pub returns : goal.returns
returns c = pointer_got _ _ _ c.get32.ensures c.get32-2.ensures c.get32-3.ensures
