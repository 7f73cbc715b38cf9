-- `lower::whole::lower` meets its contract.
use Rattle.lower.proofs.ModuleLaws.{lowered_all}
use Rattle.lower.proofs.whole.lower.Goals as goal

pub returns : goal.returns
returns c = lowered_all _ _ _ _ c.expr-e.ensures c.set_entry.ensures
