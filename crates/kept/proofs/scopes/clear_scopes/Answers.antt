-- `kept::scopes::clear_scopes` meets its contract.
use Rattle.kept.proofs.ScopeLaws.{emptied}
use Rattle.kept.proofs.scopes.clear_scopes.Goals as goal

pub returns : goal.returns
returns c = emptied _ _ _ _ _ c.requires c.in_use-n.ensures.0 c.clear_rows.ensures c.put32.ensures c.put32-2.ensures
