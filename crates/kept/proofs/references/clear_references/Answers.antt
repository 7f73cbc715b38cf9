-- `kept::references::clear_references` meets its contract.
use Rattle.kept.proofs.ReferenceLaws.{unlisted}
use Rattle.kept.proofs.references.clear_references.Goals as goal

pub returns : goal.returns
returns c = unlisted _ _ c.requires c.put32.ensures
