-- `resolve::names::resolve_in` meets its contract.
use Rattle.resolve.proofs.NameLaws.{defined_is}
use Rattle.resolve.proofs.names.resolve_in.Goals as goal

pub returns-in-Some : goal.returns-in-Some
returns-in-Some c = defined_is _ _ _ _ _ c.innermost.ensures c.in-Some.is
