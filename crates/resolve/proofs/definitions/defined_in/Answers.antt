-- `resolve::definitions::defined_in` meets its contract.
use Rattle.module.specs.Ids.{name_of}
use Rattle.resolve.proofs.DefinitionLaws.{name_found}
use mathlib.Core.Path.{ap}
use Rattle.resolve.proofs.definitions.defined_in.Goals as goal

pub returns-in-Some : goal.returns-in-Some
unfolding name_of
returns-in-Some c = name_found _ _ _ _ c.loop-i.invariant c.loop-i-test.true _ _ c.entered_as.ensures (ap name_of c.in-Some.is)
