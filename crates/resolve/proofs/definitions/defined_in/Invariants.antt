-- The loop of `resolve::definitions::defined_in`.
use Rattle.layout.specs.Keeps.{scopes_in}
use Rattle.layout.specs.States.{module_in}
use Rattle.resolve.proofs.DefinitionLaws.{Seeking}
use Rattle.spec.specs.Answer.{scope_at, text_of_name}
use Rattle.spec.specs.Calls.{set_name}
use Rattle.resolve.proofs.definitions.defined_in.Given as goal

abbrev pub invariant-loop-i : goal.invariant-loop-i
invariant-loop-i l = Seeking (text_of_name (set_name l.x.0 l.text (module_in l.store))) l.sought (scope_at (scopes_in l.store).scopes l.s.0).kind l.i
