-- The loop of `resolve::search::innermost`.
use Rattle.layout.specs.Keeps.{scopes_in}
use Rattle.layout.specs.States.{module_in}
use Rattle.resolve.specs.Chain.{scopes_left}
use Rattle.spec.specs.Answer.{text_of_name, chain, innermost}
use Rattle.spec.specs.Calls.{set_name}
use mathlib.Core.Path.{◌≡◌}
use Rattle.resolve.proofs.search.innermost.Given as goal

abbrev pub invariant-loop-i : goal.invariant-loop-i
invariant-loop-i l =
    innermost (text_of_name (set_name l.x.0 l.text (module_in l.store))) (scopes_in l.store).scopes l.sought (chain (scopes_in l.store).scopes l.fn.s.0)
    ≡ innermost (text_of_name (set_name l.x.0 l.text (module_in l.store))) (scopes_in l.store).scopes l.sought (scopes_left l.i-iterator)
