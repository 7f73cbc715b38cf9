-- The loop of `resolve::withs::count_withs`.
use Rattle.layout.specs.Keeps.{scopes_in}
use Rattle.resolve.proofs.WithListLaws.{Counting}
use Rattle.resolve.specs.Chain.{scopes_left}
use Rattle.spec.specs.Answer.{chain, withs_of}
use Rattle.resolve.proofs.withs.count_withs.Given as goal

abbrev pub invariant-loop-i : goal.invariant-loop-i
invariant-loop-i l =
    Counting (withs_of (scopes_in l.store).scopes (chain (scopes_in l.store).scopes l.fn.s.0)) (withs_of (scopes_in l.store).scopes (scopes_left l.i-iterator)) l.n
