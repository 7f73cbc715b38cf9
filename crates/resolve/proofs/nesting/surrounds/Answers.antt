-- `resolve::nesting::surrounds` meets its contract.
use Rattle.std.proofs.Common.{rules}
use Rattle.std.proofs.lemmas.Iterator.Consumers.{YieldsList-from_first}
use Rattle.std.proofs.lemmas.Iterator.Search.{any_from_yields_List}
use Rattle.resolve.proofs.NestingLaws.{any_is}
use Rattle.resolve.specs.Chain.{scopes_left}
use borrow.Author.Tests.{tests}
use lib.Dec.{eqb}
use mathlib.Core.Path.{◌∙◌}
use Rattle.resolve.proofs.nesting.surrounds.Goals as goal

pub returns : goal.returns
returns c =
    any_from_yields_List (λ i. eqb c.args.held.0 i) _ _ c.any.result c.any.ensures.ran (YieldsList-from_first (λ i. i.0) scopes_left _ c.new.ensures) (λ x b q k. search (rules, tests))
    ∙ any_is c.args.held.0 _
