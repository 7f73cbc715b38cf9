-- `resolve::withs::has_with` meets its contract.
use Rattle.std.proofs.Common.{rules}
use Rattle.std.proofs.lemmas.Iterator.Consumers.{YieldsList-from_first}
use Rattle.std.proofs.lemmas.Iterator.Search.{any_from_yields_List}
use Rattle.layout.specs.Keeps.{scopes_in}
use Rattle.resolve.proofs.WithLaws.{with_at, any_with}
use Rattle.resolve.specs.Chain.{scopes_left}
use borrow.Author.Tests.{tests}
use mathlib.Core.Path.{◌∙◌}
use Rattle.resolve.proofs.withs.has_with.Goals as goal

pub returns : goal.returns
returns c =
    any_from_yields_List (with_at (scopes_in c.args.store.now).scopes) _ _ c.any.result c.any.ensures.ran (YieldsList-from_first (λ i. i.0) scopes_left _ c.new.ensures) (λ x b q k. search (rules, tests))
    ∙ any_with (scopes_in c.args.store.now).scopes _
