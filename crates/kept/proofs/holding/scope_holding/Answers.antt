-- `kept::holding::scope_holding` meets its contract.
use Rattle.std.proofs.Common.{rules}
use Rattle.std.proofs.lemmas.Iterator.{YieldsList-from_range}
use Rattle.std.proofs.lemmas.Iterator.Search.{find_from_yields_List}
use Rattle.kept.proofs.HoldingLaws.{as_found, held_at, found_held}
use Rattle.module.specs.Ids.{scope_of}
use mathlib.Core.Path.{◌≡◌, refl, ◌∙◌}
use native.Mathlib.Omega.{arith}
use Rattle.kept.proofs.holding.scope_holding.Goals as goal

pub returns : goal.returns
unfolding scope_of as_found held_at
returns c =
    let shown : scope_of c.map.result ≡ as_found c.find.result = search rules in
    shown
    ∙ found_held _ _ _ c.in_use.ensures.0 _ (find_from_yields_List (held_at c.args.store.now c.args.x.0 c.in_use.result c.in_use.ensures.0) _ _ c.find.result c.find.ensures.ran (YieldsList-from_range 0 _ c.in_use.result refl (omega arith)) (λ x b q k. search rules))
