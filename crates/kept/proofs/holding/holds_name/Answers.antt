-- `kept::holding::holds_name` meets its contract.
use Rattle.std.proofs.Common.{rules, tests}
use Rattle.std.proofs.lemmas.Iterator.{YieldsList-from_range, serves_from_Range}
use Rattle.std.proofs.lemmas.Iterator.Search.{any_from_yields_List}
use Rattle.layout.specs.Layout.{name_limit}
use Rattle.kept.proofs.HoldingLaws.{entered_from, any_held, names_within}
use Prim.Native.Nat.{◌+◌, ◌≤◌, ◌<◌}
use lib.Dec.{eqb}
use mathlib.Core.Path.{refl, ◌∙◌}
use native.Mathlib.Omega.{arith}
use Rattle.kept.proofs.holding.holds_name.Goals as goal

pub any-requires-clause-callable : goal.any-requires-clause-callable
any-requires-clause-callable c =
    let m : c.in_use-from.result + c.entered_count.result ≤ name_limit = names_within _ _ _ _ c.entered_count.ensures c.in_use-from.ensures.0 c.in_use-from.ensures.1 in
    serves_from_Range (λ x q k. search rules) (λ x l h. let n : c.in_use-from.result + x < name_limit = omega (arith, m, h) in search (rules, arith, n))

pub returns : goal.returns
unfolding entered_from
returns c =
    any_from_yields_List (λ i. eqb c.args.x.0 (entered_from c.args.store.now c.in_use-from.result i)) _ _ c.any.result c.any.ensures.ran (YieldsList-from_range 0 _ c.entered_count.result refl (omega arith)) (λ x b q k. search (rules, tests))
    ∙ any_held _ _ _ _ _ c.entered_count.ensures c.in_use-from.ensures.0
