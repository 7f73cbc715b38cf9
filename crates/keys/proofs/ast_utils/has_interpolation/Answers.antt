-- `keys::ast_utils::has_interpolation` meets its contract.
use Rattle.std.proofs.Common.{rules}
use Rattle.std.proofs.lemmas.Iterator.{YieldsList-from_range}
use Rattle.std.proofs.lemmas.Iterator.Search.{any_from_yields_List}
use Rattle.keys.proofs.ItemLaws.{items_are}
use Rattle.keys.proofs.KeyLaws.{any_kids}
use Rattle.keys.specs.AstUtils.{interpolation_at}
use Rattle.layout.specs.Nodes.{nodes_of}
use Rattle.spec.specs.Lower.{has_interpolation}
use mathlib.Core.Path.{refl, ap, ◌∙◌}
use native.Mathlib.Omega.{arith}
use Rattle.keys.proofs.ast_utils.has_interpolation.Goals as goal

pub returns : goal.returns
returns c =
    let nodes = nodes_of c.args.store.now in
    let n = c.args.n.0 in
    record {
      says = λ lower merge.
          any_from_yields_List (interpolation_at nodes n) _ _ c.any.result c.any.ensures.ran (YieldsList-from_range 0 c.kid_count.result c.kid_count.result refl (omega arith)) (λ x b q k. search rules)
          ∙ any_kids nodes n lower merge c.kid_count.result 0 (omega (arith, c.kid_count.ensures))
          ∙ ap (has_interpolation nodes lower merge) (items_are nodes n);
    }
