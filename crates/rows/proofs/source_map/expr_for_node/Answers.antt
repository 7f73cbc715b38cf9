-- `rows::source_map::expr_for_node` meets its contract.
use Rattle.std.proofs.Common.{rules}
use mathlib.Core.Path.{◌≡◌, refl, sym, ◌∙◌}
use Rattle.module.specs.Ids.{expr_of}
use Rattle.rows.proofs.SourceMapLaws.{expr_pointer, exprs_asked, last_found, as_found}
use Rattle.rows.proofs.source_map.expr_for_node.Goals as goal

pub returns : goal.returns
unfolding expr_pointer expr_of as_found
returns c = let shown : expr_of c.map.result ≡ as_found c.rfind.result = search rules in shown ∙ sym (exprs_asked _ _ _ c.expr_count.ensures.0 ∙ last_found _ (expr_pointer c.args.store.now) _ (λ x b q k. search rules) _ _ _ _ refl c.rfind.ensures.ran)
