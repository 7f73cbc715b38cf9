-- `rows::source_map::name_for_node` meets its contract.
use Rattle.std.proofs.Common.{rules}
use mathlib.Core.Path.{◌≡◌, refl, sym, ◌∙◌}
use Rattle.module.specs.Ids.{name_of}
use Rattle.spec.specs.Module.{points_to}
use Rattle.rows.proofs.SourceMapLaws.{name_pointer, names_asked, last_found, as_found}
use Rattle.rows.proofs.source_map.name_for_node.Goals as goal

pub returns : goal.returns
unfolding name_of name_pointer points_to as_found
returns c = let shown : name_of c.map.result ≡ as_found c.rfind.result = search rules in shown ∙ sym (names_asked _ _ _ c.name_count.ensures.0 ∙ last_found _ (name_pointer c.args.store.now) _ (λ x b q k. search rules) _ _ _ _ refl c.rfind.ensures.ran)
