-- `scopes::enters::enter_items` meets its contract.
use mathlib.Core.List.{[], ◌∷◌}
use mathlib.Core.Path.{◌∙◌, ap}
use Rattle.layout.specs.Exprs.{Item}
use Rattle.layout.specs.States.{module_in}
use Rattle.layout.specs.Texts.{text_in}
use Rattle.scopes.specs.Entering.{entered}
use Rattle.scopes.proofs.EnterLaws.{enters_start, enters_bound, enters_turn}
use native.Mathlib.Omega.{arith}
use Rattle.scopes.proofs.enters.enter_items.Goals as goal

pub loop-i-init : goal.loop-i-init
loop-i-init c = enters_start _ _ _ c.args.e.0 _

pub enter_maybe-next-requires : goal.enter_maybe-next-requires
enter_maybe-next-requires c = (omega (arith, c.requires.0, c.loop-i.invariant.wrote.size), omega (arith, c.requires.1, c.item_count-i-end.ensures.1, c.loop-i-test.true, enters_bound _ _ c.item_count-i-end.ensures.0 c.loop-i.invariant c.loop-i-test.true))

pub loop-i-preserved : goal.loop-i-preserved
loop-i-preserved c = enters_turn _ _ c.item_count-i-end.ensures.0 c.loop-i.invariant _ c.loop-i-test.true (c.name_entered-x.ensures (text_in c.loop-i.store) ∙ ap (λ (j : Item). entered c.args.names (module_in c.loop-i.store) (j ∷ [])) c.read_item.ensures) c.enter_maybe-next.ensures
