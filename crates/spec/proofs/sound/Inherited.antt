-- An inherited value is a Reference or, with a source, a Select without default of a source listed beside it, by one
-- text literal. Assumes nothing.
use mathlib.Core.Path.{◌≡◌}
use mathlib.Core.List.{List}
use mathlib.Core.Option.{Option}
use Rattle.spec.specs.Basics.{ExprId}
use Rattle.spec.specs.Sheet.{Node}
use Rattle.spec.specs.Module.{Bindings}
use Rattle.spec.specs.Lower.{lower_module}
use Rattle.spec.specs.Scopes.{bound, form, expr_at}
use Rattle.spec.specs.Kept.{Kept, kept_of, loaded}
use Rattle.spec.proofs.general.Sums.{All, all_map}
use Rattle.spec.proofs.sound.Numbers.{Right, Row}
use Rattle.spec.proofs.sound.Sound.{Sound, lowered_sound}

-- THEOREM. In all that is sound.
pub inherited_right : (k : Kept) → Sound k → (e : ExprId) (bs : Bindings) (body : Option ExprId) → form (expr_at k.lowered e) ≡ bound bs body
    → All (λ b. Right e k.lowered.exprs bs.inherit_froms b.1) bs.statics
inherited_right k sound e bs body p =
    let r : Row _ e k.lowered.exprs (bound bs body) = rw p at (sound.rows e) in
    all_map _ _ (λ b h. h.1) bs.statics r.bindings.0

-- THEOREM. In every lowered module.
pub lowered_inherits : (nodes : List Node) (e : ExprId) (bs : Bindings) (body : Option ExprId) → form (expr_at (lower_module nodes) e) ≡ bound bs body
    → All (λ b. Right e (lower_module nodes).exprs bs.inherit_froms b.1) bs.statics
unfolding loaded kept_of
lowered_inherits nodes = inherited_right (loaded nodes) (lowered_sound nodes)
