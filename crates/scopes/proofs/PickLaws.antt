-- A pass over the items of an expression, which hands on children. Assumes nothing.
use mathlib.Core.Path.{◌≡◌, sym, ap, subst, ◌∙◌}
use mathlib.Core.List.{List, [], ◌∷◌}
use Prim.Native.Nat.{ℕ, ◌+◌, ◌<◌}
use native.Mathlib.Omega.{arith}
use lib.ListN.{length, take, get_or}
use Rattle.spec.specs.Basics.{ExprId, ScopeId}
use Rattle.layout.specs.Exprs.{Item, child}
use Rattle.rows.specs.Readers.{items_at_expr, item_at_expr}
use Rattle.scopes.specs.declared.picks.Pass.{Pass}
use Rattle.scopes.specs.Picking.{picked}
use Rattle.scopes.specs.Walking.{Follows}
use Rattle.scopes.proofs.Steps.{follows_none, follows_then}
use Rattle.scopes.proofs.ItemLaws.{items_walked, picked_more, picked_none}

pub items_start : (pass : Pass) (e : ExprId) (scope : ScopeId) (s : List ℕ) → Follows e scope (picked pass (take 0 (items_at_expr s e))) s s
items_start pass e scope s = rw (picked_none pass) (follows_none s)

module _ (pass : Pass) {e : ExprId} {scope : ScopeId} {s u : List ℕ} {i n : ℕ} (counted : n ≡ length (items_at_expr s e)) (x : Follows e scope (picked pass (take i (items_at_expr s e))) s u) where
  pub items_turn : {t : List ℕ} (handed : List ExprId) → i < n → handed ≡ picked pass (item_at_expr u e i ∷ []) → Follows e scope handed u t → Follows e scope (picked pass (take (i + 1) (items_at_expr s e))) s t
  unfolding item_at_expr
  items_turn {t} handed h q y =
      let same : item_at_expr u e i ≡ item_at_expr s e i = ap (λ (is : List Item). get_or is i (child 0)) (items_walked x.all.wrote x.all.still e) in
      let q' : handed ≡ picked pass (item_at_expr s e i ∷ []) = q ∙ ap (λ (j : Item). picked pass (j ∷ [])) same in
      subst (λ (cs : List ExprId). Follows e scope cs s t) (sym (picked_more pass s e i (omega (arith, h, counted)))) (follows_then x (subst (λ (cs : List ExprId). Follows e scope cs u t) q' y))
