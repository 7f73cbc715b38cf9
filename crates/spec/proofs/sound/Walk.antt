-- The bound of the walk is never met in a lowered module, so that the walk is the plain recursion. Assumes nothing.
use mathlib.Core.Path.{◌≡◌, refl, sym, ap, subst}
use mathlib.Core.Bool.{Bool, true, false}
use mathlib.Core.List.{List, [], ◌∷◌, ◌++◌}
use mathlib.Core.Option.{none}
use Prim.Native.Nat.{ℕ, zero, suc, ◌<◌}
use native.Mathlib.Omega.{arith}
use lib.Dec.{ltb}
use lib.ListN.{length, get_or-eq_default}
use borrow.Author.Tests.{ltb-true, ltb-false}
use Rattle.spec.specs.Basics.{ExprId, ScopeId}
use Rattle.spec.specs.Sheet.{Node}
use Rattle.spec.specs.Steps.{Step, ◌>>=◌, each_of}
use Rattle.spec.specs.Module.{Expr, missing, Made, Module}
use Rattle.spec.specs.Scopes.{Walk, place_expr, one_or_none, field_defaults, pat_fields, inherited, plain_values, keys_and_values, Form, function, with_body, bound, through, form, expr_at, made_at, traverse_bindings, traverse_lambda, traverse_with, traverse_as, traverse_to, traverse_expr}
use Rattle.spec.specs.Lower.{lower_module}
use Rattle.spec.proofs.general.Sums.{All, all_left, all_right}
use Rattle.spec.proofs.once.Once.{walked_by, walked}
use Rattle.spec.proofs.sound.Ordered.{AllBelow, Ordered, lowered_ordered}

-- steps that agree, one after another
then_agree : {S A B : Type 0} {p q : Step S A} {f g : A → Step S B} → p ≡ q → ((a : A) → f a ≡ g a) → (p >>= f) ≡ (q >>= g)
then_agree h k = λ i. h i >>= λ a. k a i

-- Two ways of walking that agree on what P holds of.
module _ (m : Module) (P : ExprId → Type 0) (f g : ScopeId → ExprId → Walk (Unit {0})) (agree : (s : ScopeId) (e : ExprId) → P e → f s e ≡ g s e) where
  each_agree : (s : ScopeId) (es : List ExprId) → All P es → each_of (f s) es ≡ each_of (g s) es
  unfolding each_of
  each_agree s [] a = refl
  each_agree s (e ∷ es) a = then_agree (agree s e a.0) λ _. each_agree s es a.1

  pub as_agree : (own : ExprId) (k : Form) (s : ScopeId) → All P (walked_by k) → traverse_as m f own k s ≡ traverse_as m g own k s
  unfolding traverse_as traverse_lambda traverse_with traverse_bindings
  as_agree own (function x p b) s a =
      then_agree refl λ t.
      then_agree (each_agree t (field_defaults (pat_fields p)) (all_left _ (field_defaults (pat_fields p)) (b ∷ []) a)) λ _.
      agree t b (all_right _ (field_defaults (pat_fields p)) (b ∷ []) a).0
  as_agree own (with_body e b) s a = then_agree (agree s e a.0) λ _. then_agree refl λ t. agree t b a.1.0
  as_agree own (bound bs body) s a =
      let i = inherited bs.statics in
      let p = plain_values bs.statics in
      let f' = bs.inherit_froms in
      let d = keys_and_values bs.dynamics in
      let a₁ = all_right P i (p ++ (f' ++ (d ++ one_or_none body))) a in
      let a₂ = all_right P p (f' ++ (d ++ one_or_none body)) a₁ in
      let a₃ = all_right P f' (d ++ one_or_none body) a₂ in
      then_agree
      (then_agree (each_agree s i (all_left P i (p ++ (f' ++ (d ++ one_or_none body))) a)) λ _.
      then_agree refl λ t.
      then_agree (each_agree t p (all_left P p (f' ++ (d ++ one_or_none body)) a₁)) λ _.
      then_agree (each_agree t f' (all_left P f' (d ++ one_or_none body) a₂)) λ _.
      then_agree (each_agree t d (all_left P d (one_or_none body) a₃)) λ _. refl)
      λ t. each_agree t (one_or_none body) (all_right P d (one_or_none body) a₃)
  as_agree own (through es) s a = each_agree s es a

-- ---- modules in order
module _ (m : Module) (order : Ordered m.exprs) where
  -- past the end there is nothing to walk
  pub walked_below : (e : ExprId) → AllBelow e (walked m e)
  unfolding expr_at made_at form
  walked_below e = go (ltb e (length m.exprs)) refl
    where
      go : (b : Bool) → ltb e (length m.exprs) ≡ b → AllBelow e (walked m e)
      go true p = order.children e (ltb-true e (length m.exprs) p)
      go false p =
          let d : Made = record { expr = missing; pointer = none } in
          let q = ap (λ (k : Made). k.expr) (get_or-eq_default m.exprs d {n = e} (ltb-false e (length m.exprs) p)) in
          subst (λ (x : Expr). AllBelow e (walked_by (form x))) (sym q) tt

  -- any two bounds above the number do the same
  same_walk : (b b' : ℕ) (s : ScopeId) (e : ExprId) → e < b → e < b' → traverse_to m b s e ≡ traverse_to m b' s e
  unfolding traverse_to
  same_walk zero b' s e l l' = absurd (omega arith)
  same_walk (suc b) zero s e l l' = absurd (omega arith)
  same_walk (suc b) (suc b') s e l l' =
      then_agree refl λ _.
      as_agree m (λ c. c < e) (traverse_to m b) (traverse_to m b') (λ t c k. same_walk b b' t c (omega arith) (omega arith))
      e (form (expr_at m e)) s (walked_below e)

  -- THEOREM. A bound above the number of the expression is never met.
  pub walk_enough : (b : ℕ) (s : ScopeId) (e : ExprId) → e < b → traverse_to m b s e ≡ traverse_expr m s e
  unfolding traverse_expr
  walk_enough b s e l = same_walk b (suc e) s e l (omega arith)

  -- THEOREM. The walk places the expression and walks its children, each as a walk of its own.
  pub walk_step : (s : ScopeId) (e : ExprId) → traverse_expr m s e ≡ (place_expr e s >>= λ _. traverse_as m (traverse_expr m) e (form (expr_at m e)) s)
  unfolding traverse_expr traverse_to
  walk_step s e =
      then_agree refl λ _.
      as_agree m (λ c. c < e) (traverse_to m e) (traverse_expr m) (λ t c k. walk_enough e t c k) e (form (expr_at m e)) s (walked_below e)

-- THEOREM. So it is in every lowered module.
pub lowered_walk_step : (nodes : List Node) (s : ScopeId) (e : ExprId)
    → traverse_expr (lower_module nodes) s e
    ≡ (place_expr e s >>= λ _. traverse_as (lower_module nodes) (traverse_expr (lower_module nodes)) e (form (expr_at (lower_module nodes) e)) s)
lowered_walk_step nodes = walk_step (lower_module nodes) (lowered_ordered nodes).0
