-- An expression walked, by what was read of it. Assumes nothing.
use mathlib.Core.Path.{◌≡◌, refl, sym, ap, subst, ◌∙◌}
use mathlib.Core.Bool.{Bool, true, false}
use mathlib.Core.List.{List, [], ◌∷◌, ◌++◌, append-nil}
use mathlib.Core.Option.{none, some}
use Prim.Native.Nat.{ℕ, ◌≤◌, ◌<◌}
use native.Mathlib.Omega.{arith}
use lib.ListN.{length, get_or-eq_default}
use lib.Dec.{ltb}
use borrow.Author.Tests.{ltb-true, ltb-false, lt-ltb}
use Rattle.words.specs.Words.{word}
use Rattle.spec.specs.Basics.{ExprId, ScopeId}
use Rattle.spec.specs.Steps.{◌>>=◌, when, each_of}
use Rattle.spec.specs.Module.{missing, with_in, Made, Module}
use Rattle.spec.specs.Lower.{module_of}
use Rattle.spec.specs.Scopes.{Walk, place_expr, open_scope, with_expr, one_or_none, Form, function, with_body, bound, through, form, made_at, expr_at, traverse_bindings, traverse_lambda, traverse_with, traverse_as, traverse_expr}
use Rattle.spec.proofs.sound.Ordered.{Ordered}
use Rattle.spec.proofs.sound.Walk.{as_agree, walk_step, walked_below}
use Rattle.module.specs.declared.ids.ExprId as code_id
use Rattle.module.specs.declared.expr.Pattern.{Pattern}
use Rattle.module.specs.declared.expr.Expr as code
use Rattle.module.specs.declared.expr.Expr.TheVariants as code_expr
use Rattle.module.specs.Ids.{expr_of, name_of}
use Rattle.layout.specs.Layout.{expr_count, expr_limit}
use Rattle.layout.specs.Texts.{text_in}
use Rattle.layout.specs.Exprs.{children, bindings}
use Rattle.layout.specs.States.{exprs_of, state_of, module_in}
use Rattle.layout.proofs.RowLaws.{cap_lim}
use Rattle.rows.specs.Decoded.{pattern_with, expr_with}
use Rattle.rows.specs.Readers.{items_at_expr}
use Rattle.rows.proofs.ReferenceLaws.{length_exprs}
use Rattle.kept.specs.Walks.{try_open, try_place, Walked}
use Rattle.scopes.specs.declared.picks.Pass.TheVariants.{Children}
use Rattle.scopes.specs.Picking.{picked}
use Rattle.scopes.specs.Walking.{Walks, below, Follows}
use Rattle.scopes.proofs.Growth.{as_grows, grows_then, grows_each, grows_open, below_grows, open_lies, bindings_lie}
use Rattle.scopes.proofs.Steps.{walks_then, walks_inside, walks_ordered, walks_as, follows_none, follows_then, one_child}
use Rattle.scopes.proofs.ItemLaws.{interpolated_children}
use Rattle.scopes.proofs.OpenLaws.{placed, with_opened}
use Rattle.module.specs.declared.ids.NameId as rust_name_id
use Rattle.std.specs.Prelude as rust

-- an expression that there is no row for is Missing
with_known : (u : List ℕ) (e a b : ExprId) → expr_at (module_in u) e ≡ with_in a b → e < expr_limit
unfolding expr_at made_at module_in module_of state_of
with_known u e a b q = go (ltb e expr_limit) refl
  where
    go : (t : Bool) → ltb e expr_limit ≡ t → e < expr_limit
    go true h = ltb-true e expr_limit h
    go false h =
        let d : Made = record { expr = missing; pointer = none } in
        let past : length (exprs_of u) ≤ e = omega (arith, ltb-false e expr_limit h, length_exprs u, cap_lim (word u expr_count) expr_limit) in
        let none_there : missing ≡ with_in a b = sym (ap (λ (k : Made). k.expr) (get_or-eq_default (exprs_of u) d {n = e} past)) ∙ q in
        let z : ◌≡◌ {A = ℕ} 0 1 = cc in
        absurd (omega arith)

-- ---- placed, and then walked as its form says
below_is : (m : Module) (e : ExprId) (s : ScopeId) (c : ExprId) → c < e → below m e s c ≡ traverse_expr m s c
unfolding below when
below_is m e s c h = rw (lt-ltb c e h)

-- in a module that is in order every child is walked
walked_as : (m : Module) (e : ExprId) (s : ScopeId) → Ordered m.exprs → (place_expr e s >>= λ _. traverse_as m (below m e) e (form (expr_at m e)) s) ≡ traverse_expr m s e
walked_as m e s order =
    ap (λ (q : Walk (Unit {0})). place_expr e s >>= λ _. q) (as_agree m (λ c. c < e) (below m e) (traverse_expr m) (λ t c h. below_is m e t c h) e (form (expr_at m e)) s (walked_below m order e))
    ∙ sym (walk_step m order s e)

module _ (e : ExprId) {scope : ScopeId} {s u : List ℕ} (r : code.Expr) (put : Walked (try_place e scope) s tt u) (read : expr_with (text_in u) r (items_at_expr u e) ≡ expr_at (module_in u) e) where
  by_form : (k : Form) {t : List ℕ} → form (expr_with (text_in u) r (items_at_expr u e)) ≡ k → Walks scope (λ m. traverse_as m (below m e) e k scope) u tt t → Walks scope (λ m. traverse_expr m scope e) s tt t
  by_form k {t} q x =
      let f : k ≡ form (expr_at (module_in u) e) = sym q ∙ ap form read in
      let y : Walks scope (λ m. traverse_as m (below m e) e (form (expr_at m e)) scope) u tt t = walks_as (λ w. ap (λ (j : Form). traverse_as (module_in u) (below (module_in u) e) e j scope w) f) x in
      walks_ordered (λ order w. ap (λ (p : Walk (Unit {0})). p w) (walked_as (module_in s) e scope order))
      (walks_then (λ m. place_expr e scope) (λ m _. traverse_as m (below m e) e (form (expr_at m e)) scope) (λ m _. as_grows m (below m e) (below_grows m e) e (form (expr_at m e)) scope) (placed e put) y)

  through_form : (cs : List ExprId) {t : List ℕ} → form (expr_with (text_in u) r (items_at_expr u e)) ≡ through cs → Follows e scope cs u t → Walks scope (λ m. traverse_expr m scope e) s tt t
  unfolding traverse_as
  through_form cs q x = by_form (through cs) q x.all

  -- ---- children where they stand
  pub missing_arm : r ≡ code_expr.Missing → Walks scope (λ m. traverse_expr m scope e) s tt u
  unfolding expr_with form
  missing_arm q = through_form [] (rw q) (follows_none u)

  pub literal_arm : {l : _} → r ≡ code_expr.Literal l → Walks scope (λ m. traverse_expr m scope e) s tt u
  unfolding expr_with form
  literal_arm q = through_form [] (rw q) (follows_none u)

  pub reference_arm : {x : _} → r ≡ code_expr.Reference x → Walks scope (λ m. traverse_expr m scope e) s tt u
  unfolding expr_with form
  reference_arm q = through_form [] (rw q) (follows_none u)

  pub apply_arm : {f a : code_id.ExprId} {t : List ℕ} → r ≡ code_expr.Apply f a → Follows e scope (f.0 ∷ a.0 ∷ []) u t → Walks scope (λ m. traverse_expr m scope e) s tt t
  unfolding expr_with form
  apply_arm q x = through_form _ (rw q) x

  pub binop_arm : {a b : code_id.ExprId} {op : ℕ} {t : List ℕ} → r ≡ code_expr.BinOp a b op → Follows e scope (a.0 ∷ b.0 ∷ []) u t → Walks scope (λ m. traverse_expr m scope e) s tt t
  unfolding expr_with form
  binop_arm q x = through_form _ (rw q) x

  -- the body is walked before the condition
  pub assert_arm : {c b : code_id.ExprId} {t : List ℕ} → r ≡ code_expr.Assert c b → Follows e scope (b.0 ∷ c.0 ∷ []) u t → Walks scope (λ m. traverse_expr m scope e) s tt t
  unfolding expr_with form
  assert_arm q x = through_form _ (rw q) x

  pub unary_arm : {op : ℕ} {a : code_id.ExprId} {t : List ℕ} → r ≡ code_expr.UnaryOp op a → Follows e scope (a.0 ∷ []) u t → Walks scope (λ m. traverse_expr m scope e) s tt t
  unfolding expr_with form
  unary_arm q x = through_form _ (rw q) x

  pub cond_arm : {c a b : code_id.ExprId} {v t : List ℕ} → r ≡ code_expr.IfThenElse c a b → Follows e scope (c.0 ∷ []) u v → Follows e scope (a.0 ∷ b.0 ∷ []) v t → Walks scope (λ m. traverse_expr m scope e) s tt t
  unfolding expr_with form
  cond_arm q x y = through_form _ (rw q) (follows_then x y)

  pub list_arm : {t : List ℕ} → r ≡ code_expr.List → Follows e scope (picked Children (items_at_expr u e)) u t → Walks scope (λ m. traverse_expr m scope e) s tt t
  unfolding expr_with form picked
  list_arm q x = through_form _ (rw q) x

  pub string_arm : {t : List ℕ} → r ≡ code_expr.StringInterpolation → Follows e scope (picked Children (items_at_expr u e)) u t → Walks scope (λ m. traverse_expr m scope e) s tt t
  unfolding expr_with form picked
  string_arm q x = through_form (children (items_at_expr u e)) (rw q (ap through (interpolated_children (items_at_expr u e)))) x

  pub path_arm : {t : List ℕ} → r ≡ code_expr.PathInterpolation → Follows e scope (picked Children (items_at_expr u e)) u t → Walks scope (λ m. traverse_expr m scope e) s tt t
  unfolding expr_with form picked
  path_arm q x = through_form (children (items_at_expr u e)) (rw q (ap through (interpolated_children (items_at_expr u e)))) x

  pub select_arm : {a : code_id.ExprId} {d : rust.Option code_id.ExprId} {t : List ℕ} → r ≡ code_expr.Select a d → Follows e scope (a.0 ∷ (children (items_at_expr u e) ++ one_or_none (expr_of d))) u t → Walks scope (λ m. traverse_expr m scope e) s tt t
  unfolding expr_with form
  select_arm q x = through_form _ (rw q) x

  pub has_arm : {a : code_id.ExprId} {t : List ℕ} → r ≡ code_expr.HasAttr a → Follows e scope (a.0 ∷ (children (items_at_expr u e) ++ one_or_none (expr_of rust.None))) u t → Walks scope (λ m. traverse_expr m scope e) s tt t
  unfolding expr_with form expr_of one_or_none
  has_arm {a} {t} q x = through_form (a.0 ∷ children (items_at_expr u e)) (rw q) (subst (λ (cs : List ExprId). Follows e scope (a.0 ∷ cs) u t) (append-nil (children (items_at_expr u e))) x)

  -- ---- forms that may open a scope
  pub lambda_arm : {x : rust.Option rust_name_id.NameId} {p : Pattern} {b : code_id.ExprId} {t : List ℕ} → r ≡ code_expr.Lambda x p b
      → Walks scope (λ m. traverse_lambda m (below m e) (name_of x) (pattern_with p (items_at_expr u e)) b.0 scope) u tt t → Walks scope (λ m. traverse_expr m scope e) s tt t
  unfolding expr_with form traverse_as
  lambda_arm {x} {p} {b} q y = by_form (function (name_of x) (pattern_with p (items_at_expr u e)) b.0) (rw q) y

  pub let_arm : {b : code_id.ExprId} {i : ScopeId} {v t : List ℕ} → r ≡ code_expr.LetIn b → Walks scope (λ m. traverse_bindings m (below m e) (bindings (items_at_expr u e)) scope) u i v → Follows e i (b.0 ∷ []) v t
      → Walks scope (λ m. traverse_expr m scope e) s tt t
  unfolding expr_with form traverse_as one_or_none
  let_arm {b} q x y =
      let bs = bindings (items_at_expr u e) in
      by_form (bound bs (some b.0)) (rw q)
      (walks_inside (λ m. traverse_bindings m (below m e) bs scope) (λ m i. each_of (below m e i) (b.0 ∷ [])) (λ m. bindings_lie m (below m e) (below_grows m e) bs scope) (λ m i. grows_each (below_grows m e i) (b.0 ∷ [])) x y.all)

  pub set_arm : {o : Bool} {i : ScopeId} {t : List ℕ} → r ≡ code_expr.AttrSet o → Walks scope (λ m. traverse_bindings m (below m e) (bindings (items_at_expr u e)) scope) u i t → Walks scope (λ m. traverse_expr m scope e) s tt t
  unfolding expr_with form traverse_as one_or_none
  set_arm {t = t} q x =
      let bs = bindings (items_at_expr u e) in
      by_form (bound bs none) (rw q)
      (walks_inside (λ m. traverse_bindings m (below m e) bs scope) (λ m i. each_of (below m e i) []) (λ m. bindings_lie m (below m e) (below_grows m e) bs scope) (λ m i. grows_each (below_grows m e i) []) x (follows_none t).all)

  pub with_arm : {a b : code_id.ExprId} {i : ScopeId} {v w t : List ℕ} → r ≡ code_expr.With a b → Follows e scope (a.0 ∷ []) u v → Walked (try_open (with_expr e) scope) v i w → Follows e i (b.0 ∷ []) w t
      → Walks scope (λ m. traverse_expr m scope e) s tt t
  unfolding expr_with form traverse_as traverse_with
  with_arm {a} {b} q x o y =
      by_form (with_body a.0 b.0) (rw q)
      (walks_then (λ m. below m e scope a.0) (λ m _. open_scope (with_expr e) scope >>= λ i. below m e i b.0)
      (λ m _. grows_then (grows_open (with_expr e) scope) (λ i. below_grows m e i b.0))
      (one_child x)
      (walks_inside (λ m. open_scope (with_expr e) scope) (λ m i. below m e i b.0) (λ m. open_lies (with_expr e) scope) (λ m i. below_grows m e i b.0)
      (with_opened e (with_known u e a.0 b.0 (sym read ∙ rw q)) o) (one_child y)))
