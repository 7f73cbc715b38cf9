-- A number that a match took out of what may be absent. Assumes nothing.
use mathlib.Core.Path.{◌≡◌, sym, ap, ◌∙◌}
use mathlib.Core.Option.{Option, none, some}
use Rattle.module.specs.declared.ids.NameId.{NameId}
use Rattle.module.specs.declared.ids.ScopeId.{ScopeId}
use Rattle.module.specs.declared.ids.ExprId.{ExprId}
use Rattle.module.specs.Ids.{name_of, scope_of, expr_of}
use Prim.Native.Nat.{ℕ}
use Rattle.std.specs.Prelude as rust

module _ {o : Option ℕ} where
  pub a_name_lem : {r : rust.Option NameId} {x : NameId} → r ≡ rust.Some x → name_of r ≡ o → some x.0 ≡ o
  unfolding name_of
  a_name_lem e h = sym (ap name_of e) ∙ h

  pub no_name : {r : rust.Option NameId} → r ≡ rust.None → name_of r ≡ o → none ≡ o
  unfolding name_of
  no_name e h = sym (ap name_of e) ∙ h

  pub a_scope : {r : rust.Option ScopeId} {i : ScopeId} → r ≡ rust.Some i → scope_of r ≡ o → some i.0 ≡ o
  unfolding scope_of
  a_scope e h = sym (ap scope_of e) ∙ h

  pub no_scope : {r : rust.Option ScopeId} → r ≡ rust.None → scope_of r ≡ o → none ≡ o
  unfolding scope_of
  no_scope e h = sym (ap scope_of e) ∙ h

  pub an_expr : {r : rust.Option ExprId} {x : ExprId} → r ≡ rust.Some x → expr_of r ≡ o → some x.0 ≡ o
  unfolding expr_of
  an_expr e h = sym (ap expr_of e) ∙ h

  pub no_expr : {r : rust.Option ExprId} → r ≡ rust.None → expr_of r ≡ o → none ≡ o
  unfolding expr_of
  no_expr e h = sym (ap expr_of e) ∙ h
