-- A walk only adds scopes, so that what there is room for at its end had room before. Assumes nothing.
use mathlib.Core.Path.{◌≡◌}
use mathlib.Core.Bool.{Bool, true, false}
use mathlib.Core.List.{List, [], ◌∷◌, ◌++◌}
use mathlib.Core.Option.{Option, some}
use Prim.Native.Nat.{ℕ, zero, suc, ◌+◌, ◌≤◌, ◌<◌}
use native.Mathlib.Omega.{arith}
use lib.ListN.{length, length-append}
use lib.Dec.{ltb}
use Rattle.spec.specs.Basics.{ExprId, NameId, ScopeId}
use Rattle.spec.specs.Steps.{◌>>=◌, give, when, each_of}
use Rattle.spec.specs.Module.{Module, Bindings, Pat}
use Rattle.spec.specs.Scopes.{ScopeKind, Scope, Scopes, Walk, place_expr, open_scope, open_for, inherited, plain_values, keys_and_values, defined, Form, function, with_body, bound, through, form, expr_at, traverse_bindings, traverse_lambda, traverse_with, traverse_as, traverse_to, traverse_expr}
use Rattle.layout.specs.Layout.{scope_limit}
use Rattle.kept.specs.Walks.{entered_by}
use Rattle.scopes.specs.Walking.{Fits, below}

pub record Grows {A : Type 0} (p : Walk A) : Type 0 where
  pub more_scopes : (w : Scopes) → length w.scopes ≤ length (p w).1.scopes
  pub more_names : (w : Scopes) → entered_by w.scopes ≤ entered_by (p w).1.scopes

pub fits_before : {A : Type 0} {p : Walk A} (w : Scopes) → Grows p → Fits (p w).1 → Fits w
fits_before w g f = record { few_scopes_lem = omega (arith, g.more_scopes w, f.few_scopes_lem); few_names_lem = omega (arith, g.more_names w, f.few_names_lem) }

-- ---- steps one after the other
pub grows_give : {A : Type 0} (a : A) → Grows (give a)
unfolding give
grows_give a = record { more_scopes = λ w. omega arith; more_names = λ w. omega arith }

pub grows_then : {A B : Type 0} {p : Walk A} {q : A → Walk B} → Grows p → ((a : A) → Grows (q a)) → Grows (p >>= q)
unfolding ◌>>=◌
grows_then {p = p} {q} g h = record {
  more_scopes = λ w. omega (arith, g.more_scopes w, (h (p w).0).more_scopes (p w).1);
  more_names = λ w. omega (arith, g.more_names w, (h (p w).0).more_names (p w).1);
}

grows_when : {A : Type 0} {p q : Walk A} (b : Bool) → Grows p → Grows q → Grows (when b p q)
unfolding when
grows_when true g h = g
grows_when false g h = h

pub grows_each : {A : Type 0} {f : A → Walk (Unit {0})} → ((a : A) → Grows (f a)) → (xs : List A) → Grows (each_of f xs)
unfolding each_of
grows_each g [] = grows_give tt
grows_each g (x ∷ xs) = grows_then (g x) (λ _. grows_each g xs)

-- ---- placing and opening
pub entered_append : (ss ts : List Scope) → entered_by (ss ++ ts) ≡ entered_by ss + entered_by ts
unfolding entered_by
entered_append [] ts = omega arith
entered_append (s ∷ ss) ts = omega (arith, entered_append ss ts)

grows_place : (e : ExprId) (s : ScopeId) → Grows (place_expr e s)
unfolding place_expr
grows_place e s = record { more_scopes = λ w. omega arith; more_names = λ w. omega arith }

pub grows_open : (k : ScopeKind) (s : ScopeId) → Grows (open_scope k s)
unfolding open_scope
grows_open k s = record {
  more_scopes = λ w. omega (arith, length-append w.scopes (record { parent = some s; kind = k } ∷ []));
  more_names = λ w. omega (arith, entered_append w.scopes (record { parent = some s; kind = k } ∷ []));
}

pub grows_for : (xs : List NameId) (s : ScopeId) → Grows (open_for xs s)
unfolding open_for
grows_for [] s = grows_give s
grows_for (x ∷ xs) s = grows_open _ s

-- ---- the walkers
module _ (m : Module) (f : ScopeId → ExprId → Walk (Unit {0})) (g : (s : ScopeId) (e : ExprId) → Grows (f s e)) where
  inside_grows : (bs : Bindings) (s : ScopeId) → Grows (each_of (f s) (plain_values bs.statics) >>= λ _. each_of (f s) bs.inherit_froms >>= λ _. each_of (f s) (keys_and_values bs.dynamics) >>= λ _. give s)
  inside_grows bs s = grows_then (grows_each (g s) _) (λ _. grows_then (grows_each (g s) _) (λ _. grows_then (grows_each (g s) _) (λ _. grows_give s)))

  pub bindings_grow : (bs : Bindings) (outer : ScopeId) → Grows (traverse_bindings m f bs outer)
  unfolding traverse_bindings
  bindings_grow bs outer = grows_then (grows_each (g outer) _) (λ _. grows_then (grows_for _ outer) (λ s. inside_grows bs s))

  pub lambda_grows : (x : Option NameId) (p : Option Pat) (b : ExprId) (outer : ScopeId) → Grows (traverse_lambda m f x p b outer)
  unfolding traverse_lambda
  lambda_grows x p b outer = grows_then (grows_for _ outer) (λ s. grows_then (grows_each (g s) _) (λ _. g s b))

  pub as_grows : (own : ExprId) (k : Form) (s : ScopeId) → Grows (traverse_as m f own k s)
  unfolding traverse_as traverse_with
  as_grows own (function x p b) s = lambda_grows x p b s
  as_grows own (with_body e b) s = grows_then (g s e) (λ _. grows_then (grows_open _ s) (λ t. g t b))
  as_grows own (bound bs body) s = grows_then (bindings_grow bs s) (λ t. grows_each (g t) _)
  as_grows own (through es) s = grows_each (g s) es

to_grows : (m : Module) (b : ℕ) (s : ScopeId) (e : ExprId) → Grows (traverse_to m b s e)
unfolding traverse_to
to_grows m zero s e = grows_give tt
to_grows m (suc b) s e = grows_then (grows_place e s) (λ _. as_grows m (traverse_to m b) (to_grows m b) e (form (expr_at m e)) s)

pub expr_grows : (m : Module) (s : ScopeId) (e : ExprId) → Grows (traverse_expr m s e)
unfolding traverse_expr
expr_grows m s e = to_grows m (suc e) s e

pub below_grows : (m : Module) (e : ExprId) (s : ScopeId) (c : ExprId) → Grows (below m e s c)
unfolding below
below_grows m e s c = grows_when (ltb c e) (expr_grows m s c) (grows_give tt)

-- ---- a scope that is opened can be there if there is room for it
pub record Lies (scope : ScopeId) (p : Walk ScopeId) : Type 0 where
  pub lies : (w : Scopes) → scope < scope_limit → Fits (p w).1 → (p w).0 < scope_limit

pub open_lies : (k : ScopeKind) (s : ScopeId) → Lies s (open_scope k s)
unfolding open_scope
open_lies k s = record { lies = λ w h f. omega (arith, f.few_scopes_lem, length-append w.scopes (record { parent = some s; kind = k } ∷ [])) }

pub for_lies : (xs : List NameId) (s : ScopeId) → Lies s (open_for xs s)
unfolding open_for give
for_lies [] s = record { lies = λ w h f. h }
for_lies (x ∷ xs) s = open_lies _ s

pub bindings_lie : (m : Module) (f : ScopeId → ExprId → Walk (Unit {0})) → ((s : ScopeId) (e : ExprId) → Grows (f s e)) → (bs : Bindings) (outer : ScopeId) → Lies outer (traverse_bindings m f bs outer)
unfolding traverse_bindings ◌>>=◌ give
bindings_lie m f g bs outer = record {
  lies = λ w h fits.
      let u = (each_of (f outer) (inherited bs.statics) w).1 in
      let opened = open_for (defined m bs.statics) outer u in
      (for_lies (defined m bs.statics) outer).lies u h (fits_before opened.1 (inside_grows m f g bs opened.0) fits);
}
