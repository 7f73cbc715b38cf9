-- Walking an expression opens at most one scope for each function, With, let or set that it meets, and none elsewhere.
-- Assumes nothing.
use mathlib.Core.List.{List, [], ◌∷◌}
use mathlib.Core.Option.{none}
use Prim.Native.Nat.{ℕ, zero, suc, ◌+◌, ◌≤◌}
use native.Mathlib.Omega.{arith}
use lib.ListN.{length, get_or, replicate, length-append}
use Rattle.spec.specs.Basics.{ExprId, NameId, ScopeId}
use Rattle.spec.specs.Module.{Bindings, missing, Made, Module}
use Rattle.spec.specs.Steps.{◌>>=◌, give, each_of}
use Rattle.spec.specs.Scopes.{ScopeKind, definitions, Scopes, Walk, place_expr, open_scope, open_for, one_or_none, field_defaults, pat_fields, inherited, plain_values, keys_and_values, Form, function, with_body, bound, through, form, made_at, expr_at, traverse_bindings, traverse_lambda, traverse_with, traverse_as, traverse_to, traverse_expr, scopes_of}
use Rattle.spec.proofs.general.Sums.{sum_by, sum_append, sum_le}
use Rattle.spec.proofs.once.Once.{walked_by}

-- whether walking it may open a scope
unfoldable pub opens : Form → ℕ
opens (function x p b) = 1
opens (with_body e b) = 1
opens (bound bs body) = 1
opens (through es) = 0

-- the expressions that are walked inside it
unfoldable pub walks : Form → List ExprId
walks k = walked_by k

unfoldable pub form_in : List Made → ExprId → Form
form_in es e = form (get_or es e (record { expr = missing; pointer = none })).expr

-- how many scopes an expression may open, those inside it being followed so far
unfoldable pub scopes_in : List Made → ℕ → ExprId → ℕ
scopes_in es zero e = 0
scopes_in es (suc left) e = opens (form_in es e) + sum_by (scopes_in es left) (walks (form_in es e))

-- ---- steps of walking
pub record Opens {A : Type 0} (k : ℕ) (p : Walk A) : Type 0 where
  pub few : (w : Scopes) → length (p w).1.scopes ≤ length w.scopes + k

opens_give : {A : Type 0} (a : A) → Opens 0 (give a)
unfolding give
opens_give a = record { few = λ w. omega arith }

opens_more : {A : Type 0} {k : ℕ} {p : Walk A} (j : ℕ) → k ≤ j → Opens k p → Opens j p
opens_more j h o = record { few = λ w. omega (arith, o.few w) }

opens_then : {A B : Type 0} {j k : ℕ} {p : Walk A} {f : A → Walk B} → Opens j p → ((a : A) → Opens k (f a)) → Opens (j + k) (p >>= f)
unfolding ◌>>=◌
opens_then {p = p} o n = record { few = λ w. omega (arith, o.few w, (n (p w).0).few (p w).1) }

opens_each : {A : Type 0} (v : A → ℕ) (f : A → Walk (Unit {0})) → ((a : A) → Opens (v a) (f a)) → (l : List A) → Opens (sum_by v l) (each_of f l)
unfolding each_of
opens_each v f h [] = opens_give tt
opens_each v f h (a ∷ l) = opens_then (h a) λ _. opens_each v f h l

opens_scope : (k : ScopeKind) (s : ScopeId) → Opens 1 (open_scope k s)
unfolding open_scope
opens_scope k s = record { few = λ w. simp length-append (omega arith) }

opens_for : (xs : List NameId) (s : ScopeId) → Opens 1 (open_for xs s)
unfolding open_for
opens_for [] s = opens_more 1 (omega arith) (opens_give s)
opens_for (x ∷ xs) s = opens_scope _ s

opens_place : (e : ExprId) (s : ScopeId) → Opens 0 (place_expr e s)
unfolding place_expr
opens_place e s = record { few = λ w. omega arith }

-- ---- the walkers
module _ (m : Module) (traverse : ScopeId → ExprId → Walk (Unit {0})) (v : ExprId → ℕ) (each : (s : ScopeId) (e : ExprId) → Opens (v e) (traverse s e)) where
  all_opens : (s : ScopeId) (es : List ExprId) → Opens (sum_by v es) (each_of (traverse s) es)
  all_opens s es = opens_each v (traverse s) (each s) es

  bindings_open : (bs : Bindings) (s : ScopeId) → Opens (sum_by v (inherited bs.statics) + (1 + (sum_by v (plain_values bs.statics) + (sum_by v bs.inherit_froms + (sum_by v (keys_and_values bs.dynamics) + 0))))) (traverse_bindings m traverse bs s)
  unfolding traverse_bindings
  bindings_open bs s = opens_then (all_opens s _) λ _. opens_then (opens_for _ s) λ t. opens_then (all_opens t _) λ _. opens_then (all_opens t _) λ _. opens_then (all_opens t _) λ _. opens_give t

  as_opens : (own : ExprId) (f : Form) (s : ScopeId) → Opens (opens f + sum_by v (walks f)) (traverse_as m traverse own f s)
  unfolding opens walks traverse_as traverse_lambda traverse_with
  as_opens own (function x p b) s = opens_more _ (omega (arith, sum_append v (field_defaults (pat_fields p)) (b ∷ []))) (opens_then (opens_for _ s) λ t. opens_then (all_opens t _) λ _. each t b)
  as_opens own (with_body e b) s = opens_more _ (omega arith) (opens_then (each s e) λ _. opens_then (opens_scope _ s) λ t. each t b)
  as_opens own (bound bs body) s = opens_more _ (simp sum_append (omega arith)) (opens_then (bindings_open bs s) λ t. all_opens t (one_or_none body))
  as_opens own (through es) s = opens_more _ (omega arith) (all_opens s es)

to_opens : (m : Module) (left : ℕ) (s : ScopeId) (e : ExprId) → Opens (scopes_in m.exprs left e) (traverse_to m left s e)
unfolding traverse_to scopes_in form_in expr_at made_at
to_opens m zero s e = opens_give tt
to_opens m (suc left) s e = opens_more _ (omega arith) (opens_then (opens_place e s) λ _. as_opens m (traverse_to m left) (scopes_in m.exprs left) (to_opens m left) e _ s)

-- The root, and what the entry opens.
pub scopes_opened : (m : Module) → length (scopes_of m).scopes ≤ 1 + scopes_in m.exprs (suc m.entry) m.entry
unfolding scopes_of traverse_expr
scopes_opened m = omega (arith, (to_opens m (suc m.entry) 0 m.entry).few (record { scopes = record { parent = none; kind = definitions [] } ∷ []; of_expr = replicate (length m.exprs) none }))

-- ---- one more that is followed
scopes_more : (es : List Made) (left : ℕ) (e : ExprId) → scopes_in es left e ≤ scopes_in es (suc left) e
unfolding scopes_in
scopes_more es zero e = omega arith
scopes_more es (suc left) e = omega (arith, sum_le (scopes_in es left) (scopes_in es (suc left)) (scopes_more es left) (walks (form_in es e)))

-- An expression opens no more than it may itself and those that are walked inside it.
pub scopes_own : (es : List Made) (left : ℕ) (e : ExprId) → scopes_in es left e ≤ opens (form_in es e) + sum_by (scopes_in es left) (walks (form_in es e))
scopes_own es left e = unfold scopes_in in scopes_more es left e
