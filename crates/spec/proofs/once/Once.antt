-- What the walk enters is the sum of what the expressions that it meets enter, so where that has no name twice each
-- name is held by one scope. Assumes nothing.
use mathlib.Core.Path.{◌≡◌, refl, sym, ap}
use mathlib.Core.Bool.{Bool, true, false, ◌||◌}
use mathlib.Core.List.{List, [], ◌∷◌, ◌++◌}
use mathlib.Core.Option.{none, some}
use Prim.Native.Nat.{ℕ, zero, suc, ◌+◌, ◌<◌, ◌≤◌}
use native.Mathlib.Omega.{arith}
use lib.Dec.{eqb}
use lib.ListN.{length, replicate}
use Rattle.words.specs.Order.{pick}
use Rattle.spec.specs.Basics.{ExprId, NameId, ScopeId}
use Rattle.spec.specs.Steps.{◌>>=◌, give, each_of}
use Rattle.spec.specs.Module.{Bindings, Module}
use Rattle.spec.specs.Scopes.{ScopeKind, definitions, with_expr, Scope, Scopes, Walk, place_expr, open_scope, open_for, one_or_none, field_names, field_defaults, pat_fields, inherited, plain_values, keys_and_values, Form, function, with_body, bound, through, form, expr_at, defined, traverse_bindings, traverse_lambda, traverse_with, traverse_as, traverse_to, traverse_expr, scopes_of, is_in, holds}
use Rattle.spec.specs.Answer.{scope_at}
use Rattle.spec.specs.Demand.{HeldOnce}
use Rattle.spec.proofs.general.BoolLaws.{differ}
use Rattle.spec.proofs.general.Sums.{sum_by, same, sum_append, total}

-- ---- what an expression enters and what is walked from it, in the walk's order
abbrev pub entered_by : Module → Form → List NameId
entered_by m (function x p b) = one_or_none x ++ field_names (pat_fields p)
entered_by m (with_body e b) = []
entered_by m (bound bs body) = defined m bs.statics
entered_by m (through es) = []

abbrev pub walked_by : Form → List ExprId
walked_by (function x p b) = field_defaults (pat_fields p) ++ (b ∷ [])
walked_by (with_body e b) = e ∷ b ∷ []
walked_by (bound bs body) = inherited bs.statics ++ (plain_values bs.statics ++ (bs.inherit_froms ++ (keys_and_values bs.dynamics ++ one_or_none body)))
walked_by (through es) = es

abbrev pub entered : Module → ExprId → List NameId
entered m e = entered_by m (form (expr_at m e))

abbrev pub walked : Module → ExprId → List ExprId
walked m e = walked_by (form (expr_at m e))

-- how often a name stands among those that the walk enters from an expression, so many levels down
abbrev pub times_entered : Module → NameId → ℕ → ExprId → ℕ
times_entered m x = total (walked m) (λ e. sum_by (same x) (entered m e))

-- ---- how often the scopes hold a name
abbrev pub held_by : NameId → ScopeKind → ℕ
held_by x (definitions xs) = sum_by (same x) xs
held_by x (with_expr e) = 0

abbrev pub held : NameId → List Scope → ℕ
held x ss = sum_by (λ s. held_by x s.kind) ss

module _ (x : NameId) where
  -- a step that lets the name be held so many times more
  pub record Adds {A : Type 0} (n : ℕ) (p : Walk A) : Type 0 where
    pub adds : (w : Scopes) → held x (p w).1.scopes ≤ held x w.scopes + n

  adds_then : {A B : Type 0} {p : Walk A} {f : A → Walk B} (n k : ℕ) → Adds n p → ((a : A) → Adds k (f a)) → Adds (n + k) (p >>= f)
  unfolding ◌>>=◌
  adds_then {p} n k h g = record { adds = λ w. let a = h.adds w in let b = (g (p w).0).adds (p w).1 in omega arith }

  adds_each : (f : ExprId → Walk (Unit {0})) (c : ExprId → ℕ) → ((e : ExprId) → Adds (c e) (f e)) → (es : List ExprId) → Adds (sum_by c es) (each_of f es)
  unfolding each_of give
  adds_each f c h [] = record { adds = λ w. omega arith }
  adds_each f c h (e ∷ es) = adds_then (c e) (sum_by c es) (h e) (λ _. adds_each f c h es)

  adds_open : (k : ScopeKind) (s : ScopeId) → Adds (held_by x k) (open_scope k s)
  unfolding open_scope
  adds_open k s = record { adds = λ w. let h = sum_append (λ (d : Scope). held_by x d.kind) w.scopes (record { parent = some s; kind = k } ∷ []) in omega arith }

  adds_for : (xs : List NameId) (s : ScopeId) → Adds (sum_by (same x) xs) (open_for xs s)
  unfolding open_for give
  adds_for [] s = record { adds = λ w. omega arith }
  adds_for (y ∷ ys) s = adds_open (definitions (y ∷ ys)) s

  adds_place : (e : ExprId) (s : ScopeId) → Adds 0 (place_expr e s)
  unfolding place_expr
  adds_place e s = record { adds = λ w. omega arith }

  adds_at_most : {A : Type 0} {p : Walk A} (n k : ℕ) → n ≤ k → Adds n p → Adds k p
  adds_at_most n k le h = record { adds = λ w. let a = h.adds w in omega arith }

  adds_give : {A : Type 0} (a : A) → Adds 0 (give a)
  unfolding give
  adds_give a = record { adds = λ w. omega arith }

  module _ (m : Module) (traverse : ScopeId → ExprId → Walk (Unit {0})) (c : ExprId → ℕ) (step : (s : ScopeId) (e : ExprId) → Adds (c e) (traverse s e)) where
    adds_all : (s : ScopeId) (es : List ExprId) → Adds (sum_by c es) (each_of (traverse s) es)
    adds_all s = adds_each (traverse s) c (step s)

    adds_bindings : (bs : Bindings) (s : ScopeId)
        → Adds
        (sum_by c (inherited bs.statics) + (sum_by (same x) (defined m bs.statics) + (sum_by c (plain_values bs.statics)
        + (sum_by c bs.inherit_froms + (sum_by c (keys_and_values bs.dynamics) + 0)))))
        (traverse_bindings m traverse bs s)
    unfolding traverse_bindings
    adds_bindings bs s =
        adds_then _ _ (adds_all s _) λ _. adds_then _ _ (adds_for _ s) λ t. adds_then _ _ (adds_all t _) λ _.
        adds_then _ _ (adds_all t _) λ _. adds_then _ _ (adds_all t _) λ _. adds_give t

    adds_as : (own : ExprId) (f : Form) (s : ScopeId) → Adds (sum_by (same x) (entered_by m f) + sum_by c (walked_by f)) (traverse_as m traverse own f s)
    unfolding traverse_as traverse_lambda traverse_with
    adds_as own (function y p b) s =
        let k = sum_append c (field_defaults (pat_fields p)) (b ∷ []) in
        adds_at_most _ _ (omega arith)
        (adds_then _ _ (adds_for (one_or_none y ++ field_names (pat_fields p)) s) (λ t. adds_then _ _ (adds_all t (field_defaults (pat_fields p))) (λ _. step t b)))
    adds_as own (with_body e b) s = adds_at_most _ _ (omega arith) (adds_then _ _ (step s e) (λ _. adds_then _ _ (adds_open (with_expr own) s) (λ t. step t b)))
    adds_as own (bound bs body) s =
        let k = sum_append c (inherited bs.statics) (plain_values bs.statics ++ (bs.inherit_froms ++ (keys_and_values bs.dynamics ++ one_or_none body))) in
        let l = sum_append c (plain_values bs.statics) (bs.inherit_froms ++ (keys_and_values bs.dynamics ++ one_or_none body)) in
        let i = sum_append c bs.inherit_froms (keys_and_values bs.dynamics ++ one_or_none body) in
        let j = sum_append c (keys_and_values bs.dynamics) (one_or_none body) in
        adds_at_most _ _ (omega arith) (adds_then _ _ (adds_bindings bs s) (λ t. adds_all t (one_or_none body)))
    adds_as own (through es) s = adds_at_most _ _ (omega arith) (adds_all s es)

  -- THEOREM. The walk from an expression enters a name at most as often as it stands among what is entered by the
  -- expressions that are met.
  pub walk_enters : (m : Module) (b : ℕ) (s : ScopeId) (e : ExprId) → Adds (times_entered m x b e) (traverse_to m b s e)
  unfolding traverse_to give
  walk_enters m zero s e = record { adds = λ w. omega arith }
  walk_enters m (suc b) s e =
      adds_at_most _ _ (omega arith)
      (adds_then _ _ (adds_place e s) (λ _. adds_as m (traverse_to m b) (times_entered m x b) (walk_enters m b) e (form (expr_at m e)) s))

  -- ---- from counts to scopes
  is_in_counts : (xs : List NameId) → is_in x xs ≡ true → 1 ≤ sum_by (same x) xs
  unfolding is_in
  is_in_counts [] h = differ (sym h)
  is_in_counts (y ∷ ys) h = go (eqb x y) h (is_in_counts ys)
    where
      go : (b : Bool) → b || is_in x ys ≡ true → (is_in x ys ≡ true → 1 ≤ sum_by (same x) ys) → 1 ≤ pick b 1 0 + sum_by (same x) ys
      go true p f = omega arith
      go false p f = let r = f p in omega arith

  holds_counts : (k : ScopeKind) → holds x k ≡ true → 1 ≤ held_by x k
  unfolding holds
  holds_counts (definitions xs) h = is_in_counts xs h
  holds_counts (with_expr e) h = differ (sym h)

  held_counts : (ss : List Scope) (s : ScopeId) → s < length ss → holds x (scope_at ss s).kind ≡ true → 1 ≤ held x ss
  unfolding scope_at
  held_counts [] s i h = absurd (omega arith)
  held_counts (d ∷ ds) zero i h = let r = holds_counts d.kind h in omega arith
  held_counts (d ∷ ds) (suc s) i h = let r = held_counts ds s (omega arith) h in omega arith

  counted_once : (ss : List Scope) → held x ss ≤ 1 → (s s' : ScopeId) → s < length ss → s' < length ss
      → holds x (scope_at ss s).kind ≡ true → holds x (scope_at ss s').kind ≡ true → s ≡ s'
  unfolding scope_at
  counted_once [] le s s' i i' h h' = absurd (omega arith)
  counted_once (d ∷ ds) le zero zero i i' h h' = refl
  counted_once (d ∷ ds) le zero (suc s') i i' h h' = let r = holds_counts d.kind h in let r' = held_counts ds s' (omega arith) h' in omega arith
  counted_once (d ∷ ds) le (suc s) zero i i' h h' = let r = holds_counts d.kind h' in let r' = held_counts ds s (omega arith) h in omega arith
  counted_once (d ∷ ds) le (suc s) (suc s') i i' h h' = ap suc (counted_once ds (omega arith) s s' (omega arith) (omega arith) h h')

-- Where the expressions met from the entry enter a name at most once, the scopes hold it at most once.
pub held_few : (m : Module) (x : NameId) → times_entered m x (suc m.entry) m.entry ≤ 1 → held x (scopes_of m).scopes ≤ 1
unfolding scopes_of traverse_expr
held_few m x h =
    let start : Scopes = record { scopes = record { parent = none; kind = definitions [] } ∷ []; of_expr = replicate (length m.exprs) none } in
    let r = (walk_enters x m (suc m.entry) 0 m.entry).adds start in
    omega arith

-- THEOREM. Where the expressions met from the entry enter no name twice, each name is held by one scope.
pub held_once : (m : Module) → ((x : NameId) → times_entered m x (suc m.entry) m.entry ≤ 1) → HeldOnce (scopes_of m)
held_once m h x s s' = counted_once x (scopes_of m).scopes (held_few m x (h x)) s s'
