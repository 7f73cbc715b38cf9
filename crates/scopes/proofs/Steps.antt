-- Walks in a store, one after the other. Assumes nothing.
use mathlib.Core.Path.{◌≡◌, refl, sym, ap, subst, ◌∙◌}
use mathlib.Core.List.{List, [], ◌∷◌, ◌++◌}
use Prim.Native.Nat.{ℕ, ◌≤◌, ◌<◌}
use borrow.Author.Tests.{lt-ltb, le-ltb}
use Rattle.spec.specs.Basics.{ExprId, ScopeId}
use Rattle.spec.specs.Steps.{◌>>=◌, give, when, each_of}
use Rattle.spec.specs.Module.{Module}
use Rattle.spec.specs.Scopes.{Scopes, Walk, traverse_expr}
use Rattle.spec.proofs.sound.Ordered.{Ordered}
use Rattle.layout.specs.Layout.{scope_limit}
use Rattle.layout.specs.Changes.{Wrote, Still}
use Rattle.layout.specs.States.{module_in}
use Rattle.layout.specs.Keeps.{scopes_in}
use Rattle.layout.proofs.Frames.{wrote_none, wrote_then}
use Rattle.layout.proofs.WriteLaws.{still_then}
use Rattle.kept.specs.Walks.{walking, Neat}
use Rattle.kept.proofs.KeepFrames.{module_kept}
use Rattle.scopes.specs.Walking.{Fits, WalkStart, Walks, below, Follows}
use Rattle.scopes.proofs.Growth.{Grows, fits_before, grows_each, below_grows, Lies}

pub module_walked : {s t : List ℕ} → Wrote walking s t → Still s t → module_in t ≡ module_in s
unfolding walking
module_walked w still = module_kept w still refl refl

module _ {A B : Type 0} {scope inner : ScopeId} (p : Module → Walk A) (q : Module → A → Walk B) {s u t : List ℕ} {a : A} {b : B} where
  next_does : (known : (w : Scopes) → scope < scope_limit → Fits (p (module_in s) w).1 → a ≡ (p (module_in s) w).0 → inner < scope_limit)
      → ((m : Module) (a : A) → Grows (q m a)) → Walks scope p s a u → Walks inner (λ m. q m a) u b t
      → WalkStart scope s → Fits ((p (module_in s) >>= q (module_in s)) (scopes_in s)).1 → ((b, scopes_in t) ≡ (p (module_in s) >>= q (module_in s)) (scopes_in s)) × Neat t
  unfolding ◌>>=◌
  next_does known g x y ready fits =
      let m = module_in s in
      let w = scopes_in s in
      let before = fits_before (p m w).1 (g m (p m w).0) fits in
      let f = x.does ready before in
      let same = module_walked x.wrote x.still in
      let e : q m (p m w).0 (p m w).1 ≡ q (module_in u) a (scopes_in u) = ap (λ (z : A × Scopes). q m z.0 z.1) (sym f.0) ∙ ap (λ (k : Module). q k a (scopes_in u)) (sym same) in
      let ready' : WalkStart inner u = record {
        known = known w ready.known before (ap (λ (z : A × Scopes). z.0) f.0);
        ordered = subst (λ (k : Module). Ordered k.exprs) (sym same) ready.ordered;
        neat = f.1;
      } in
      let h = y.does ready' (subst (λ (z : B × Scopes). Fits z.1) e fits) in
      (h.0 ∙ sym e, h.1)

  walks_next : (known : (w : Scopes) → scope < scope_limit → Fits (p (module_in s) w).1 → a ≡ (p (module_in s) w).0 → inner < scope_limit)
      → ((m : Module) (a : A) → Grows (q m a)) → Walks scope p s a u → Walks inner (λ m. q m a) u b t → Walks scope (λ m. p m >>= q m) s b t
  walks_next known g x y = record { wrote = wrote_then x.wrote y.wrote; still = still_then x.still y.still; does = next_does known g x y }

-- the next step is in the same scope
pub walks_then : {A B : Type 0} {scope : ScopeId} (p : Module → Walk A) (q : Module → A → Walk B) {s u t : List ℕ} {a : A} {b : B}
    → ((m : Module) (a : A) → Grows (q m a)) → Walks scope p s a u → Walks scope (λ m. q m a) u b t → Walks scope (λ m. p m >>= q m) s b t
walks_then p q g x y = walks_next p q (λ w h f e. h) g x y

-- the next step is in the scope that was opened
pub walks_inside : {B : Type 0} {scope : ScopeId} (p : Module → Walk ScopeId) (q : Module → ScopeId → Walk B) {s u t : List ℕ} {a : ScopeId} {b : B}
    → ((m : Module) → Lies scope (p m)) → ((m : Module) (a : ScopeId) → Grows (q m a)) → Walks scope p s a u → Walks a (λ m. q m a) u b t
    → Walks scope (λ m. p m >>= q m) s b t
walks_inside {scope = scope} p q {s} {a = a} l g x y = walks_next p q (λ w h f e. subst (λ n. n < scope_limit) (sym e) ((l (module_in s)).lies w h f)) g x y

-- the same step by another name, in a module that is in order
pub walks_ordered : {A : Type 0} {scope : ScopeId} {p q : Module → Walk A} {s t : List ℕ} {r : A} → (Ordered (module_in s).exprs → (w : Scopes) → p (module_in s) w ≡ q (module_in s) w) → Walks scope p s r t → Walks scope q s r t
walks_ordered {A = A} {s = s} e x = record {
  wrote = x.wrote;
  still = x.still;
  does = λ ready fits.
      let e' = e ready.ordered (scopes_in s) in
      let f = x.does ready (subst (λ (z : A × Scopes). Fits z.1) (sym e') fits) in
      (f.0 ∙ e', f.1);
}

pub walks_as : {A : Type 0} {scope : ScopeId} {p q : Module → Walk A} {s t : List ℕ} {r : A} → ((w : Scopes) → p (module_in s) w ≡ q (module_in s) w) → Walks scope p s r t → Walks scope q s r t
walks_as e x = walks_ordered (λ _. e) x

-- nothing is done
pub walks_none : {A : Type 0} {scope : ScopeId} (a : A) (s : List ℕ) → Walks scope (λ m. give a) s a s
unfolding give
walks_none a s = record { wrote = wrote_none walking s; still = record { same = refl; used = refl }; does = λ ready fits. (refl, ready.neat) }

-- ---- children one after the other
each_append : {A : Type 0} (f : A → Walk (Unit {0})) (xs ys : List A) (w : Scopes) → (each_of f xs >>= λ _. each_of f ys) w ≡ each_of f (xs ++ ys) w
unfolding each_of ◌>>=◌ give
each_append f [] ys w = refl
each_append f (x ∷ xs) ys w = each_append f xs ys (f x w).1

pub follows_none : {e : ExprId} {scope : ScopeId} (s : List ℕ) → Follows e scope [] s s
unfolding each_of
follows_none s = record { all = walks_none tt s }

pub follows_then : {e : ExprId} {scope : ScopeId} {cs ds : List ExprId} {s u t : List ℕ} → Follows e scope cs s u → Follows e scope ds u t → Follows e scope (cs ++ ds) s t
follows_then {e} {scope} {cs} {ds} {s} x y = record {
  all = walks_as (λ w. each_append (below (module_in s) e scope) cs ds w)
      (walks_then (λ m. each_of (below m e scope) cs) (λ m _. each_of (below m e scope) ds) (λ m _. grows_each (λ c. below_grows m e scope c) ds) x.all y.all);
}

-- a child with a lower number is walked, another one is not
pub child_walked : {e c : ExprId} {scope : ScopeId} {s t : List ℕ} → c < e → Walks scope (λ m. traverse_expr m scope c) s tt t → Follows e scope (c ∷ []) s t
unfolding each_of below when ◌>>=◌ give
child_walked {e} {c} h x = record { all = walks_as (λ w. rw (lt-ltb c e h)) x }

pub child_left : {e c : ExprId} {scope : ScopeId} (s : List ℕ) → e ≤ c → Follows e scope (c ∷ []) s s
unfolding each_of below when ◌>>=◌ give
child_left {e} {c} s h = record { all = walks_as (λ w. rw (le-ltb c e h)) (walks_none tt s) }

-- one child alone
pub one_child : {e c : ExprId} {scope : ScopeId} {s t : List ℕ} → Follows e scope (c ∷ []) s t → Walks scope (λ m. below m e scope c) s tt t
unfolding each_of ◌>>=◌ give
one_child x = walks_as (λ w. refl) x.all
