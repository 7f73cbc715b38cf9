-- Walking a module in a store: what a step of the code is against a step of the definitions. The steps that open scopes
-- test their limits, the definitions have none; so a step of the code is that of the definitions where all that the
-- definitions open has room.
use Rattle.std.specs.Prelude.{◌≡◌, List, ℕ, ◌≤◌, ◌<◌, length, ltb}
use Rattle.spec.specs.Basics.{ExprId, ScopeId}
use Rattle.spec.specs.Steps.{give, when, each_of}
use Rattle.spec.specs.Module.{Module}
use Rattle.spec.specs.Scopes.{Scopes, Walk, traverse_expr}
use Rattle.spec.proofs.sound.Ordered.{Ordered}
use Rattle.layout.specs.Layout.{name_limit, scope_limit}
use Rattle.layout.specs.Changes.{Wrote, Still}
use Rattle.layout.specs.States.{module_in}
use Rattle.layout.specs.Keeps.{scopes_in}
use Rattle.kept.specs.Walks.{entered_by, walking, Neat}

-- There is room for the scopes and for the names entered in them.
pub record Fits (w : Scopes) : Type 0 where
  pub few_scopes_lem : length w.scopes ≤ scope_limit
  pub few_names_lem : entered_by w.scopes ≤ name_limit

-- What a walk in the scope starts from: a scope that can be there, and a module whose children are numbered below their
-- owners.
pub record WalkStart (scope : ScopeId) (s : List ℕ) : Type 0 where
  pub known : scope < scope_limit
  pub ordered : Ordered (module_in s).exprs
  pub neat : Neat s

-- From the store s a walk in the scope gave r and left the store t, as the step p of the definitions says of the
-- module; all else is as it was.
pub record Walks {A : Type 0} (scope : ScopeId) (p : Module → Walk A) (s : List ℕ) (r : A) (t : List ℕ) : Type 0 where
  pub wrote : Wrote walking s t
  pub still : Still s t
  pub does : WalkStart scope s → Fits (p (module_in s) (scopes_in s)).1 → ((r, scopes_in t) ≡ p (module_in s) (scopes_in s)) × Neat t

-- a child of the expression e: one with a lower number is walked
unfoldable pub below : Module → ExprId → ScopeId → ExprId → Walk (Unit {0})
below m e scope c = when (ltb c e) (traverse_expr m scope c) (give tt)

-- children of the expression e, one after the other
pub record Follows (e : ExprId) (scope : ScopeId) (cs : List ExprId) (s t : List ℕ) : Type 0 where
  pub all : Walks scope (λ m. each_of (below m e scope) cs) s tt t
