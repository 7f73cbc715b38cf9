-- Names that wait for a scope, and the scope that is opened for them.
use Rattle.std.specs.Prelude.{◌≡◌, List, [], ◌∷◌, ◌++◌, ℕ, ◌+◌, ◌≤◌, length}
use Rattle.spec.specs.Basics.{NameId, ScopeId}
use Rattle.spec.specs.Steps.{give}
use Rattle.spec.specs.Module.{Module}
use Rattle.spec.specs.Scopes.{Walk, definitions, field_names, defined}
use Rattle.layout.specs.Layout.{name_limit}
use Rattle.layout.specs.Changes.{Wrote, Still}
use Rattle.layout.specs.Exprs.{Item, fields, statics}
use Rattle.layout.specs.Keeps.{scopes_in}
use Rattle.kept.specs.Walks.{walking, used_names, waiting_names, try_open, Neat}
use Rattle.scopes.specs.declared.enters.Names.{Names}
use Rattle.scopes.specs.declared.enters.Names.TheVariants.{Fields, Definitions}

-- the names that items enter
unfoldable pub entered : Names → Module → List Item → List NameId
entered Fields m is = field_names (fields is)
entered Definitions m is = defined m (statics is)

-- The names xs wait after the first n, and r in all; no scope is another.
pub record Enters (n : ℕ) (xs : List NameId) (s : List ℕ) (r : ℕ) (t : List ℕ) : Type 0 where
  pub wrote : Wrote walking s t
  pub still : Still s t
  pub same : Neat s → (scopes_in t ≡ scopes_in s) × Neat t
  pub used : used_names t ≡ used_names s
  pub counted : r ≡ n + length xs
  pub waits : used_names s + r ≤ name_limit → waiting_names t r ≡ waiting_names s n ++ xs

-- a scope for the names, if there is one and if there is room
unfoldable pub try_for : List NameId → ScopeId → Walk ScopeId
try_for [] s = give s
try_for (x ∷ xs) s = try_open (definitions (x ∷ xs)) s
