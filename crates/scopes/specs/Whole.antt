-- The scopes of a whole module: for every module that can be walked, as that of every sheet that is accepted, without a
-- limit.
use Rattle.std.specs.Prelude.{◌≡◌, List, ℕ, ◌≤◌, length}
use Rattle.words.specs.Words.{word}
use Rattle.spec.specs.Module.{Module}
use Rattle.spec.specs.Scopes.{scopes_of}
use Rattle.spec.proofs.sound.Ordered.{Ordered}
use Rattle.spec.proofs.sound.ScopeRange.{InRange}
use Rattle.layout.specs.Layout.{expr_count, name_count, expr_limit, name_limit}
use Rattle.layout.specs.Changes.{Wrote, Still}
use Rattle.layout.specs.States.{module_in}
use Rattle.layout.specs.Keeps.{scopes_in, kept_in}
use Rattle.soundness.specs.Coded.{ScopesFit}
use Rattle.kept.specs.Walks.{walking, Neat}
use Rattle.scopes.specs.Walking.{Fits}

-- A module whose children are numbered below their owners, and whose scopes, with the names entered in them, have room.
pub record Walkable (m : Module) : Type 0 where
  pub ordered : Ordered m.exprs
  pub room : Fits (scopes_of m)

-- From the store s the scopes of its module were worked out, in the store t; the module, the kept references, the nodes
-- and the texts are as they were.
pub record ScopesAll (s t : List ℕ) : Type 0 where
  pub wrote : Wrote walking s t
  pub still : Still s t
  pub module_same : module_in t ≡ module_in s
  pub references_same : (kept_in t).references ≡ (kept_in s).references
  pub spent_same : (kept_in t).spent ≡ (kept_in s).spent
  pub does : Walkable (module_in s) → (scopes_in t ≡ scopes_of (module_in s)) × Neat t
  -- their bytes pass the check of a store, where the scopes of the module name only what there is
  pub fits : Walkable (module_in s) → InRange (length (module_in s).names) (length (module_in s).exprs) (scopes_of (module_in s))
      → word s expr_count ≤ expr_limit → word s name_count ≤ name_limit → ScopesFit t
