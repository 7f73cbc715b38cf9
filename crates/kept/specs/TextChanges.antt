-- The change room that is spent, and all that is kept with another module.
use Rattle.std.specs.Prelude.{◌≡◌, List, [], ◌∷◌, ℕ, ◌+◌}
use Rattle.spec.specs.Module.{Module}
use Rattle.spec.specs.Kept.{Kept}
use Rattle.layout.specs.Layout.{spent_place}
use Rattle.layout.specs.Changes.{Wrote, Still}
use Rattle.layout.specs.Keeps.{kept_in}

unfoldable pub with_module : Module → Kept → Kept
with_module m k = record { lowered = m; scopes = k.scopes; answers = k.answers; references = k.references; spent = k.spent }

-- So much of the change room is spent, and nothing else is another.
pub record Spent (n : ℕ) (s t : List ℕ) : Type 0 where
  pub wrote : Wrote ((spent_place, spent_place + 4) ∷ []) s t
  pub still : Still s t
  pub does : kept_in t ≡ record { lowered = (kept_in s).lowered; scopes = (kept_in s).scopes; answers = (kept_in s).answers; references = (kept_in s).references; spent = n }
