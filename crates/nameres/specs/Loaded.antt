-- What is kept of a whole module: for every module that a store can keep, as that of every sheet that is accepted,
-- without a limit.
use Rattle.std.specs.Prelude.{◌≡◌, true, List, ℕ, ◌≤◌, length}
use Rattle.words.specs.Words.{word}
use Rattle.spec.specs.Module.{Module}
use Rattle.spec.specs.Scopes.{scopes_of}
use Rattle.spec.specs.Kept.{kept_of}
use Rattle.spec.proofs.sound.ScopeRange.{InRange}
use Rattle.layout.specs.Layout.{loaded_text_limit, texts_place}
use Rattle.layout.specs.Changes.{Wrote, Still}
use Rattle.layout.specs.Regions.{keeping}
use Rattle.layout.specs.States.{module_in}
use Rattle.layout.specs.Keeps.{kept_in}
use Rattle.soundness.specs.Sound.{sound}
use Rattle.soundness.specs.Coded.{ModuleFits}
use Rattle.scopes.specs.Whole.{Walkable}

-- A module that can be walked, and whose scopes name only what there is.
pub record Keepable (m : Module) : Type 0 where
  pub walkable : Walkable m
  pub ranged : InRange (length m.names) (length m.exprs) (scopes_of m)

-- From the store s all that is kept of its module was worked out, in the store t; the module, the nodes and the texts
-- are as they were.
pub record KeepsAll (s t : List ℕ) : Type 0 where
  pub wrote : Wrote keeping s t
  pub still : Still s t
  pub does : Keepable (module_in s) → kept_in t ≡ kept_of (module_in s)
  -- a module that fits makes a sound store, if its texts leave room for those of the changes
  pub leaves : Keepable (module_in s) → ModuleFits s → word s texts_place ≤ loaded_text_limit → sound t ≡ true
