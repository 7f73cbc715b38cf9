-- A whole module lowered: for every sheet that is accepted, without a limit.
use Rattle.std.specs.Prelude.{◌≡◌, List, [], ℕ}
use Rattle.spec.specs.Sheet.{accepted}
use Rattle.spec.specs.Tree.{judge}
use Rattle.spec.specs.Lower.{lower_module}
use Rattle.layout.specs.Changes.{Wrote, Still}
use Rattle.layout.specs.Regions.{writing}
use Rattle.layout.specs.Nodes.{nodes_of}
use Rattle.layout.specs.States.{module_in, sets_of, entries_of, waiting_of}
use Rattle.soundness.specs.Coded.{ModuleFits}
use Rattle.store.specs.Work.{work_of, no_work, Fine}

-- the module is there, and no work is left
pub record Whole (s t : List ℕ) : Type 0 where
  pub lowered : module_in t ≡ lower_module (nodes_of s)
  pub fine : Fine t
  -- its bytes are those of a sound module
  pub fits : ModuleFits t
  pub none_waits : waiting_of t ≡ []
  pub no_sets : sets_of t ≡ []
  pub no_entries : entries_of t ≡ []

pub record LowersAll (s t : List ℕ) : Type 0 where
  pub wrote : Wrote writing s t
  pub still : Still s t
  pub does : (sheet : List ℕ) → judge sheet ≡ accepted (nodes_of s) → Fine s → work_of s ≡ no_work → Whole s t
