-- What filling a store does, for a sheet that is accepted.
use Rattle.std.specs.Prelude.{◌≡◌, List, ℕ}
use Rattle.spec.specs.Sheet.{Node, accepted}
use Rattle.spec.specs.Tree.{judge}
use Rattle.load.specs.Loads.{Loaded}

-- the store s was filled from the sheet, and is t now
pub record Fills (sheet s t : List ℕ) : Type 0 where
  pub does : (nodes : List Node) → judge sheet ≡ accepted nodes → Loaded nodes s t
