-- What the answer about a whole tree says.
use Rattle.std.specs.Prelude.{◌≡◌, List, ℕ, length, Result, Ok, Err}
use Rattle.spec.specs.Sheet.{Judged, accepted, refused, read_sheet}
use Rattle.refusals.specs.Numbers.{number_of}
use Rattle.sheet.specs.Sheets.{first_node}
use Rattle.sheet.specs.declared.position.Position.{Position}
use Rattle.tree.specs.Nodes.{nodes_in}
use Rattle.sheet.specs.declared.faults.SheetRefused.{SheetRefused}

-- the lines of the sheet were accepted: so many nodes, the first at the position
pub record Nodes (s : List ℕ) (nodes : ℕ) (first : Position) : Type 0 where
  pub right : read_sheet s ≡ accepted (nodes_in s)
  pub count : nodes ≡ length (nodes_in s)
  pub start : first ≡ first_node s

-- what is told of the tree of accepted lines
abbrev pub told : {A : Type 0} → List ℕ → Result A SheetRefused → Judged
told s (Ok x) = accepted (nodes_in s)
told s (Err r) = refused (number_of r.why) r.place
