-- The walk of the definitions from where the code's walk has come to.
use Rattle.std.specs.Prelude.{◌≡◌, true, false, List, ◌∷◌, ℕ, zero, suc, ◌+◌, Option, Result, Ok, Err}
use Rattle.std.proofs.Math.Option as math
use Rattle.spec.specs.Basics.{NodeId}
use Rattle.spec.specs.Kinds as Kinds
use Rattle.spec.specs.Sheet.{Node}
use Rattle.spec.specs.Tree as spec
use Rattle.spec.specs.Tree.{met, stopped, kid_fits, walk_kids, walk_to}
use Rattle.refusals.specs.Numbers.{number_of}
use Rattle.tree.specs.Places.{counted_of, listed_of}
use Rattle.sheet.specs.Kids.{kid_of}
use Rattle.tree.specs.Nodes.{nodes_in, Stands}
use Rattle.tree.specs.declared.walk.Front.{Front}
use Rattle.sheet.specs.declared.faults.SheetRefused.{SheetRefused}
use Rattle.tree.specs.declared.walk.Todo.{Todo}

abbrev pub walked_of : Result Front SheetRefused → spec.Walked
walked_of (Ok front) = met front.highest
walked_of (Err r) = stopped (number_of r.why) r.place

-- the node after the highest met stands at the front's place
abbrev pub FrontStands : List ℕ → Front → Type 0
FrontStands s front = Stands s (front.highest + 1) front.next.at

abbrev pub Moved : List ℕ → Result Front SheetRefused → Type 0
Moved s (Ok front) = FrontStands s front
Moved s (Err r) = Unit

-- the code's answer is that of the walk, and where it goes on its place is right
pub record Walks (s : List ℕ) (w : spec.Walked) (r : Result Front SheetRefused) : Type 0 where
  pub same : walked_of r ≡ w
  pub moved : Moved s r

-- what walks a kid of the node n, below which so many levels are left
unfoldable pub entering : List Node → ℕ → NodeId → NodeId → spec.Walked
entering ns zero n = λ k. stopped 6 n
entering ns (suc left) n = walk_to ns left

-- the kid k, which goes into the slot
unfoldable pub entered : List Node → ℕ → NodeId → Kinds.Slot → NodeId → ℕ → spec.Walked
entered ns left n slot k highest = elim (kid_fits ns slot k highest) [ true ↦ entering ns left n k | false ↦ stopped 5 n ]

-- the kids that are still to walk
unfoldable pub kids_walk : List ℕ → ℕ → NodeId → Todo → List (math.Option NodeId) → spec.Walked
kids_walk s left n t kids = walk_kids (nodes_in s) (entering (nodes_in s) left n) n (counted_of t.places) (listed_of t.places) kids t.front.highest

abbrev pub TodoStands : List ℕ → Todo → Type 0
TodoStands s t = FrontStands s t.front

-- what is to do after a kid gives what was to do before it, whatever the kids after it are; or the walk stops at it
abbrev pub Steps : List ℕ → ℕ → NodeId → Option ℕ → Todo → Result Todo SheetRefused → Type 0
Steps s left n kid t (Ok u) = ((kids : List (math.Option NodeId)) → kids_walk s left n u kids ≡ kids_walk s left n t (kid_of kid ∷ kids)) × TodoStands s u
Steps s left n kid t (Err r) = (kids : List (math.Option NodeId)) → stopped (number_of r.why) r.place ≡ kids_walk s left n t (kid_of kid ∷ kids)
