-- Where the nodes of an accepted sheet stand in it, and their kids.
use Rattle.std.specs.Prelude.{◌≡◌, true, List, [], ◌∷◌, ℕ, ◌+◌, ◌<◌, ◌≤◌, length, drop, Option, Some, None}
use Rattle.std.specs.Borrow.{Bor}
use Rattle.std.proofs.Math.Option as math
use Rattle.spec.specs.Basics.{NodeId, maybe}
use Rattle.spec.specs.Sheet.{Node, Judged, accepted, refused, kid_list, all_below, read_sheet}
use Rattle.spec.specs.Tree.{node_at}
use Rattle.spec.proofs.reading.Reading.{Reads}
use Rattle.module.specs.SyntaxKinds.{number_of_syntax}
use Rattle.sheet.specs.Kids.{kid_of}
use Rattle.tree.specs.declared.nodes.Lines.{Lines}

abbrev nodes_of : Judged → List Node
nodes_of (accepted ns) = ns
nodes_of (refused number place) = []

-- the nodes of a sheet; none where it is refused
unfoldable pub nodes_in : List ℕ → List Node
nodes_in s = nodes_of (read_sheet s)

-- the node n stands at the place, and those after it follow to the sheet's end
pub record Stands (s : List ℕ) (n at : ℕ) : Type 0 where
  pub inside : n ≤ length (nodes_in s)
  pub reach : at ≤ length s
  pub follow : Reads s (length (nodes_in s)) n at (drop n (nodes_in s)) (length s)

-- the kids that a list stands for
unfoldable pub kids_in : List ℕ → List (math.Option NodeId)
kids_in v = maybe (kid_list v) [] (λ ks. ks)

-- it has the form of such a list, and its numbers have few bits
pub record Kids (v : List ℕ) : Type 0 where
  pub formed : kid_list v ≡ math.some (kids_in v)
  pub low : all_below 4294967295 (kids_in v) ≡ true

-- these are the lines of the node n, whose kids are numbers of nodes
pub record Read (s : List ℕ) (n : ℕ) (r : Lines) : Type 0 where
  pub kind : number_of_syntax r.kind ≡ (node_at (nodes_in s) n).kind
  pub kids : kids_in r.kids.now ≡ (node_at (nodes_in s) n).kids
  pub listed : Kids r.kids.now
  pub low : all_below (length (nodes_in s)) (kids_in r.kids.now) ≡ true
  pub next : Stands s (n + 1) r.next.at

-- a kid, and the list of those after it
pub record After (v : List ℕ) (k : Option ℕ) (rest : List ℕ) : Type 0 where
  pub same : kids_in v ≡ kid_of k ∷ kids_in rest
  pub shorter : length rest < length v
  pub others : Kids rest

abbrev pub FirstKid : List ℕ → Option (Option ℕ × Bor (List ℕ)) → Type 0
FirstKid v None = kids_in v ≡ []
FirstKid v (Some x) = After v x.0 x.1.now
