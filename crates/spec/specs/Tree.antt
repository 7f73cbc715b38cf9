-- docs/RULES.md, "The walk": refusals 4 to 7, by a depth-first walk from node 0, kids in order. The first met decides.
use Rattle.std.specs.Prelude.{Bool, true, false, ◌&&◌, List, [], ◌∷◌, ℕ, zero, suc, ◌+◌, length, get_or, eqb, leb, if◌then◌else◌}
use Rattle.std.proofs.Math.Option.{Option, none, some}
use Rattle.spec.specs.Basics.{NodeId}
use Rattle.spec.specs.Kinds.{Slot, takes, kind_of}
use Rattle.spec.specs.Sheet.{Node, Judged, accepted, refused, read_sheet}

unfoldable pub nobody : Node
nobody = record { kind = 0; from = 0; to = 0; flag = 0; kids = []; text = [] }

unfoldable pub node_at : List Node → NodeId → Node
node_at nodes n = get_or nodes n nobody

-- how many places for kids all nodes have together, absent kids among them
unfoldable pub kid_places : List Node → ℕ
kid_places [] = 0
kid_places (n ∷ ns) = length n.kids + kid_places ns

-- How far a walk has come: the highest node met; or the refusal that stopped it, its number and the parent node.
pub data Walked : Type 0 where
  met : ℕ → Walked
  stopped : ℕ → NodeId → Walked

unfoldable pub then_walk : Walked → (ℕ → Walked) → Walked
then_walk (met highest) f = f highest
then_walk (stopped number place) f = stopped number place

-- 4: as many kids as there are counted places; at least as many where a list follows, and at most 16 attributes in a
-- path
unfoldable pub count_fits : ℕ → ℕ → Bool
count_fits kind kids =
    elim (kind_of kind).listed [
      | none ↦ eqb kids (length (kind_of kind).counted)
      | some slot ↦ leb (length (kind_of kind).counted) kids && (if eqb kind 23 then leb kids 16 else true)
    ]

module _ (nodes : List Node) where
  -- 5: a kid is numbered one above the highest node met, and of a kind that its place takes
  unfoldable pub kid_fits : Slot → NodeId → ℕ → Bool
  kid_fits slot k highest = eqb k (highest + 1) && takes slot (node_at nodes k).kind

  -- the kids of the node n, its places being those still to fill; `enter` walks a kid
  unfoldable pub walk_kids : (NodeId → Walked) → NodeId → List Slot → Option Slot → List (Option NodeId) → ℕ → Walked
  walk_kids enter n counted listed [] highest = met highest
  walk_kids enter n (slot ∷ counted) listed (none ∷ kids) highest = walk_kids enter n counted listed kids highest
  walk_kids enter n [] listed (none ∷ kids) highest = stopped 5 n
  walk_kids enter n (slot ∷ counted) listed (some k ∷ kids) highest =
      elim (kid_fits slot k highest) [ true ↦ then_walk (enter k) (walk_kids enter n counted listed kids) | false ↦ stopped 5 n ]
  walk_kids enter n [] none (some k ∷ kids) highest = stopped 5 n
  walk_kids enter n [] (some slot) (some k ∷ kids) highest =
      elim (kid_fits slot k highest) [ true ↦ then_walk (enter k) (walk_kids enter n [] (some slot) kids) | false ↦ stopped 5 n ]

  -- the node n, which is then the highest met
  unfoldable pub walk_node : (NodeId → Walked) → NodeId → Walked
  walk_node enter n =
      let node = node_at nodes n in
      elim (count_fits node.kind (length node.kids)) [
        | true ↦ walk_kids enter n (kind_of node.kind).counted (kind_of node.kind).listed node.kids n
        | false ↦ stopped 4 n
      ]

  -- with so many levels allowed below it; 6 where none is left
  unfoldable pub walk_to : ℕ → NodeId → Walked
  walk_to zero n = walk_node (λ k. stopped 6 n) n
  walk_to (suc left) n = walk_node (walk_to left) n

  -- 7: all nodes are met
  unfoldable pub whole_tree : Walked → Judged
  whole_tree (met highest) = if eqb (highest + 1) (length nodes) then accepted nodes else refused 7 (highest + 1)
  whole_tree (stopped number place) = refused number place

-- Root is at depth 1, and the deepest node at 256.
unfoldable pub judge_tree : Judged → Judged
judge_tree (accepted nodes) = whole_tree nodes (walk_to nodes 255 0)
judge_tree (refused number place) = refused number place

-- All that is refused because of the sheet: its nodes, or refusal 1 to 7 or 31 to 33 and its place.
unfoldable pub judge : List ℕ → Judged
judge s = judge_tree (read_sheet s)
