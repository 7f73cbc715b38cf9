-- When a step of the code is a step of the definitions.
use Rattle.std.specs.Prelude.{◌≡◌, List, ◌++◌, ℕ, ◌+◌, ◌*◌, ◌≤◌, length, eqb, true}
use Rattle.spec.specs.Basics.{NodeId}
use Rattle.spec.specs.Keys.{kind, flag, text}
use Rattle.spec.specs.Sheet.{Node, bits_from}
use Rattle.spec.specs.State.{State, Low}
use Rattle.spec.proofs.tree.Sizes.{Weighs}
use Rattle.spec.proofs.sets.Standing.{Standing}
use Rattle.layout.specs.Layout.{node_limit}
use Rattle.layout.specs.Changes.{Wrote, Still}
use Rattle.layout.specs.Exprs.{Item}
use Rattle.layout.specs.Nodes.{nodes_of}
use Rattle.layout.specs.States.{sets_of, entries_of, order_of, state_of, waiting_of}
use Rattle.store.specs.Work.{lowering, work_of, Fine}
use Rattle.open_sets.specs.Ranks.{InOrder}
use Rattle.merge.specs.Room.{Resource, level, per_node, Price}

-- the rows are well formed, the run is in order, and the open sets are a forest
pub record Lowerable (s : List ℕ) : Type 0 where
  pub fine : Fine s
  pub order : InOrder (entries_of s) (order_of s)
  pub standing : Standing (state_of s)

-- no Float of an accepted sheet is a NaN (docs/RULES.md, "Kinds"): what its text is
pub record Floats (nodes : List Node) : Type 0 where
  pub held : (n : NodeId) → eqb (kind nodes n) 8 ≡ true → flag nodes n ≡ 1 → bits_from 0 (text nodes n) ≤ 9218868437227405312

-- Where a step begins: with the nodes of an accepted sheet, with items that wait, with at least `top` open sets, and
-- with room for m nodes and for its own price.
pub record Setting (nodes : List Node) (w : List Item) (top m : ℕ) (own : Price) (s : List ℕ) : Type 0 where
  pub weighs : Weighs nodes
  pub floats : Floats nodes
  pub nodes_are : nodes_of s ≡ nodes
  pub waiting_are : waiting_of s ≡ w
  pub ready : Lowerable s
  pub opened : top ≤ length (sets_of s)
  pub room : (k : Resource) → level k (work_of s) + (per_node k * m + own k) ≤ per_node k * node_limit

-- what it leaves
pub record Lowered {A : Type 0} (w : List Item) (m : ℕ) (own : Price) (p : Low A) (s : List ℕ) (r : A) (t : List ℕ) : Type 0 where
  pub same : ◌≡◌ {A = A × State} (r, state_of t) (p (state_of s))
  pub waits : waiting_of t ≡ w
  pub ready : Lowerable t
  pub spent : (k : Resource) → level k (work_of t) ≤ level k (work_of s) + (per_node k * m + own k)
  pub grows : length (sets_of s) ≤ length (sets_of t)

-- From the store s, where the items w wait, the step p gives r and leaves the store t, where the items w' wait.
pub record Lowers {A : Type 0} (nodes : List Node) (w w' : List Item) (top m : ℕ) (own : Price) (p : Low A) (s : List ℕ) (r : A) (t : List ℕ) : Type 0 where
  pub wrote : Wrote lowering s t
  pub still : Still s t
  pub does : Setting nodes w top m own s → Lowered w' m own p s r t

-- ---- contracts: whatever the nodes are, and whatever waits
pub record Lowering {A : Type 0} (top : ℕ) (m : List Node → ℕ) (own : Price) (p : List Node → Low A) (s : List ℕ) (r : A) (t : List ℕ) : Type 0 where
  pub at : (nodes : List Node) (w : List Item) → Lowers nodes w w top (m nodes) own (p nodes) s r t

-- a step that gives a list leaves it waiting as items
pub record Collecting {A : Type 0} (top : ℕ) (m : List Node → ℕ) (own : Price) (items : A → List Item) (p : List Node → Low A) (s t : List ℕ) : Type 0 where
  pub at : (nodes : List Node) (w : List Item) → Lowers nodes w (w ++ items (p nodes (state_of s)).0) top (m nodes) own (p nodes) s (p nodes (state_of s)).0 t
