-- A step inside the merging of one key. Nothing is said of the forest of sets, which is one again when the key is
-- merged.
use Rattle.std.specs.Prelude.{◌≡◌, List, ℕ, ◌+◌, ◌*◌, ◌≤◌}
use Rattle.std.proofs.Math.Option.{Option}
use Rattle.spec.specs.Basics.{Text, NodeId, ExprId}
use Rattle.spec.specs.Sheet.{Node}
use Rattle.spec.specs.Module.{Pointer, BindingValue}
use Rattle.spec.specs.State.{SetId, State, Low}
use Rattle.spec.specs.Merge.{inherit_value}
use Rattle.layout.specs.Layout.{node_limit}
use Rattle.layout.specs.Changes.{Wrote, Still}
use Rattle.layout.specs.States.{entries_of, order_of, state_of, waiting_of}
use Rattle.store.specs.Work.{lowering, work_of, Fine}
use Rattle.open_sets.specs.Ranks.{InOrder}
use Rattle.merge.specs.Room.{Resource, level, per_node, Price, price}
use Rattle.merge.specs.Lowers.{Lowering}

-- what it leaves
pub record Merged {A : Type 0} (own : Price) (p : Low A) (s : List ℕ) (r : A) (t : List ℕ) : Type 0 where
  pub same : ◌≡◌ {A = A × State} (r, state_of t) (p (state_of s))
  pub waits : waiting_of t ≡ waiting_of s
  pub fine : Fine t
  pub order : InOrder (entries_of t) (order_of t)
  pub spent : (k : Resource) → level k (work_of t) ≤ level k (work_of s) + own k

-- From the store s the step p gives r and leaves the store t.
pub record Merges {A : Type 0} (own : Price) (p : Low A) (s : List ℕ) (r : A) (t : List ℕ) : Type 0 where
  pub wrote : Wrote lowering s t
  pub still : Still s t
  pub does : Fine s → InOrder (entries_of s) (order_of s) → ((k : Resource) → level k (work_of s) + own k ≤ per_node k * node_limit) → Merged own p s r t

-- ---- prices
-- a value at a key: a name and an entry, or a diagnostic and what is lost by it
unfoldable pub value_price : Price
value_price = price 1 1 1 2 0 1

-- a name and an entry
unfoldable pub key_price : Price
key_price = price 1 1 1 0 0 1

-- a nested set, and its key's name and entry
unfoldable pub nested_price : Price
nested_price = price 2 2 1 0 1 1

-- an inherited key: its expression; or the literal that is its path's one item, and the Select
unfoldable pub inherit_price : Price
inherit_price = price 2 1 0 0 0 0

-- ---- what an inherited key is bound to, however expressions are lowered and entries merged
pub record Inherits (set : Option ExprId) (key : Text) (p : Pointer) (s : List ℕ) (r : BindingValue) (t : List ℕ) : Type 0 where
  pub at : (lower : List Node → NodeId → Low ExprId) (merge : List Node → SetId → NodeId → Low (Unit {0})) → Lowering 0 (λ _. 0) inherit_price (λ nodes. inherit_value nodes (lower nodes) (merge nodes) set key p) s r t
