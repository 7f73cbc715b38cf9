-- The items of a node from a place on, and what the next one is.
use Rattle.std.specs.Prelude.{◌≡◌, List, [], ◌∷◌, ℕ, ◌≤◌, ◌<◌, length, drop}
use Rattle.spec.specs.Basics.{NodeId}
use Rattle.spec.specs.Sheet.{Node}
use Rattle.spec.specs.Tree.{node_at}
use Rattle.spec.specs.Keys.{present}
use Rattle.module.specs.declared.ids.NodeId as rust_node_id
use Rattle.std.specs.Prelude as rust

unfoldable pub items_from : List Node → ℕ → NodeId → List NodeId
items_from nodes i n = present (drop i (node_at nodes n).kids)

-- From place i on, k is the first item of n, and the others follow from place j on.
pub record First (nodes : List Node) (i : ℕ) (n k : NodeId) (j : ℕ) : Type 0 where
  pub items : items_from nodes i n ≡ k ∷ items_from nodes j n
  pub onward : i < j
  pub inside : j ≤ length (node_at nodes n).kids

-- what comes next from place i on
unfoldable pub Next : List Node → ℕ → NodeId → rust.Option (rust_node_id.NodeId × ℕ) → Type 0
Next nodes i n rust.None = items_from nodes i n ≡ []
Next nodes i n (rust.Some (k, j)) = First nodes i n k.0 j
