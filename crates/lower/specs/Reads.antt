-- What lowering reads of nodes and open sets before it writes.
use Rattle.std.specs.Prelude.{◌≡◌, Bool, true, false, List, [], ◌∷◌, ℕ, ◌≤◌, ◌<◌, eqb, if◌then◌else◌}
use Rattle.std.proofs.Math.Option.{Option, none, some}
use Rattle.spec.specs.Basics.{Text, NodeId, ExprId}
use Rattle.spec.specs.Sheet.{Node}
use Rattle.spec.specs.Keys.{kind, kid, kid_of, flag}
use Rattle.spec.specs.State.{SetId, Low}
use Rattle.spec.specs.Merge.{find, nested_at, entries_of}
use Rattle.module.specs.Ids.{node_of}
use Rattle.module.specs.declared.expr.Pattern.{Pattern}
use Rattle.module.specs.declared.expr.Pattern.TheVariants.{Absent, Closed, Ellipsis}
use Rattle.layout.specs.Layout.{kid_limit}
use Rattle.layout.specs.Nodes.{nodes_of}
use Rattle.layout.specs.States.{state_of}
use Rattle.keys.specs.Items.{items_from}
use Rattle.merge.specs.Lowers.{Lowerable}
use Rattle.lower.specs.declared.reads.Param.{Param}
use Rattle.lower.specs.declared.reads.Rest.{Rest}
use Rattle.module.specs.declared.ids.NodeId as rust_node_id
use Rattle.open_sets.specs.declared.entry.SetId as rust_set_id
use Rattle.std.specs.Prelude as rust

-- ---- a parameter
-- the Ident that names it: an IdentParam's own, a Pattern's in its PatBind
unfoldable pub ident_of : List Node → Option NodeId → Option NodeId
ident_of nodes none = none
ident_of nodes (some n) = if eqb (kind nodes n) 28 then kid nodes 0 n else kid_of nodes 0 (kid nodes 0 n)

unfoldable pub owner_of : List Node → Option NodeId → Option NodeId
owner_of nodes none = none
owner_of nodes (some n) = if eqb (kind nodes n) 28 then none else some n

-- whether there is a pattern, and whether it ends in an ellipsis
unfoldable pub ellipsis_of : List Node → Option NodeId → Option Bool
ellipsis_of nodes none = none
ellipsis_of nodes (some n) = if eqb (kind nodes n) 28 then none else some (eqb (flag nodes n) 1)

unfoldable pub pattern_of : Pattern → Option Bool
pattern_of Absent = none
pattern_of Closed = some false
pattern_of Ellipsis = some true

pub record HasParam (nodes : List Node) (place : Option NodeId) (r : Param) : Type 0 where
  pub ident : node_of r.ident ≡ ident_of nodes place
  pub owner : node_of r.owner ≡ owner_of nodes place
  pub pattern : pattern_of r.pattern ≡ ellipsis_of nodes place

-- ---- the items of a place from i on; of none there are none
unfoldable pub attrs_from : List Node → ℕ → Option NodeId → List NodeId
attrs_from nodes i none = []
attrs_from nodes i (some n) = items_from nodes i n

-- what is left of an attribute path
abbrev pub attrs_left : List Node → Rest → List NodeId
attrs_left nodes r = attrs_from nodes r.after (node_of r.path)

-- Of what is left k is the first, and `more` has the others; no node has more kids than the store has room for.
pub record FirstIn (nodes : List Node) (r : Rest) (k : NodeId) (more : Rest) : Type 0 where
  pub items : attrs_left nodes r ≡ k ∷ attrs_left nodes more
  pub onward : r.after < more.after
  pub inside : more.after ≤ kid_limit

unfoldable pub NextIn : List Node → Rest → rust.Option (rust_node_id.NodeId × Rest) → Type 0
NextIn nodes r rust.None = attrs_left nodes r ≡ []
NextIn nodes r (rust.Some (k, more)) = FirstIn nodes r k.0 more

-- ---- where the entries begin
pub record FirstEntry (nodes : List Node) (n : NodeId) (r : ℕ) : Type 0 where
  pub says : (lower : NodeId → Low ExprId) (merge : SetId → NodeId → Low (Unit {0})) → items_from nodes r n ≡ entries_of nodes lower merge n

-- ---- a value that merges into a nested set
-- the nested set of the key in the set, where the value is an AttrSet
unfoldable pub nested_for : List Node → Option SetId → Option NodeId → Option (SetId × NodeId)
nested_for nodes t none = none
nested_for nodes none (some v) = none
nested_for nodes (some t) (some v) = if eqb (kind nodes v) 16 then some (t, v) else none

unfoldable pub into_of : rust.Option (rust_set_id.SetId × rust_node_id.NodeId) → Option (SetId × NodeId)
into_of (rust.Some (t, v)) = some (t.0, v.0)
into_of rust.None = none

pub record GoesInto (store : List ℕ) (s : SetId) (key : Text) (value : Option NodeId) (r : rust.Option (rust_set_id.SetId × rust_node_id.NodeId)) : Type 0 where
  pub says : Lowerable store → into_of r ≡ nested_for (nodes_of store) (nested_at (find s key (state_of store)) (state_of store)) value
