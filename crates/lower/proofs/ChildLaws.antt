-- The counted places of a node, of which none has more than three, and its pointer: what the laws say of them all, by those
-- that were read. Assumes nothing.
use mathlib.Core.Path.{◌≡◌, refl}
use mathlib.Core.List.{List}
use mathlib.Core.Option.{Option, none, some}
use Rattle.spec.specs.Basics.{NodeId}
use Rattle.spec.specs.Sheet.{Node}
use Rattle.spec.specs.Keys.{kid, pointer}
use Rattle.spec.specs.Module as spec
use Rattle.module.specs.Ids.{node_of, pointer_of}
use Rattle.module.specs.declared.ids.NodeId as code_id
use Rattle.module.specs.declared.pointer.Pointer as code_pointer
use Rattle.std.specs.Prelude as rust

pub record Children : Type 0 where
  pub first : rust.Option code_id.NodeId
  pub second : rust.Option code_id.NodeId
  pub third : rust.Option code_id.NodeId
  pub pointer : code_pointer.Pointer

pub record HasChildren (nodes : List Node) (n : NodeId) (r : Children) : Type 0 where
  pub first : node_of r.first ≡ kid nodes 0 n
  pub second : node_of r.second ≡ kid nodes 1 n
  pub third : node_of r.third ≡ kid nodes 2 n
  pub pointed : pointer_of r.pointer ≡ pointer nodes n

-- ---- a place, and a pointer, as the code would have read it
pub as_read : Option NodeId → rust.Option code_id.NodeId
as_read none = rust.None
as_read (some n) = rust.Some (record { 0 = n })

as_read_is : (o : Option NodeId) → node_of (as_read o) ≡ o
unfolding as_read node_of
as_read_is none = refl
as_read_is (some n) = refl

pub as_pointer : spec.Pointer → code_pointer.Pointer
as_pointer p = record { kind = p.kind; from = p.from; to = p.to }

as_pointer_is : (p : spec.Pointer) → pointer_of (as_pointer p) ≡ p
unfolding as_pointer pointer_of
as_pointer_is p = refl

module _ (nodes : List Node) (n : NodeId) {first : rust.Option code_id.NodeId} (a : node_of first ≡ kid nodes 0 n) where
  pub one_child : {p : code_pointer.Pointer} → pointer_of p ≡ pointer nodes n → HasChildren nodes n (record { first = first; second = as_read (kid nodes 1 n); third = as_read (kid nodes 2 n); pointer = p })
  one_child d = record { first = a; second = as_read_is (kid nodes 1 n); third = as_read_is (kid nodes 2 n); pointed = d }

  module _ {second : rust.Option code_id.NodeId} (b : node_of second ≡ kid nodes 1 n) where
    pub two_children : {p : code_pointer.Pointer} → pointer_of p ≡ pointer nodes n → HasChildren nodes n (record { first = first; second = second; third = as_read (kid nodes 2 n); pointer = p })
    two_children d = record { first = a; second = b; third = as_read_is (kid nodes 2 n); pointed = d }

    -- where the pointer is not asked for
    pub two_places : HasChildren nodes n (record { first = first; second = second; third = as_read (kid nodes 2 n); pointer = as_pointer (pointer nodes n) })
    two_places = two_children (as_pointer_is (pointer nodes n))

    pub three_children : {third : rust.Option code_id.NodeId} → node_of third ≡ kid nodes 2 n → {p : code_pointer.Pointer} → pointer_of p ≡ pointer nodes n
        → HasChildren nodes n (record { first = first; second = second; third = third; pointer = p })
    three_children c d = record { first = a; second = b; third = c; pointed = d }
