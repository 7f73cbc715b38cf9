-- What the parts of a node weigh beside the node, in the sizes that the contracts of lowering count. Assumes nothing.
use Rattle.std.specs.Prelude.{if◌then◌else◌}
use mathlib.Core.Path.{◌≡◌, refl}
use mathlib.Core.Bool.{Bool, true, false}
use mathlib.Core.List.{List}
use mathlib.Core.Option.{Option, none, some}
use Prim.Native.Nat.{◌+◌, ◌-◌, ◌≤◌}
use native.Mathlib.Omega.{arith}
use lib.Dec.{eqb}
use Rattle.spec.specs.Basics.{NodeId}
use Rattle.spec.specs.Sheet.{Node}
use Rattle.spec.specs.Keys.{kind, kid, kid_of}
use Rattle.spec.proofs.tree.Sizes.{Weighs, place_size, positive, places_three, first_and_rest}
use Rattle.keys.proofs.ItemLaws.{items_after_are}
use Rattle.module.specs.Ids.{node_of}
use Rattle.lower.specs.Sizes.{sized, below, sizes, place, heft}
use Rattle.lower.specs.Reads.{HasParam, ident_of, owner_of, attrs_from}
use Rattle.lower.proofs.ChildLaws.{Children, HasChildren}
use Rattle.lower.specs.declared.reads.Param.{Param}

pub place_size_lem : (nodes : List Node) (p : Option NodeId) → place nodes p ≡ place_size nodes p
unfolding place sized
place_size_lem nodes none = refl
place_size_lem nodes (some n) = refl

-- a node that is no Str takes its whole size
pub heft_whole : (nodes : List Node) (n : NodeId) → eqb (kind nodes n) 6 ≡ false → heft (some n) nodes ≡ sized nodes n
unfolding heft
heft_whole nodes n e = rw e

pub heft_str : (nodes : List Node) (n : NodeId) → eqb (kind nodes n) 6 ≡ true → heft (some n) nodes ≡ below n nodes
unfolding heft
heft_str nodes n e = rw e

pub heft_place : (nodes : List Node) (p : Option NodeId) → heft p nodes ≤ place nodes p
unfolding heft place below
heft_place nodes none = omega arith
heft_place nodes (some n) = go (eqb (kind nodes n) 6)
  where
    go : (b : Bool) → (if b then sized nodes n - 1 else sized nodes n) ≤ sized nodes n
    go true = omega arith
    go false = omega arith

module _ {nodes : List Node} (w : Weighs nodes) where
  -- its own node and those below it
  pub own_and_below : (n : NodeId) → below n nodes + 1 ≡ sized nodes n
  unfolding below sized
  own_and_below n = omega (arith, positive w n)

  pub places_below : (n : NodeId) → place nodes (kid nodes 0 n) + place nodes (kid nodes 1 n) + place nodes (kid nodes 2 n) ≤ below n nodes
  unfolding below sized
  places_below n = omega (arith, places_three w n, place_size_lem nodes (kid nodes 0 n), place_size_lem nodes (kid nodes 1 n), place_size_lem nodes (kid nodes 2 n))

  pub kid_below : (n : NodeId) → place nodes (kid nodes 0 n) ≤ below n nodes
  kid_below n = omega (arith, places_below n)

  -- the places as the code has read them
  pub three_below : {n : NodeId} {at : Children} → HasChildren nodes n at → place nodes (node_of at.first) + place nodes (node_of at.second) + place nodes (node_of at.third) ≤ below n nodes
  three_below {n} h = rw (h.first, h.second, h.third) (places_below n)

  -- ---- the parameter of a Lambda: the Ident, and the fields of the pattern
  pub after_size : (n : NodeId) → place nodes (kid nodes 0 n) + sizes nodes (attrs_from nodes 1 (some n)) ≤ place nodes (some n)
  unfolding sizes attrs_from place sized
  after_size n = rw (items_after_are nodes n) (omega (arith, first_and_rest w n, place_size_lem nodes (kid nodes 0 n)))

  kid_of_size : (p : Option NodeId) → place nodes (kid_of nodes 0 p) ≤ place nodes p
  unfolding kid_of place
  kid_of_size none = omega arith
  kid_of_size (some n) = omega (arith, kid_below n, own_and_below n)

  -- an Ident alone
  plain_size : (n : NodeId) → place nodes (kid nodes 0 n) + sizes nodes (attrs_from nodes 1 none) ≤ place nodes (some n)
  unfolding place sizes attrs_from
  plain_size n = omega (arith, kid_below n, own_and_below n)

  none_size : place nodes none + sizes nodes (attrs_from nodes 1 none) ≤ place nodes none
  unfolding place sizes attrs_from
  none_size = omega arith

  param_parts : (p : Option NodeId) → place nodes (ident_of nodes p) + sizes nodes (attrs_from nodes 1 (owner_of nodes p)) ≤ place nodes p
  unfolding ident_of owner_of
  param_parts none = none_size
  param_parts (some n) = go (eqb (kind nodes n) 28)
    where
      go : (b : Bool) → place nodes (if b then kid nodes 0 n else kid_of nodes 0 (kid nodes 0 n)) + sizes nodes (attrs_from nodes 1 (if b then none else some n)) ≤ place nodes (some n)
      go true = plain_size n
      go false = omega (arith, after_size n, kid_of_size (kid nodes 0 n))

  pub param_size : {p : Option NodeId} {x : Param} → HasParam nodes p x → place nodes (node_of x.ident) + sizes nodes (attrs_from nodes 1 (node_of x.owner)) ≤ place nodes p
  param_size {p} h = rw (h.ident, h.owner) (param_parts p)
