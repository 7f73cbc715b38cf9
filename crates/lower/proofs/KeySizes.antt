-- What keys, values and entries weigh, so that an attribute's own node pays for its key. Assumes nothing.
use mathlib.Core.Path.{◌≡◌, refl}
use mathlib.Core.Bool.{Bool, true, false}
use mathlib.Core.List.{List}
use mathlib.Core.Option.{Option, none, some}
use Prim.Native.Nat.{ℕ, ◌+◌, ◌≤◌}
use native.Mathlib.Omega.{arith}
use lib.Dec.{eqb}
use Rattle.words.specs.Order.{pick}
use Rattle.spec.specs.Basics.{Text, NodeId, ExprId, maybe}
use Rattle.spec.specs.Sheet.{Node}
use Rattle.spec.specs.Keys.{static_key, dynamic_key, kind, text, kid, items, items_after, flatten_paren, get_str_literal, str_key, inside_dynamic, attr_kind}
use Rattle.spec.specs.State.{SetId, Low}
use Rattle.spec.specs.Merge.{entries_of, attributes}
use Rattle.spec.proofs.tree.Sizes.{Weighs, all_items, first_and_rest, key_size_inside}
use Rattle.keys.proofs.ItemLaws.{items_are}
use Rattle.lower.specs.Sizes.{sized, below, sizes, place, heft}
use Rattle.lower.specs.Reads.{attrs_from}
use Rattle.lower.proofs.SizeLaws.{place_size_lem, heft_place, own_and_below}

module _ (nodes : List Node) where
  pub attributes_are : (lower : NodeId → Low ExprId) (merge : SetId → NodeId → Low (Unit {0})) (p : Option NodeId) → attrs_from nodes 0 p ≡ attributes nodes lower merge p
  unfolding attrs_from attributes
  attributes_are lower merge none = refl
  attributes_are lower merge (some n) = items_are nodes n

-- ---- in the nodes of an accepted sheet
module _ {nodes : List Node} (w : Weighs nodes) where
  -- the attributes of a path
  pub attrs_place : (p : Option NodeId) → sizes nodes (attrs_from nodes 0 p) ≤ place nodes p
  unfolding attrs_from sizes sized place
  attrs_place none = omega arith
  attrs_place (some n) = rw (items_are nodes n) (omega (arith, all_items w n))

  -- the entries of a set or a let
  pub entries_size : (lower : NodeId → Low ExprId) (merge : SetId → NodeId → Low (Unit {0})) (n : NodeId) → sizes nodes (entries_of nodes lower merge n) + 1 ≤ sized nodes n
  unfolding entries_of sizes sized
  entries_size lower merge n = go (eqb (kind nodes n) 12)
    where
      go : (b : Bool) → sizes nodes (pick b (items_after nodes n) (items nodes n)) + 1 ≤ sized nodes n
      go true = omega (arith, first_and_rest w n)
      go false = omega (arith, all_items w n)

  -- those of a let, and its body
  pub let_size : (lower : NodeId → Low ExprId) (merge : SetId → NodeId → Low (Unit {0})) (n : NodeId) → eqb (kind nodes n) 12 ≡ true
      → sizes nodes (entries_of nodes lower merge n) + place nodes (kid nodes 0 n) + 1 ≤ sized nodes n
  unfolding entries_of sizes sized
  let_size lower merge n e = rw e (omega (arith, first_and_rest w n, place_size_lem nodes (kid nodes 0 n)))

  -- a Str that is a key is the attribute itself
  str_key_lem : (a : NodeId) (k : Option NodeId) → attr_kind nodes a ≡ dynamic_key k → eqb (kind nodes a) 6 ≡ true → k ≡ some a
  unfolding attr_kind str_key
  str_key_lem a k e f = go (eqb (kind nodes a) 18) (eqb (kind nodes a) 6) (get_str_literal nodes a) f e
    where
      go : (p q : Bool) (t : Option Text) → q ≡ true
          → pick p (static_key (text nodes a)) (pick q (maybe t (dynamic_key (some a)) static_key) (inside_dynamic nodes (flatten_paren nodes 256 (kid nodes 0 a)))) ≡ dynamic_key k → k ≡ some a
      go true q t f e = let z : ◌≡◌ {A = ℕ} 0 1 = cc in absurd (omega arith)
      go false true none f e = cc
      go false true (some x) f e = let z : ◌≡◌ {A = ℕ} 0 1 = cc in absurd (omega arith)
      go false false t f e = let z : ◌≡◌ {A = ℕ} 0 1 = cc in absurd (omega arith)

  str_heft : (a : NodeId) → eqb (kind nodes a) 6 ≡ true → heft (some a) nodes + 1 ≤ sized nodes a
  unfolding heft below
  str_heft a q = rw q (omega (arith, own_and_below w a))

  -- The attribute's own node is left beside its key.
  pub key_heft : (a : NodeId) (k : Option NodeId) → attr_kind nodes a ≡ dynamic_key k → heft k nodes + 1 ≤ sized nodes a
  unfolding sized
  key_heft a k e = go (eqb (kind nodes a) 6) refl
    where
      go : (b : Bool) → eqb (kind nodes a) 6 ≡ b → heft k nodes + 1 ≤ sized nodes a
      go true q = rw (str_key_lem a k e q) (str_heft a q)
      go false q = omega (arith, key_size_inside w a k e q, heft_place nodes k, place_size_lem nodes k)
