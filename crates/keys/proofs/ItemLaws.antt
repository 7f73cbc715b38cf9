-- The items of a node from a place on. Assumes nothing.
use mathlib.Core.Path.{◌≡◌, refl, sym, ap, ◌∙◌}
use mathlib.Core.Bool.{true, false}
use mathlib.Core.List.{List, [], ◌∷◌}
use mathlib.Core.Option.{Option, none, some}
use Prim.Native.Nat.{ℕ, ◌+◌, ◌≤◌, ◌<◌}
use native.Mathlib.Numerals.{add-one}
use native.Mathlib.Omega.{arith}
use lib.ListN.{length, drop, drop_of_length-le}
use lib.Seq.{drop-cons}
use Rattle.spec.specs.Basics.{NodeId}
use Rattle.spec.specs.Sheet.{Node}
use Rattle.spec.specs.Tree.{node_at}
use Rattle.spec.specs.Keys.{present, after_first, kid, items, items_after}
use Rattle.module.specs.Ids.{node_of}
use Rattle.module.specs.declared.ids.NodeId as code_id
use Rattle.keys.specs.Items.{items_from, First, Next}
use Rattle.std.specs.Prelude as rust
use Rattle.std.specs.Option.{is_some}

-- ---- where a list of items begins
module _ (nodes : List Node) (n : NodeId) where
  pub items_are : items_from nodes 0 n ≡ items nodes n
  unfolding items_from items
  items_are = refl

  pub items_after_are : items_from nodes 1 n ≡ items_after nodes n
  unfolding items_from items_after after_first
  items_after_are = go (node_at nodes n).kids
    where
      go : (ks : List (Option NodeId)) → present (drop 1 ks) ≡ present (after_first ks)
      go [] = refl
      go (k ∷ ks) = refl

-- ---- one step
module _ (nodes : List Node) (n : NodeId) (i : ℕ) where
  pub items_past : length (node_at nodes n).kids ≤ i → items_from nodes i n ≡ []
  unfolding items_from present
  items_past h = rw (drop_of_length-le (node_at nodes n).kids h)

  module _ (h : i < length (node_at nodes n).kids) where
    pub items_none : none ≡ kid nodes i n → items_from nodes i n ≡ items_from nodes (i + 1) n
    unfolding items_from kid present
    items_none e = rw (add-one, drop-cons (node_at nodes n).kids i none h, ← e)

    pub items_some : (k : NodeId) → some k ≡ kid nodes i n → items_from nodes i n ≡ k ∷ items_from nodes (i + 1) n
    unfolding items_from kid present
    items_some k e = rw (add-one, drop-cons (node_at nodes n).kids i none h, ← e)

-- ---- the loop: the kids from i up to `at` are absent
pub record Passed (nodes : List Node) (n : NodeId) (i at : ℕ) : Type 0 where
  pub low : i ≤ at
  pub same : items_from nodes i n ≡ items_from nodes at n

module _ {nodes : List Node} {n : NodeId} {i at : ℕ} (p : Passed nodes n i at) (count : ℕ) (c : count ≡ length (node_at nodes n).kids) where
  pub passed_end : count ≤ at → Next nodes i n rust.None
  unfolding Next
  passed_end h = p.same ∙ items_past nodes n at (omega arith)

  module _ (h : at < count) (m : rust.Option code_id.NodeId) (e : node_of m ≡ kid nodes at n) where
    pub passed_more : m ≡ rust.None → Passed nodes n i (at + 1)
    unfolding node_of
    passed_more q = record { low = omega (arith, p.low); same = p.same ∙ items_none nodes n at (omega arith) (ap node_of (sym q) ∙ e) }

    pub passed_item : (k : code_id.NodeId) → m ≡ rust.Some k → Next nodes i n (rust.Some (k, at + 1))
    unfolding Next node_of
    passed_item k q =
        record {
          items = p.same ∙ items_some nodes n at (omega arith) k.0 (ap node_of (sym q) ∙ e);
          onward = omega (arith, p.low);
          inside = omega arith;
        }

-- ---- what a caller knows of the answer
module _ (nodes : List Node) (i : ℕ) (n : NodeId) (r : rust.Option (code_id.NodeId × ℕ)) (e : Next nodes i n r) where
  pub next_end : r ≡ rust.None → items_from nodes i n ≡ []
  unfolding Next
  next_end q = rw q at e

  pub next_first : (k : code_id.NodeId) (j : ℕ) → r ≡ rust.Some (k, j) → First nodes i n k.0 j
  unfolding Next
  next_first k j q = rw q at e

  -- what `is_some` says of it
  pub next_is_not : is_some r ≡ false → items_from nodes i n ≡ []
  unfolding Next
  next_is_not q = go r e q
    where
      go : (o : rust.Option (code_id.NodeId × ℕ)) → Next nodes i n o → is_some o ≡ false → items_from nodes i n ≡ []
      go rust.None e q = e
      go (rust.Some x) e q = cc

  pub next_is : is_some r ≡ true → (x : code_id.NodeId × ℕ) × (r ≡ rust.Some x)
  next_is q = go r q
    where
      go : (o : rust.Option (code_id.NodeId × ℕ)) → is_some o ≡ true → (x : code_id.NodeId × ℕ) × (o ≡ rust.Some x)
      go rust.None q = cc
      go (rust.Some x) q = (x, refl)

-- ---- what a caller knows of a kid
module _ {m : rust.Option code_id.NodeId} {o : Option NodeId} where
  pub kid_read : {k : code_id.NodeId} → m ≡ rust.Some k → node_of m ≡ o → some k.0 ≡ o
  unfolding node_of
  kid_read q e = sym (ap node_of q) ∙ e

  pub kid_missing : m ≡ rust.None → node_of m ≡ o → none ≡ o
  unfolding node_of
  kid_missing q e = sym (ap node_of q) ∙ e
