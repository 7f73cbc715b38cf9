-- A node weighs its subtree, so whatever lowering enters from a node weighs less than the node. Assumes nothing.
use mathlib.Core.Path.{◌≡◌, refl}
use mathlib.Core.Bool.{Bool, true, false}
use mathlib.Core.List.{List, [], ◌∷◌}
use mathlib.Core.Option.{Option, none, some}
use Prim.Native.Nat.{ℕ, zero, suc, ◌+◌, ◌≤◌, ◌<◌}
use native.Mathlib.Omega.{arith}
use lib.ListN.{length, get_or, get_or-eq_default}
use lib.Dec.{eqb, leb, ltb}
use borrow.Author.Tests.{leb-true, leb-false, ltb-true, ltb-false}
use Rattle.words.specs.Order.{pick}
use Rattle.spec.specs.Basics.{Text, NodeId, maybe}
use Rattle.spec.specs.Kinds.{Slot}
use Rattle.spec.specs.Sheet.{Node, accepted}
use Rattle.spec.specs.Tree.{nobody, node_at, Walked, met, stopped, kid_fits, walk_kids, walk_to, judge_tree}
use Rattle.spec.specs.Keys.{AttrKind, static_key, dynamic_key, present, after_first, kind, text, kid, items, items_after, flatten_paren, get_str_literal, str_key, inside_dynamic, attr_kind}
use Rattle.spec.proofs.general.Sums.{sum_by, compared}
use Rattle.spec.proofs.tree.Subtrees.{Sub, not_met, entered, node_kids, sub_more, walked_all}
use Rattle.spec.proofs.tree.TreeRoom.{size, walk_size}

-- ---- every node that a walk passes has been walked itself
module _ (nodes : List Node) where
  -- the node j has a subtree with fewer than b levels below it
  record Stands (b j : ℕ) : Type 0 where
    last : ℕ
    sub : Sub nodes b j last

  -- a node of one kid's subtree, or of a later one's
  within_or_after : {b : ℕ} (mid j : ℕ) → (j ≤ mid → Stands b j) → (mid < j → Stands b j) → Stands b j
  within_or_after {b} mid j f g = go (leb j mid) refl
    where
      go : (t : Bool) → leb j mid ≡ t → Stands b j
      go true q = f (leb-true j mid q)
      go false q = g (leb-false j mid q)

  kids_stand : (b : ℕ) (enter : NodeId → Walked) → ((k h : ℕ) → enter k ≡ met h → (j : ℕ) → k ≤ j → j ≤ h → Stands b j)
      → (n : NodeId) (counted : List Slot) (listed : Option Slot) (ks : List (Option NodeId)) (a h : ℕ)
      → walk_kids nodes enter n counted listed ks a ≡ met h → (j : ℕ) → a < j → j ≤ h → Stands b j
  unfolding walk_kids
  kids_stand b enter stand n counted listed [] a h e j l m = let z : a ≡ h = cc in absurd (omega arith)
  kids_stand b enter stand n (slot ∷ counted) listed (none ∷ ks) a h e j l m = kids_stand b enter stand n counted listed ks a h e j l m
  kids_stand b enter stand n [] listed (none ∷ ks) a h e j l m = not_met e
  kids_stand b enter stand n (slot ∷ counted) listed (some k ∷ ks) a h e j l m =
      let z = entered nodes enter (walk_kids nodes enter n counted listed ks) slot k a h n (kid_fits nodes slot k a) (enter k) refl refl e in
      within_or_after z.mid j (stand k z.mid z.into j (omega (arith, z.next))) (λ i. kids_stand b enter stand n counted listed ks z.mid h z.then_on j i m)
  kids_stand b enter stand n [] none (some k ∷ ks) a h e j l m = not_met e
  kids_stand b enter stand n [] (some slot) (some k ∷ ks) a h e j l m =
      let z = entered nodes enter (walk_kids nodes enter n [] (some slot) ks) slot k a h n (kid_fits nodes slot k a) (enter k) refl refl e in
      within_or_after z.mid j (stand k z.mid z.into j (omega (arith, z.next))) (λ i. kids_stand b enter stand n [] (some slot) ks z.mid h z.then_on j i m)

  -- the first node itself, or one behind it
  first_or_later : {b n h : ℕ} → Sub nodes b n h → ((j : ℕ) → n < j → j ≤ h → Stands b j) → (j : ℕ) → n ≤ j → j ≤ h → Stands b j
  first_or_later {b} {n} {h} s later j l m = compared j n (λ p. rw p (record { last = h; sub = s })) (λ p. later j (omega arith) m)

  walk_stands : (left n h : ℕ) → walk_to nodes left n ≡ met h → (j : ℕ) → n ≤ j → j ≤ h → Stands (suc left) j
  unfolding walk_to
  walk_stands zero n h e =
      first_or_later (record { levels = 0; fewer = omega arith; walked = e })
      (kids_stand 1 (λ k. stopped 6 n) (λ k m i. not_met i) n _ _ (node_at nodes n).kids n h (node_kids nodes (λ k. stopped 6 n) n h e))
  walk_stands (suc left) n h e =
      first_or_later (record { levels = suc left; fewer = omega arith; walked = e })
      (kids_stand (suc (suc left)) (walk_to nodes left) (λ k m i j l q. more (walk_stands left k m i j l q)) n _ _ (node_at nodes n).kids n h (node_kids nodes (walk_to nodes left) n h e))
    where
      more : {j : ℕ} → Stands (suc left) j → Stands (suc (suc left)) j
      more z = record { last = z.last; sub = sub_more nodes (suc (suc left)) (omega arith) z.sub }

-- ---- A node weighs more than all its kids together.
pub record Weighs (nodes : List Node) : Type 0 where
  pub weighs : (n : NodeId) → suc (sum_by (size nodes 256) (items nodes n)) ≤ size nodes 256 n

-- a node that was walked weighs as much with one level more
stands_weighs : (nodes : List Node) (n : NodeId) → Stands nodes 256 n → suc (sum_by (size nodes 256) (items nodes n)) ≤ size nodes 256 n
unfolding size
stands_weighs nodes n z =
    let s = z.sub in
    let i = walk_size nodes s.levels 256 n z.last s.fewer s.walked in
    let j = walk_size nodes s.levels 257 n z.last (omega (arith, s.fewer)) s.walked in
    omega (arith, i, j)

-- a node past the end has no kids
past_weighs : (nodes : List Node) (n : NodeId) → length nodes ≤ n → suc (sum_by (size nodes 256) (items nodes n)) ≤ size nodes 256 n
unfolding size items node_at nobody present
past_weighs nodes n l = rw (get_or-eq_default nodes nobody {n = n} l) (omega arith)

-- THEOREM. So it is of every list of nodes that the walk accepts.
pub weighs_all : (nodes : List Node) → judge_tree (accepted nodes) ≡ accepted nodes → Weighs nodes
weighs_all nodes e = record { weighs = λ n. go n (ltb n (length nodes)) refl }
  where
    go : (n : NodeId) (t : Bool) → ltb n (length nodes) ≡ t → suc (sum_by (size nodes 256) (items nodes n)) ≤ size nodes 256 n
    go n true p =
        let z = walked_all nodes e in
        stands_weighs nodes n (walk_stands nodes 255 0 z.0 z.1 n (omega arith) (omega (arith, z.2, ltb-true n (length nodes) p)))
    go n false p = past_weighs nodes n (ltb-false n (length nodes) p)

-- ---- what a place weighs
abbrev pub place_size : List Node → Option NodeId → ℕ
place_size nodes none = 0
place_size nodes (some k) = size nodes 256 k

module _ (nodes : List Node) where
  -- the first of some places, and those after it
  first_place : (k : Option NodeId) (ks : List (Option NodeId)) → place_size nodes k + sum_by (size nodes 256) (present ks) ≡ sum_by (size nodes 256) (present (k ∷ ks))
  unfolding present
  first_place none ks = omega arith
  first_place (some k) ks = omega arith

  place_one : (ks : List (Option NodeId)) → place_size nodes (get_or ks 0 none) ≤ sum_by (size nodes 256) (present ks)
  place_one [] = omega arith
  place_one (k ∷ ks) = omega (arith, first_place k ks)

  place_two : (ks : List (Option NodeId)) → place_size nodes (get_or ks 0 none) + place_size nodes (get_or ks 1 none) ≤ sum_by (size nodes 256) (present ks)
  place_two [] = omega arith
  place_two (k ∷ ks) = omega (arith, first_place k ks, place_one ks)

  place_three : (ks : List (Option NodeId)) → place_size nodes (get_or ks 0 none) + place_size nodes (get_or ks 1 none) + place_size nodes (get_or ks 2 none) ≤ sum_by (size nodes 256) (present ks)
  place_three [] = omega arith
  place_three (k ∷ ks) = omega (arith, first_place k ks, place_two ks)

  place_rest : (ks : List (Option NodeId)) → place_size nodes (get_or ks 0 none) + sum_by (size nodes 256) (present (after_first ks)) ≤ sum_by (size nodes 256) (present ks)
  unfolding after_first present
  place_rest [] = omega arith
  place_rest (k ∷ ks) = omega (arith, first_place k ks)

module _ {nodes : List Node} (w : Weighs nodes) where
  pub positive : (n : NodeId) → 1 ≤ size nodes 256 n
  positive n = omega (arith, w.weighs n)

  pub all_items : (n : NodeId) → sum_by (size nodes 256) (items nodes n) + 1 ≤ size nodes 256 n
  all_items n = omega (arith, w.weighs n)

  pub places_three : (n : NodeId) → place_size nodes (kid nodes 0 n) + place_size nodes (kid nodes 1 n) + place_size nodes (kid nodes 2 n) + 1 ≤ size nodes 256 n
  places_three n =
      let h : place_size nodes (kid nodes 0 n) + place_size nodes (kid nodes 1 n) + place_size nodes (kid nodes 2 n) ≤ sum_by (size nodes 256) (items nodes n) =
      unfold kid items in place_three nodes (node_at nodes n).kids in
      omega (arith, h, w.weighs n)

  pub first_and_rest : (n : NodeId) → place_size nodes (kid nodes 0 n) + sum_by (size nodes 256) (items_after nodes n) + 1 ≤ size nodes 256 n
  first_and_rest n =
      let h : place_size nodes (kid nodes 0 n) + sum_by (size nodes 256) (items_after nodes n) ≤ sum_by (size nodes 256) (items nodes n) =
      unfold kid items items_after in place_rest nodes (node_at nodes n).kids in
      omega (arith, h, w.weighs n)

  -- ---- what is inside parentheses weighs no more than they do
  pub flatten_size : (d : ℕ) (p : Option NodeId) → place_size nodes (flatten_paren nodes d p) ≤ place_size nodes p
  unfolding flatten_paren
  flatten_size zero p = omega arith
  flatten_size (suc d) none = omega arith
  flatten_size (suc d) (some n) = go (eqb (kind nodes n) 15) (flatten_size d (kid nodes 0 n)) (places_three n)
    where
      go : (t : Bool) → place_size nodes (flatten_paren nodes d (kid nodes 0 n)) ≤ place_size nodes (kid nodes 0 n)
          → place_size nodes (kid nodes 0 n) + place_size nodes (kid nodes 1 n) + place_size nodes (kid nodes 2 n) + 1 ≤ size nodes 256 n
          → place_size nodes (elim t as (λ _. Option NodeId) [ true ↦ flatten_paren nodes d (kid nodes 0 n) | false ↦ some n ]) ≤ size nodes 256 n
      go true r h = omega arith
      go false r h = omega arith

-- ---- the expression of a key
module _ (nodes : List Node) where
  -- what an attribute's key takes from it, where there is an expression: no more than b
  abbrev KeyWithin : ℕ → AttrKind → Type 0
  KeyWithin b (static_key t) = Unit {0}
  KeyWithin b (dynamic_key k) = place_size nodes k ≤ b

  key_told : {b : ℕ} {k : Option NodeId} (a : AttrKind) → a ≡ dynamic_key k → KeyWithin b a → place_size nodes k ≤ b
  key_told {b} a e h = rw e at h

  str_within : (b : ℕ) (n : NodeId) → size nodes 256 n ≤ b → KeyWithin b (str_key nodes n)
  unfolding str_key
  str_within b n h = go (get_str_literal nodes n)
    where
      go : (t : Option Text) → KeyWithin b (maybe t (dynamic_key (some n)) static_key)
      go none = h
      go (some t) = tt

  inside_within : (b : ℕ) (p : Option NodeId) → place_size nodes p ≤ b → KeyWithin b (inside_dynamic nodes p)
  unfolding inside_dynamic
  inside_within b none h = omega arith
  inside_within b (some n) h = go (eqb (kind nodes n) 6)
    where
      go : (t : Bool) → KeyWithin b (pick t (str_key nodes n) (dynamic_key (some n)))
      go true = str_within b n h
      go false = h

  -- what is inside an attribute that is no string
  flattened : (w : Weighs nodes) (a : NodeId) → place_size nodes (flatten_paren nodes 256 (kid nodes 0 a)) + 1 ≤ size nodes 256 a
  flattened w a = omega (arith, flatten_size w 256 (kid nodes 0 a), places_three w a)

module _ {nodes : List Node} (w : Weighs nodes) where
  -- Where an attribute is no string, the expression of its key weighs less than the attribute.
  pub key_size_inside : (a : NodeId) (k : Option NodeId) → attr_kind nodes a ≡ dynamic_key k → eqb (kind nodes a) 6 ≡ false → place_size nodes k + 1 ≤ size nodes 256 a
  unfolding attr_kind
  key_size_inside a k e f = below (size nodes 256 a) (flattened nodes w a)
    where
      go : (b : ℕ) (p q : Bool) → place_size nodes (flatten_paren nodes 256 (kid nodes 0 a)) ≤ b → q ≡ false
          → KeyWithin nodes b (pick p (static_key (text nodes a)) (pick q (str_key nodes a) (inside_dynamic nodes (flatten_paren nodes 256 (kid nodes 0 a)))))
      go b true q h i = tt
      go b false true h i = let z : ◌≡◌ {A = ℕ} 0 1 = cc in absurd (omega arith)
      go b false false h i = inside_within nodes b (flatten_paren nodes 256 (kid nodes 0 a)) h

      below : (m : ℕ) → place_size nodes (flatten_paren nodes 256 (kid nodes 0 a)) + 1 ≤ m → place_size nodes k + 1 ≤ m
      below zero h = absurd (omega arith)
      below (suc m) h = let r = key_told nodes {b = m} (attr_kind nodes a) e (go m (eqb (kind nodes a) 18) (eqb (kind nodes a) 6) (omega arith) f) in omega (arith, r)
