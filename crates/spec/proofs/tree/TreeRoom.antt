-- The nodes of an accepted sheet are a tree, with at most four kid places for each node and each subtree as large as it
-- says. Assumes nothing.
use mathlib.Core.Path.{◌≡◌, refl, sym, ap, ◌∙◌}
use mathlib.Core.Bool.{Bool, true, ◌&&◌, and-eq-true_iff}
use mathlib.Core.List.{List, [], ◌∷◌}
use mathlib.Core.Option.{Option, none, some}
use Prim.Native.Nat.{ℕ, zero, suc, ◌+◌, ◌*◌, ◌-◌, ◌≤◌, ◌<◌}
use native.Mathlib.Omega.{arith}
use lib.ListN.{length, get_or}
use lib.Dec.{leb}
use borrow.Author.Tests.{leb-true}
use Rattle.spec.specs.Basics.{NodeId}
use Rattle.spec.specs.Kinds.{Slot, Kind, places, kinds, kind_of}
use Rattle.spec.specs.Sheet.{Node, accepted}
use Rattle.spec.specs.Tree.{nobody, node_at, Walked, met, stopped, kid_fits, walk_kids, walk_node, walk_to, judge_tree, kid_places}
use Rattle.spec.specs.Keys.{present, items}
use Rattle.spec.proofs.general.Sums.{sum_by}
use Rattle.spec.proofs.once.Weights.{up_to}
use Rattle.spec.proofs.tree.Subtrees.{not_met, entered, node_kids, walked_all}

-- ---- sums over a list, by number
up_to_first : (g : ℕ → ℕ) (n : ℕ) → up_to g (suc n) ≡ g 0 + up_to (λ i. g (suc i)) n
up_to_first g zero = omega arith
up_to_first g (suc n) = let h = up_to_first g n in omega arith

pub sum_up_to : {A : Type 0} (f : A → ℕ) (d : A) (xs : List A) → sum_by f xs ≡ up_to (λ i. f (get_or xs i d)) (length xs)
sum_up_to f d [] = refl
sum_up_to f d (x ∷ xs) = let h = sum_up_to f d xs in let k = up_to_first (λ i. f (get_or (x ∷ xs) i d)) (length xs) in omega arith

-- ---- kid places
places_sum : (nodes : List Node) → kid_places nodes ≡ sum_by (λ (d : Node). length d.kids) nodes
unfolding kid_places
places_sum [] = refl
places_sum (n ∷ ns) = omega (arith, places_sum ns)

-- no kind has more than three counted places
abbrev counted_checked : List Kind → Bool
counted_checked [] = true
counted_checked (k ∷ ks) = leb (length k.counted) 3 && counted_checked ks

counted_at : (ks : List Kind) (i : ℕ) → counted_checked ks ≡ true → length (get_or ks i (places [] none)).counted ≤ 3
counted_at [] i h = omega arith
counted_at (k ∷ ks) zero h = leb-true (length k.counted) 3 ((and-eq-true_iff (leb (length k.counted) 3) (counted_checked ks)).0 h).0
counted_at (k ∷ ks) (suc i) h = counted_at ks i ((and-eq-true_iff (leb (length k.counted) 3) (counted_checked ks)).0 h).1

few_counted : (k : ℕ) → length (kind_of k).counted ≤ 3
unfolding kind_of kinds
few_counted k = counted_at kinds k refl

module _ (nodes : List Node) where
  abbrev places_at : NodeId → ℕ
  places_at i = length (node_at nodes i).kids

  -- the places of the nodes below the number n
  abbrev places_to : ℕ → ℕ
  places_to = up_to places_at

  -- what a walk from k to h is said to have: three places for its first node, and four for each of the others
  abbrev Few : ℕ → ℕ → Type 0
  Few k h = (k ≤ h) × (places_to (suc h) ≤ 3 + 4 * (h - k) + places_to k)

  few_next : (k a m : ℕ) → k ≡ suc a → Few k m → Few (suc a) m
  few_next k a m p f = rw p at f

  kids_places : (enter : NodeId → Walked) → ((k h : ℕ) → enter k ≡ met h → Few k h)
      → (n : NodeId) (counted : List Slot) (listed : Option Slot) (ks : List (Option NodeId)) (a h : ℕ)
      → walk_kids nodes enter n counted listed ks a ≡ met h → (a ≤ h) × (length ks + places_to (suc h) ≤ length counted + 4 * (h - a) + places_to (suc a))
  unfolding walk_kids
  kids_places enter few n counted listed [] a h e = let z : a ≡ h = cc in (omega arith, rw z (omega arith))
  kids_places enter few n (slot ∷ counted) listed (none ∷ ks) a h e =
      let r = kids_places enter few n counted listed ks a h e in
      (r.0, omega (arith, r.1))
  kids_places enter few n [] listed (none ∷ ks) a h e = not_met e
  kids_places enter few n (slot ∷ counted) listed (some k ∷ ks) a h e =
      let z = entered nodes enter (walk_kids nodes enter n counted listed ks) slot k a h n (kid_fits nodes slot k a) (enter k) refl refl e in
      let f : Few (suc a) z.mid = few_next k a z.mid z.next (few k z.mid z.into) in
      let r = kids_places enter few n counted listed ks z.mid h z.then_on in
      (omega (arith, f.0, r.0), omega (arith, f.0, f.1, r.0, r.1))
  kids_places enter few n [] none (some k ∷ ks) a h e = not_met e
  kids_places enter few n [] (some slot) (some k ∷ ks) a h e =
      let z = entered nodes enter (walk_kids nodes enter n [] (some slot) ks) slot k a h n (kid_fits nodes slot k a) (enter k) refl refl e in
      let f : Few (suc a) z.mid = few_next k a z.mid z.next (few k z.mid z.into) in
      let r = kids_places enter few n [] (some slot) ks z.mid h z.then_on in
      (omega (arith, f.0, r.0), omega (arith, f.0, f.1, r.0, r.1))

  node_places : (enter : NodeId → Walked) → ((k h : ℕ) → enter k ≡ met h → Few k h) → (n h : ℕ) → walk_node nodes enter n ≡ met h → Few n h
  node_places enter few n h e =
      let r = kids_places enter few n _ _ _ n h (node_kids nodes enter n h e) in
      (r.0, omega (arith, r.1, few_counted (node_at nodes n).kind))

  -- THEOREM. The nodes n to h of a subtree have at most three places for the first of them and four for each of the
  -- others.
  pub walk_places : (left n h : ℕ) → walk_to nodes left n ≡ met h → (n ≤ h) × (up_to places_at (suc h) ≤ 3 + 4 * (h - n) + up_to places_at n)
  unfolding walk_to
  walk_places zero n h e = node_places (λ k. stopped 6 n) (λ k m i. not_met i) n h e
  walk_places (suc left) n h e = node_places (walk_to nodes left) (walk_places left) n h e

-- THEOREM. Of every list of nodes that the walk accepts, four kid places for each node suffice.
pub kid_room : (nodes : List Node) → judge_tree (accepted nodes) ≡ accepted nodes → kid_places nodes ≤ 4 * length nodes
unfolding node_at
kid_room nodes e =
    let z = walked_all nodes e in
    let r = walk_places nodes 255 0 z.0 z.1 in
    let l : suc z.0 ≡ length nodes = omega (arith, z.2) in
    let s : kid_places nodes ≡ up_to (places_at nodes) (suc z.0) = places_sum nodes ∙ sum_up_to (λ (d : Node). length d.kids) nobody nodes ∙ ap (up_to (places_at nodes)) (sym l) in
    omega (arith, r.1)

-- ---- sizes
-- the nodes of a node's subtree, so many levels down
unfoldable pub size : List Node → ℕ → NodeId → ℕ
size nodes zero n = 0
size nodes (suc levels) n = suc (sum_by (size nodes levels) (items nodes n))

module _ (nodes : List Node) where
  kids_size : (d : ℕ) (enter : NodeId → Walked) → ((k h : ℕ) → enter k ≡ met h → size nodes d k + k ≡ suc h)
      → (n : NodeId) (counted : List Slot) (listed : Option Slot)
      (ks : List (Option NodeId)) (a h : ℕ) → walk_kids nodes enter n counted listed ks a ≡ met h → sum_by (size nodes d) (present ks) + a ≡ h
  unfolding walk_kids present
  kids_size d enter is n counted listed [] a h e = let z : a ≡ h = cc in omega arith
  kids_size d enter is n (slot ∷ counted) listed (none ∷ ks) a h e = kids_size d enter is n counted listed ks a h e
  kids_size d enter is n [] listed (none ∷ ks) a h e = not_met e
  kids_size d enter is n (slot ∷ counted) listed (some k ∷ ks) a h e =
      let z = entered nodes enter (walk_kids nodes enter n counted listed ks) slot k a h n (kid_fits nodes slot k a) (enter k) refl refl e in
      omega (arith, z.next, is k z.mid z.into, kids_size d enter is n counted listed ks z.mid h z.then_on)
  kids_size d enter is n [] none (some k ∷ ks) a h e = not_met e
  kids_size d enter is n [] (some slot) (some k ∷ ks) a h e =
      let z = entered nodes enter (walk_kids nodes enter n [] (some slot) ks) slot k a h n (kid_fits nodes slot k a) (enter k) refl refl e in
      omega (arith, z.next, is k z.mid z.into, kids_size d enter is n [] (some slot) ks z.mid h z.then_on)

  -- THEOREM. The nodes n to h of a subtree are as many as its size says, wherever the levels suffice.
  pub walk_size : (left d n h : ℕ) → left < d → walk_to nodes left n ≡ met h → size nodes d n + n ≡ suc h
  unfolding walk_to size items
  walk_size left zero n h l e = absurd (omega arith)
  walk_size zero (suc d) n h l e =
      let r = kids_size d (λ k. stopped 6 n) (λ k m i. not_met i) n _ _ (node_at nodes n).kids n h (node_kids nodes (λ k. stopped 6 n) n h e) in
      omega arith
  walk_size (suc left) (suc d) n h l e =
      let r = kids_size d (walk_to nodes left) (λ k m i. walk_size left d k m (omega arith) i) n _ _ (node_at nodes n).kids n h (node_kids nodes (walk_to nodes left) n h e) in
      omega arith

-- THEOREM. Of every list of nodes that the walk accepts, all hang on the first.
pub size_all : (nodes : List Node) → judge_tree (accepted nodes) ≡ accepted nodes → size nodes 256 0 ≡ length nodes
size_all nodes e =
    let z = walked_all nodes e in
    omega (arith, walk_size nodes 255 256 0 z.0 (omega arith) z.1, z.2)
