-- The nodes of a subtree that the walk accepted are numbered one after the other, and so are the subtrees of a node's
-- kids. Assumes nothing.
use mathlib.Core.Path.{◌≡◌, refl}
use mathlib.Core.Bool.{Bool, true, false, and-eq-true_iff}
use mathlib.Core.List.{List, [], ◌∷◌}
use mathlib.Core.Option.{Option, none, some}
use Prim.Native.Nat.{ℕ, zero, suc, ◌+◌, ◌≤◌, ◌<◌}
use native.Mathlib.Omega.{arith}
use lib.ListN.{length, get_or}
use lib.Dec.{eqb}
use borrow.Author.Tests.{eqb-true}
use Rattle.words.specs.Order.{pick}
use Rattle.spec.specs.Basics.{NodeId}
use Rattle.spec.specs.Kinds.{Slot, takes, kind_of}
use Rattle.spec.specs.Sheet.{Node, accepted, refused}
use Rattle.spec.specs.Tree.{node_at, Walked, met, stopped, then_walk, count_fits, kid_fits, walk_kids, walk_node, walk_to, whole_tree, judge_tree}
use Rattle.spec.specs.Keys.{present, after_first, kind, kid, items, items_after}

pub not_met : {A : Type 0} {number place h : ℕ} → stopped number place ≡ met h → A
not_met e = let z : ◌≡◌ {A = ℕ} 0 1 = cc in absurd (omega arith)

after_at : (ks : List (Option NodeId)) (i : ℕ) → get_or (after_first ks) i none ≡ get_or ks (suc i) none
unfolding after_first
after_at [] i = refl
after_at (k ∷ ks) i = refl

module _ (nodes : List Node) where
  -- the nodes n to h are the subtree of n, which has fewer than b levels below it
  pub record Sub (b n h : ℕ) : Type 0 where
    pub levels : ℕ
    pub fewer : levels < b
    pub walked : walk_to nodes levels n ≡ met h

  -- the kid k for such a place: it is the next after a, its subtree ends at h
  pub record Here (b : ℕ) (slot : Slot) (k : NodeId) (a h : ℕ) : Type 0 where
    pub next : k ≡ suc a
    pub taken : takes slot (kind nodes k) ≡ true
    pub sub : Sub b k h

  -- a place from a to h, which may be absent
  pub data Place (b : ℕ) (slot : Slot) : Option NodeId → ℕ → ℕ → Type 0 where
    absent : {a : ℕ} → Place b slot none a a
    here : {k : NodeId} {a h : ℕ} → Here b slot k a h → Place b slot (some k) a h

  -- a list from a to h
  pub data Items (b : ℕ) (slot : Slot) : List NodeId → ℕ → ℕ → Type 0 where
    done : {a : ℕ} → Items b slot [] a a
    item : {k : NodeId} {ks : List NodeId} {a m h : ℕ} → Here b slot k a m → Items b slot ks m h → Items b slot (k ∷ ks) a h

  -- more levels allowed
  pub sub_more : {b n h : ℕ} (c : ℕ) → b ≤ c → Sub b n h → Sub c n h
  sub_more c i s = record { levels = s.levels; fewer = omega (arith, s.fewer); walked = s.walked }

  -- ---- a node's kids
  -- a kid was entered, and then the rest was walked
  pub record Entered (enter : NodeId → Walked) (rest : ℕ → Walked) (slot : Slot) (k a h : ℕ) : Type 0 where
    pub mid : ℕ
    pub next : k ≡ suc a
    pub taken : takes slot (kind nodes k) ≡ true
    pub into : enter k ≡ met mid
    pub then_on : rest mid ≡ met h

  pub entered : (enter : NodeId → Walked) (rest : ℕ → Walked) (slot : Slot) (k a h n : ℕ) (t : Bool) (w : Walked) → kid_fits nodes slot k a ≡ t → enter k ≡ w → (elim t as (λ _. Walked) [ true ↦ then_walk w rest | false ↦ stopped 5 n ]) ≡ met h → Entered enter rest slot k a h
  unfolding then_walk kid_fits kind
  entered enter rest slot k a h n true (met m) p q e =
      let f = (and-eq-true_iff (eqb k (a + 1)) _).0 p in
      let z = eqb-true k (a + 1) f.0 in
      record { mid = m; next = omega arith; taken = f.1; into = q; then_on = e }
  entered enter rest slot k a h n true (stopped x y) p q e = not_met e
  entered enter rest slot k a h n false w p q e = not_met e

  -- the first place of those that are counted, and what comes after it
  record Split (b : ℕ) (enter : NodeId → Walked) (n : NodeId) (slot : Slot) (counted : List Slot) (listed : Option Slot) (ks : List (Option NodeId)) (a h : ℕ) : Type 0 where
    mid : ℕ
    first : Place b slot (get_or ks 0 none) a mid
    rest : walk_kids nodes enter n counted listed (after_first ks) mid ≡ met h

  module _ (b : ℕ) (enter : NodeId → Walked) (enters : (k h : ℕ) → enter k ≡ met h → Sub b k h) (n : NodeId) where
    split : (slot : Slot) (counted : List Slot) (listed : Option Slot) (ks : List (Option NodeId)) (a h : ℕ) → walk_kids nodes enter n (slot ∷ counted) listed ks a ≡ met h → Split b enter n slot counted listed ks a h
    unfolding walk_kids after_first
    split slot counted listed [] a h e = record { mid = a; first = absent; rest = e }
    split slot counted listed (none ∷ ks) a h e = record { mid = a; first = absent; rest = e }
    split slot counted listed (some k ∷ ks) a h e =
        let z = entered enter (walk_kids nodes enter n counted listed ks) slot k a h n (kid_fits nodes slot k a) (enter k) refl refl e in
        record { mid = z.mid; first = here (record { next = z.next; taken = z.taken; sub = enters k z.mid z.into }); rest = z.then_on }

    listed_items : (slot : Slot) (ks : List (Option NodeId)) (a h : ℕ) → walk_kids nodes enter n [] (some slot) ks a ≡ met h → Items b slot (present ks) a h
    unfolding walk_kids present
    listed_items slot [] a h e = let z : a ≡ h = cc in rw z done
    listed_items slot (none ∷ ks) a h e = not_met e
    listed_items slot (some k ∷ ks) a h e =
        let z = entered enter (walk_kids nodes enter n [] (some slot) ks) slot k a h n (kid_fits nodes slot k a) (enter k) refl refl e in
        item (record { next = z.next; taken = z.taken; sub = enters k z.mid z.into }) (listed_items slot ks z.mid h z.then_on)

  -- the walk only goes up
  kids_le : (enter : NodeId → Walked) → ((k h : ℕ) → enter k ≡ met h → k ≤ h) → (n : NodeId) (counted : List Slot) (listed : Option Slot) (ks : List (Option NodeId)) (a h : ℕ) → walk_kids nodes enter n counted listed ks a ≡ met h → a ≤ h
  unfolding walk_kids
  kids_le enter up n counted listed [] a h e = let z : a ≡ h = cc in omega arith
  kids_le enter up n (slot ∷ counted) listed (none ∷ ks) a h e = kids_le enter up n counted listed ks a h e
  kids_le enter up n [] listed (none ∷ ks) a h e = not_met e
  kids_le enter up n (slot ∷ counted) listed (some k ∷ ks) a h e =
      let z = entered enter (walk_kids nodes enter n counted listed ks) slot k a h n (kid_fits nodes slot k a) (enter k) refl refl e in
      omega (arith, z.next, up k z.mid z.into, kids_le enter up n counted listed ks z.mid h z.then_on)
  kids_le enter up n [] none (some k ∷ ks) a h e = not_met e
  kids_le enter up n [] (some slot) (some k ∷ ks) a h e =
      let z = entered enter (walk_kids nodes enter n [] (some slot) ks) slot k a h n (kid_fits nodes slot k a) (enter k) refl refl e in
      omega (arith, z.next, up k z.mid z.into, kids_le enter up n [] (some slot) ks z.mid h z.then_on)

  -- ---- a node
  pub node_kids : (enter : NodeId → Walked) (n h : ℕ) → walk_node nodes enter n ≡ met h → walk_kids nodes enter n (kind_of (node_at nodes n).kind).counted (kind_of (node_at nodes n).kind).listed (node_at nodes n).kids n ≡ met h
  unfolding walk_node
  node_kids enter n h e = go (count_fits (node_at nodes n).kind (length (node_at nodes n).kids)) e
    where
      go : (t : Bool) → (elim t as (λ _. Walked) [ true ↦ walk_kids nodes enter n (kind_of (node_at nodes n).kind).counted (kind_of (node_at nodes n).kind).listed (node_at nodes n).kids n | false ↦ stopped 4 n ]) ≡ met h → walk_kids nodes enter n (kind_of (node_at nodes n).kind).counted (kind_of (node_at nodes n).kind).listed (node_at nodes n).kids n ≡ met h
      go true e = e
      go false e = not_met e

  walk_le : (l n h : ℕ) → walk_to nodes l n ≡ met h → n ≤ h
  unfolding walk_to
  walk_le zero n h e = kids_le (λ k. stopped 6 n) (λ k h e. not_met e) n _ _ _ n h (node_kids (λ k. stopped 6 n) n h e)
  walk_le (suc l) n h e = kids_le (walk_to nodes l) (walk_le l) n _ _ _ n h (node_kids (walk_to nodes l) n h e)

  pub sub_le : {b n h : ℕ} → Sub b n h → n ≤ h
  sub_le {n = n} {h = h} s = walk_le s.levels n h s.walked

  pub place_le : {b : ℕ} {slot : Slot} {p : Option NodeId} {a h : ℕ} → Place b slot p a h → a ≤ h
  place_le absent = omega arith
  place_le (here z) = omega (arith, z.next, sub_le z.sub)

  pub items_le : {b : ℕ} {slot : Slot} {ks : List NodeId} {a h : ℕ} → Items b slot ks a h → a ≤ h
  items_le done = omega arith
  items_le (item z r) = omega (arith, z.next, sub_le z.sub, items_le r)

  -- how the kids of a node of such a kind were walked
  record Shape (b n k h : ℕ) : Type 0 where
    enter : NodeId → Walked
    enters : (k h : ℕ) → enter k ≡ met h → Sub b k h
    walked : walk_kids nodes enter n (kind_of k).counted (kind_of k).listed (node_at nodes n).kids n ≡ met h

  shape : {b n h : ℕ} (k : ℕ) → Sub (suc b) n h → kind nodes n ≡ k → Shape b n k h
  unfolding kind walk_to
  shape {b} {n} {h} k s e = go s.levels s.fewer s.walked
    where
      go : (l : ℕ) → l < suc b → walk_to nodes l n ≡ met h → Shape b n k h
      go zero f w = record { enter = λ k. stopped 6 n; enters = λ k h e. not_met e; walked = rw e at (node_kids (λ k. stopped 6 n) n h w) }
      go (suc l) f w = record { enter = walk_to nodes l; enters = λ k h e. record { levels = l; fewer = omega arith; walked = e }; walked = rw e at (node_kids (walk_to nodes l) n h w) }

  -- ---- The kids by the kind of their node
  pub record One (b n : ℕ) (s : Slot) (h : ℕ) : Type 0 where
    pub mid : ℕ
    pub first : Place b s (kid nodes 0 n) n mid
    pub ends : mid ≤ h

  pub record Two (b n : ℕ) (s t : Slot) (h : ℕ) : Type 0 where
    pub mid : ℕ
    pub last : ℕ
    pub first : Place b s (kid nodes 0 n) n mid
    pub second : Place b t (kid nodes 1 n) mid last
    pub ends : last ≤ h

  pub record Three (b n : ℕ) (s t u : Slot) (h : ℕ) : Type 0 where
    pub mid : ℕ
    pub later : ℕ
    pub last : ℕ
    pub first : Place b s (kid nodes 0 n) n mid
    pub second : Place b t (kid nodes 1 n) mid later
    pub third : Place b u (kid nodes 2 n) later last
    pub ends : last ≤ h

  pub record OneThen (b n : ℕ) (s t : Slot) (h : ℕ) : Type 0 where
    pub mid : ℕ
    pub first : Place b s (kid nodes 0 n) n mid
    pub rest : Items b t (items_after nodes n) mid h

  -- what is left goes up
  left_le : {b n k h : ℕ} (z : Shape b n k h) (counted : List Slot) (ks : List (Option NodeId)) (a : ℕ) → walk_kids nodes z.enter n counted (kind_of k).listed ks a ≡ met h → a ≤ h
  left_le {n = n} {k = k} {h = h} z counted ks a e = kids_le z.enter (λ j m i. sub_le (z.enters j m i)) n counted (kind_of k).listed ks a h e

  pub one_of : {b n h : ℕ} (k : ℕ) (s : Slot) → Sub (suc b) n h → kind nodes n ≡ k → (kind_of k).counted ≡ s ∷ [] → One b n s h
  unfolding kid
  one_of {b} {n} {h} k s w e c =
      let z = shape k w e in
      let x = split b z.enter z.enters n s [] (kind_of k).listed (node_at nodes n).kids n h (rw c at z.walked) in
      record { mid = x.mid; first = x.first; ends = left_le z [] _ x.mid x.rest }

  pub two_of : {b n h : ℕ} (k : ℕ) (s t : Slot) → Sub (suc b) n h → kind nodes n ≡ k → (kind_of k).counted ≡ s ∷ t ∷ [] → Two b n s t h
  unfolding kid
  two_of {b} {n} {h} k s t w e c =
      let z = shape k w e in
      let ks = (node_at nodes n).kids in
      let x = split b z.enter z.enters n s (t ∷ []) (kind_of k).listed ks n h (rw c at z.walked) in
      let y = split b z.enter z.enters n t [] (kind_of k).listed (after_first ks) x.mid h x.rest in
      record { mid = x.mid; last = y.mid; first = x.first; second = rw (after_at ks 0) at y.first; ends = left_le z [] _ y.mid y.rest }

  pub three_of : {b n h : ℕ} (k : ℕ) (s t u : Slot) → Sub (suc b) n h → kind nodes n ≡ k → (kind_of k).counted ≡ s ∷ t ∷ u ∷ [] → Three b n s t u h
  unfolding kid
  three_of {b} {n} {h} k s t u w e c =
      let z = shape k w e in
      let ks = (node_at nodes n).kids in
      let x = split b z.enter z.enters n s (t ∷ u ∷ []) (kind_of k).listed ks n h (rw c at z.walked) in
      let y = split b z.enter z.enters n t (u ∷ []) (kind_of k).listed (after_first ks) x.mid h x.rest in
      let v = split b z.enter z.enters n u [] (kind_of k).listed (after_first (after_first ks)) y.mid h y.rest in
      record {
        mid = x.mid;
        later = y.mid;
        last = v.mid;
        first = x.first;
        second = rw (after_at ks 0) at y.first;
        third = rw (after_at ks 1) at (rw (after_at (after_first ks) 0) at v.first);
        ends = left_le z [] _ v.mid v.rest;
      }

  pub items_of_lem : {b n h : ℕ} (k : ℕ) (s : Slot) → Sub (suc b) n h → kind nodes n ≡ k → (kind_of k).counted ≡ [] → (kind_of k).listed ≡ some s → Items b s (items nodes n) n h
  unfolding items
  items_of_lem {b} {n} {h} k s w e c l =
      let z = shape k w e in
      listed_items b z.enter z.enters n s (node_at nodes n).kids n h (rw (c, l) at z.walked)

  pub one_then_of : {b n h : ℕ} (k : ℕ) (s t : Slot) → Sub (suc b) n h → kind nodes n ≡ k → (kind_of k).counted ≡ s ∷ [] → (kind_of k).listed ≡ some t → OneThen b n s t h
  unfolding kid items_after
  one_then_of {b} {n} {h} k s t w e c l =
      let z = shape k w e in
      let ks = (node_at nodes n).kids in
      let x = split b z.enter z.enters n s [] (some t) ks n h (rw (c, l) at z.walked) in
      record { mid = x.mid; first = x.first; rest = listed_items b z.enter z.enters n t (after_first ks) x.mid h x.rest }

-- ---- the whole tree
-- where the walk accepts all nodes, it has met the last of them
pub walked_all : (nodes : List Node) → judge_tree (accepted nodes) ≡ accepted nodes → (h : ℕ) × (walk_to nodes 255 0 ≡ met h) × (h + 1 ≡ length nodes)
unfolding judge_tree whole_tree
walked_all nodes e = go (walk_to nodes 255 0) refl e
  where
    last : (h : ℕ) (b : Bool) → eqb (h + 1) (length nodes) ≡ b → pick b (accepted nodes) (refused 7 (h + 1)) ≡ accepted nodes → h + 1 ≡ length nodes
    last h true i e = eqb-true (h + 1) (length nodes) i
    last h false i e = let z : ◌≡◌ {A = ℕ} 0 1 = cc in absurd (omega arith)

    go : (w : Walked) → walk_to nodes 255 0 ≡ w → whole_tree nodes w ≡ accepted nodes → (h : ℕ) × (walk_to nodes 255 0 ≡ met h) × (h + 1 ≡ length nodes)
    go (met h) w e = (h, w, last h (eqb (h + 1) (length nodes)) refl e)
    go (stopped number place) w e = let z : ◌≡◌ {A = ℕ} 0 1 = cc in absurd (omega arith)
