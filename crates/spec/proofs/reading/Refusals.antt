-- What is known of any refused sheet: its number is never 0, which a load returns where it refuses nothing; and its
-- place is at most the longest sheet's length, so that a word of the reply holds all of it. Assumes nothing.
use Rattle.std.specs.Prelude.{if◌then◌else◌}
use mathlib.Core.Path.{◌≡◌, refl, sym, ap, subst, ◌∙◌}
use mathlib.Core.Bool.{Bool, true, false, and-eq-true_iff}
use mathlib.Core.List.{List, [], ◌∷◌}
use mathlib.Core.Option.{Option, none, some}
use Prim.Native.Nat.{ℕ, zero, suc, ◌+◌, ◌≤◌, ◌<◌}
use native.Mathlib.Omega.{arith}
use lib.ListN.{length, get_or-eq_default}
use lib.Dec.{eqb, leb, ltb}
use borrow.Author.Tests.{leb-true, ltb-true, ltb-false}
use Rattle.spec.specs.Basics.{NodeId}
use Rattle.spec.specs.Kinds.{Slot, expression, path, attribute, entry, part, parameter, from, ident, bind, pattern_entry, takes, kind_of}
use Rattle.spec.specs.Sheet.{Node, Fault, malformed, wrong_count, wrong_kind, wrong_range, wrong_flag, wrong_kid, wrong_text, fault_number, Got, got, bad, Judged, accepted, refused, whole, node_list, read_sheet}
use Rattle.spec.specs.Tree.{Walked, met, stopped, then_walk, count_fits, nobody, node_at, kid_fits, walk_kids, walk_node, walk_to, whole_tree, judge_tree, judge}
use Rattle.spec.proofs.reading.Lines.{number_within}
use Rattle.spec.proofs.reading.Places.{Inside, list_inside}
use Rattle.spec.proofs.reading.Reading.{accepted_sheet}

-- the number is none that says that all is well, and the place is one that there can be
abbrev Refuses : Judged → Type 0
Refuses (accepted nodes) = Unit {0}
Refuses (refused number place) = (1 ≤ number) × (place ≤ 1048576)

-- ---- the walk
-- no place takes a node that there is not
none_taken : (slot : Slot) → takes slot 0 ≡ false
unfolding takes
none_taken expression = refl
none_taken path = refl
none_taken attribute = refl
none_taken entry = refl
none_taken part = refl
none_taken parameter = refl
none_taken from = refl
none_taken ident = refl
none_taken bind = refl
none_taken pattern_entry = refl

module _ (nodes : List Node) where
  -- it meets nodes that there are, and stops at one
  abbrev Stops : Walked → Type 0
  Stops (met highest) = highest < length nodes
  Stops (stopped number place) = (1 ≤ number) × (place < length nodes)

  fits_there : (slot : Slot) (k highest : ℕ) → kid_fits nodes slot k highest ≡ true → k < length nodes
  unfolding kid_fits node_at nobody
  fits_there slot k highest e = by (ltb k (length nodes)) refl
    where
      taken : takes slot (node_at nodes k).kind ≡ true
      taken = ((and-eq-true_iff (eqb k (highest + 1)) (takes slot (node_at nodes k).kind)).0 e).1

      by : (b : Bool) → ltb k (length nodes) ≡ b → k < length nodes
      by true q = ltb-true k (length nodes) q
      by false q =
          let past : node_at nodes k ≡ nobody = get_or-eq_default nodes nobody {n = k} (ltb-false k (length nodes) q) in
          let both : true ≡ false = sym taken ∙ (ap (λ (n : Node). takes slot n.kind) past ∙ none_taken slot) in
          let z : ◌≡◌ {A = ℕ} 0 1 = cc in
          absurd (omega arith)

  then_stops : (w : Walked) (f : ℕ → Walked) → Stops w → ((h : ℕ) → h < length nodes → Stops (f h)) → Stops (then_walk w f)
  unfolding then_walk
  then_stops (met highest) f a b = b highest a
  then_stops (stopped number place) f a b = a

  module _ (enter : NodeId → Walked) (enters : (k : NodeId) → k < length nodes → Stops (enter k)) (n : NodeId) (there : n < length nodes) where
    stops_here : (number : ℕ) → 1 ≤ number → Stops (stopped number n)
    stops_here number h = (h, there)

    kids_stop : (counted : List Slot) (listed : Option Slot) (kids : List (Option NodeId)) (highest : ℕ) → highest < length nodes → Stops (walk_kids nodes enter n counted listed kids highest)
    unfolding walk_kids
    kids_stop counted listed [] highest h = h
    kids_stop (slot ∷ counted) listed (none ∷ kids) highest h = kids_stop counted listed kids highest h
    kids_stop [] listed (none ∷ kids) highest h = stops_here 5 (omega arith)
    kids_stop (slot ∷ counted) listed (some k ∷ kids) highest h = go (kid_fits nodes slot k highest) refl (kids_stop counted listed kids)
      where
        go : (b : Bool) → kid_fits nodes slot k highest ≡ b → ((h : ℕ) → h < length nodes → Stops (walk_kids nodes enter n counted listed kids h))
            → Stops (elim b [ true ↦ then_walk (enter k) (walk_kids nodes enter n counted listed kids) | false ↦ stopped 5 n ])
        go true q later = then_stops (enter k) (walk_kids nodes enter n counted listed kids) (enters k (fits_there slot k highest q)) later
        go false q later = stops_here 5 (omega arith)
    kids_stop [] none (some k ∷ kids) highest h = stops_here 5 (omega arith)
    kids_stop [] (some slot) (some k ∷ kids) highest h = go (kid_fits nodes slot k highest) refl (kids_stop [] (some slot) kids)
      where
        go : (b : Bool) → kid_fits nodes slot k highest ≡ b → ((h : ℕ) → h < length nodes → Stops (walk_kids nodes enter n [] (some slot) kids h))
            → Stops (elim b [ true ↦ then_walk (enter k) (walk_kids nodes enter n [] (some slot) kids) | false ↦ stopped 5 n ])
        go true q later = then_stops (enter k) (walk_kids nodes enter n [] (some slot) kids) (enters k (fits_there slot k highest q)) later
        go false q later = stops_here 5 (omega arith)

    node_stops : Stops (walk_node nodes enter n)
    unfolding walk_node
    node_stops = go (count_fits (node_at nodes n).kind (length (node_at nodes n).kids))
      where
        go : (b : Bool) → Stops (elim b [ true ↦ walk_kids nodes enter n (kind_of (node_at nodes n).kind).counted (kind_of (node_at nodes n).kind).listed (node_at nodes n).kids n | false ↦ stopped 4 n ])
        go true = kids_stop (kind_of (node_at nodes n).kind).counted (kind_of (node_at nodes n).kind).listed (node_at nodes n).kids n there
        go false = stops_here 4 (omega arith)

  walk_stops : (left : ℕ) (n : NodeId) → n < length nodes → Stops (walk_to nodes left n)
  unfolding walk_to
  walk_stops zero n h = node_stops (λ k. stopped 6 n) (λ k i. (omega arith, h)) n h
  walk_stops (suc left) n h = node_stops (walk_to nodes left) (walk_stops left) n h

  tree_refuses : length nodes ≤ 4096 → (w : Walked) → Stops w → Refuses (whole_tree nodes w)
  unfolding whole_tree
  tree_refuses few (met highest) a = go (eqb (highest + 1) (length nodes))
    where
      go : (b : Bool) → Refuses (if b then accepted nodes else refused 7 (highest + 1))
      go true = tt
      go false = (omega arith, omega arith)
  tree_refuses few (stopped number place) a = (a.0, omega (arith, a.1))

-- ---- the lines
fault_refuses : (f : Fault) → 1 ≤ fault_number f
unfolding fault_number
fault_refuses malformed = omega arith
fault_refuses wrong_count = omega arith
fault_refuses wrong_kind = omega arith
fault_refuses wrong_range = omega arith
fault_refuses wrong_flag = omega arith
fault_refuses wrong_kid = omega arith
fault_refuses wrong_text = omega arith

sheet_refuses : (s : List ℕ) → Refuses (read_sheet s)
unfolding read_sheet whole Inside
sheet_refuses s = go (leb (length s) 1048576) refl
  where
    lines : length s ≤ 1048576 → (g : Got (List Node)) → Inside s g → Refuses (whole s g)
    lines h (bad w at) i = (fault_refuses w, omega (arith, i))
    lines h (got ns at) i = last (eqb at (length s))
      where
        last : (b : Bool) → Refuses (if b then accepted ns else refused 2 at)
        last true = tt
        last false = (omega arith, omega (arith, i))

    go : (b : Bool) → leb (length s) 1048576 ≡ b → Refuses (if b then whole s (node_list s 0) else refused 1 0)
    go true e = lines (leb-true (length s) 1048576 e) (node_list s 0) (list_inside s)
    go false e = (omega arith, omega arith)

judge_refuses : (s : List ℕ) → Refuses (judge s)
unfolding judge judge_tree
judge_refuses s = go (read_sheet s) refl (sheet_refuses s)
  where
    go : (j : Judged) → read_sheet s ≡ j → Refuses j → Refuses (judge_tree j)
    go (accepted nodes) e a =
        let sheet = accepted_sheet s nodes e in
        let count = number_within "nodes=" wrong_count 1 4096 s 0 (length nodes) sheet.start sheet.counted in
        tree_refuses nodes count.1 (walk_to nodes 255 0) (walk_stops nodes 255 0 (omega (arith, count.0)))
    go (refused number place) e a = a

-- LAW. A sheet that is refused is refused by a number from 1 on.
pub refused_number : (s : List ℕ) (number place : ℕ) → judge s ≡ refused number place → 1 ≤ number
refused_number s number place e = (subst Refuses e (judge_refuses s)).0

-- LAW. And at a place that is no larger than the longest sheet: a byte's, or a node's number.
pub refused_place : (s : List ℕ) (number place : ℕ) → judge s ≡ refused number place → place ≤ 1048576
refused_place s number place e = (subst Refuses e (judge_refuses s)).1
