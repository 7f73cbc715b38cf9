-- The walk of the definitions, one law for each way out of the code. Assumes nothing.
use Rattle.std.specs.Prelude.{Option, Some, None, Result, Ok, Err}
use Rattle.std.specs.Option.{ok_or}
use mathlib.Core.Path.{◌≡◌, refl, sym, ap, ◌∙◌, subst}
use mathlib.Core.Bool.{Bool, true, false}
use mathlib.Core.List.{List, [], ◌∷◌}
use mathlib.Core.Logic.{inl, inr}
use mathlib.Core.Option as math
use mathlib.Mathlib.Data.Bool.Basic.{and_elim_right}
use Prim.Native.Nat.{ℕ, zero, suc, ◌+◌, ◌-◌, ◌<◌}
use native.Mathlib.Omega.{arith}
use lib.ListN.{length}
use lib.Dec.{ltb}
use borrow.Author.Tests.{eq-eqb, ne_eqb}
use Rattle.spec.specs.Basics.{NodeId}
use Rattle.spec.specs.Kinds as Kinds
use Rattle.spec.specs.Kinds.{kind_of, takes}
use Rattle.spec.specs.Sheet.{Node, all_below}
use Rattle.spec.specs.Tree as spec
use Rattle.spec.specs.Tree.{node_at, met, stopped, then_walk, count_fits, kid_fits, walk_kids, walk_node, walk_to}
use Rattle.refusals.specs.Numbers.{number_of}
use Rattle.refusals.specs.declared.refusal.Refusal.{Refusal}
use Rattle.refusals.specs.declared.refusal.Refusal.TheVariants.{MisplacedKid}
use Rattle.module.specs.SyntaxKinds.{number_of_syntax}
use Rattle.tree.proofs.NodeLaws.{below_head}
use Rattle.tree.specs.Slots.{slot_of}
use Rattle.tree.specs.Places.{counted_of, listed_of, Fills, Skips, Opens}
use Rattle.sheet.specs.Kids.{kid_of}
use Rattle.tree.specs.Nodes.{nodes_in, kids_in, Kids, Read, After}
use Rattle.tree.specs.Walk.{Walks, entering, entered, kids_walk, TodoStands, Steps}
use Rattle.tree.specs.declared.slots.Slot.{Slot}
use Rattle.tree.specs.declared.places.Places.{Places}
use Rattle.tree.specs.declared.nodes.Lines.{Lines}
use Rattle.tree.specs.declared.walk.Front.{Front}
use Rattle.sheet.specs.declared.faults.SheetRefused.{SheetRefused}
use Rattle.tree.specs.declared.walk.Todo.{Todo}

-- ---- answers
module _ (s : List ℕ) (n : NodeId) (why : Refusal) (r : SheetRefused) (e : (r.why ≡ why) × (r.place ≡ n)) where
  same_stop : stopped (number_of r.why) r.place ≡ stopped (number_of why) n
  same_stop = rw (e.0, e.1) refl

  pub stops : {w : spec.Walked} → w ≡ stopped (number_of why) n → Walks s w (Err r)
  stops h = record { same = same_stop ∙ sym h; moved = tt }

pub walks_as : {s : List ℕ} {v w : spec.Walked} {r : Result Front SheetRefused} → v ≡ w → Walks s v r → Walks s w r
walks_as e h = record { same = h.same ∙ e; moved = h.moved }

-- ---- the node
module _ (ns : List Node) (left : ℕ) (n : NodeId) where
  walk_is : (l : ℕ) → l ≡ left → walk_to ns left n ≡ walk_node ns (entering ns left n) n
  unfolding walk_to entering
  walk_is zero e = rw (sym e)
  walk_is (suc l) e = rw (sym e)

  abbrev on_count : Bool → spec.Walked
  on_count b =
      elim b [
        | true ↦ walk_kids ns (entering ns left n) n (kind_of (node_at ns n).kind).counted (kind_of (node_at ns n).kind).listed (node_at ns n).kids n
        | false ↦ stopped 4 n
      ]

  pub by_count : (b : Bool) → b ≡ count_fits (node_at ns n).kind (length (node_at ns n).kids) → on_count b ≡ walk_to ns left n
  unfolding walk_node
  by_count b e = ap on_count e ∙ sym (walk_is left refl)

module _ (s : List ℕ) (left : ℕ) (n : NodeId) (r : Lines) (h : Read s n r) (kids : ℕ) (count : kids ≡ length (kids_in r.kids.now)) where
  counts : (b : Bool) → b ≡ count_fits (number_of_syntax r.kind) kids → b ≡ count_fits (node_at (nodes_in s) n).kind (length (node_at (nodes_in s) n).kids)
  counts b e = rw (← h.kind, ← h.kids, ← count) e

  -- 4: the count is wrong
  pub miscounted : false ≡ count_fits (number_of_syntax r.kind) kids → walk_to (nodes_in s) left n ≡ stopped 4 n
  miscounted e = sym (by_count (nodes_in s) left n false (counts false e))

  -- else the kids are walked
  pub kids_walked : true ≡ count_fits (number_of_syntax r.kind) kids → (p : Places) → Fills p (kind_of (number_of_syntax r.kind))
      → kids_walk s left n (record { places = p; front = record { highest = n; next = r.next } }) (kids_in r.kids.now) ≡ walk_to (nodes_in s) left n
  unfolding kids_walk
  kids_walked e p f = rw (f.counted, f.listed, h.kind, h.kids) (by_count (nodes_in s) left n true (counts true e))

-- ---- a kid
module _ (ns : List Node) (left : ℕ) (n : NodeId) (slot : Kinds.Slot) (k highest : ℕ) where
  abbrev on_fit : Bool → spec.Walked
  on_fit b = elim b [ true ↦ entering ns left n k | false ↦ stopped 5 n ]

  by_fit : (b : Bool) → kid_fits ns slot k highest ≡ b → entered ns left n slot k highest ≡ on_fit b
  unfolding entered
  by_fit b e = ap on_fit e

  -- 5: not one above the highest met
  pub misnumbered : (k ≡ highest + 1 → ⊥) → entered ns left n slot k highest ≡ stopped 5 n
  unfolding kid_fits
  misnumbered e = by_fit false (rw (ne_eqb k (highest + 1) e))

  fitting : k ≡ highest + 1 → kid_fits ns slot k highest ≡ takes slot (node_at ns k).kind
  unfolding kid_fits
  fitting e = rw (eq-eqb k (highest + 1) e)

  -- 5: of a kind that the slot does not take
  pub misplaced : k ≡ highest + 1 → false ≡ takes slot (node_at ns k).kind → entered ns left n slot k highest ≡ stopped 5 n
  misplaced e t = by_fit false (fitting e ∙ sym t)

  placed : k ≡ highest + 1 → true ≡ takes slot (node_at ns k).kind → entered ns left n slot k highest ≡ entering ns left n k
  placed e t = by_fit true (fitting e ∙ sym t)

  -- 6: no level is left
  pub too_deep : k ≡ highest + 1 → true ≡ takes slot (node_at ns k).kind → left ≡ 0 → entered ns left n slot k highest ≡ stopped 6 n
  unfolding entering
  too_deep e t z = placed e t ∙ rw z

  below : (l m : ℕ) → l ≡ suc m → entering ns l n k ≡ walk_to ns m k
  unfolding entering
  below l m e = rw e

  pub goes_in : k ≡ highest + 1 → true ≡ takes slot (node_at ns k).kind → (left ≡ 0 → ⊥) → walk_to ns (left - 1) k ≡ entered ns left n slot k highest
  goes_in e t z = sym (placed e t ∙ below left (left - 1) (omega (arith, z)))

-- ---- the kids that are left
as_given : {A : Type 0} (o : Option A) (r w : SheetRefused) → ◌≡◌ {A = Result A SheetRefused} (Err w) (ok_or o r) → o ≡ None → w ≡ r
as_given {A = A} o r w q z = let h : ◌≡◌ {A = Result A SheetRefused} (Err w) (Err r) = rw z at q in cc

then_entered : (a : spec.Walked) (n : NodeId) (f : ℕ → spec.Walked) (b : Bool)
    → ◌≡◌ {A = spec.Walked} (elim b [ true ↦ then_walk a f | false ↦ stopped 5 n ]) (then_walk (elim b [ true ↦ a | false ↦ stopped 5 n ]) f)
unfolding then_walk
then_entered a n f true = refl
then_entered a n f false = refl

module _ (s : List ℕ) (left : ℕ) (n : NodeId) (t : Todo) where
  abbrev on : List Kinds.Slot → math.Option Kinds.Slot → List (math.Option NodeId) → ℕ → spec.Walked
  on = walk_kids (nodes_in s) (entering (nodes_in s) left n) n

  start : {counted : List Kinds.Slot} {listed : math.Option Kinds.Slot} → counted_of t.places ≡ counted → listed_of t.places ≡ listed
      → (kids : List (math.Option NodeId)) → kids_walk s left n t kids ≡ on counted listed kids t.front.highest
  unfolding kids_walk
  start c l kids = rw (c, l)

  -- no kid is left
  pub ended : (v : List ℕ) → kids_in v ≡ [] → TodoStands s t → Walks s (kids_walk s left n t (kids_in v)) (Ok t.front)
  unfolding walk_kids kids_walk
  ended v e h = record { same = rw e refl; moved = h }

  -- ---- an absent kid
  pub skipped : (kid : Option ℕ) → kid ≡ None → (o : Option Places) → Skips t.places o → (q : Places) → o ≡ Some q → TodoStands s t
      → Steps s left n kid t (Ok (record { places = q; front = t.front }))
  unfolding walk_kids kids_walk
  skipped kid z o e q a h = let f = subst (Skips t.places) a e in ((λ kids. rw (z, f.0.1, f.1) refl), h)

  absent_item : (o : Option Places) → Skips t.places o → o ≡ None → (kids : List (math.Option NodeId)) → kids_walk s left n t (math.none ∷ kids) ≡ stopped 5 n
  unfolding walk_kids
  absent_item o e z kids = start (subst (Skips t.places) z e) refl (math.none ∷ kids)

  pub no_place : (kid : Option ℕ) → kid ≡ None → (o : Option Places) → Skips t.places o
      → (r : SheetRefused) → (r.why ≡ MisplacedKid) × (r.place ≡ n) → (w : SheetRefused) → Err w ≡ ok_or o r → o ≡ None → Steps s left n kid t (Err w)
  no_place kid z o e r p w q a kids =
      let same : w ≡ r = as_given o r w q a in
      rw (z, same) (same_stop s n MisplacedKid r p ∙ sym (absent_item o e a kids))

  -- ---- a kid that is there
  beyond_places : (o : Option (Slot × Places)) → Opens t.places o → o ≡ None → (k : NodeId) (kids : List (math.Option NodeId))
      → kids_walk s left n t (math.some k ∷ kids) ≡ stopped 5 n
  unfolding walk_kids
  beyond_places o e z k kids = let h = subst (Opens t.places) z e in start h.0 h.1 (math.some k ∷ kids)

  pub no_slot : (kid : Option ℕ) (k : ℕ) → kid ≡ Some k → (o : Option (Slot × Places)) → Opens t.places o
      → (r : SheetRefused) → (r.why ≡ MisplacedKid) × (r.place ≡ n) → (w : SheetRefused) → Err w ≡ ok_or o r → o ≡ None → Steps s left n kid t (Err w)
  no_slot kid k z o e r p w q a kids =
      let same : w ≡ r = as_given o r w q a in
      rw (z, same) (same_stop s n MisplacedKid r p ∙ sym (beyond_places o e a k kids))

  module _ (k : NodeId) (x : Slot × Places) (e : Opens t.places (Some x)) where
    abbrev after : math.Option Kinds.Slot → List Kinds.Slot → List (math.Option NodeId) → spec.Walked
    after l c kids = then_walk (entered (nodes_in s) left n (slot_of x.0) k t.front.highest) (on c l kids)

    into_counted : counted_of t.places ≡ slot_of x.0 ∷ counted_of x.1 → (kids : List (math.Option NodeId))
        → kids_walk s left n t (math.some k ∷ kids) ≡ after (listed_of t.places) (counted_of x.1) kids
    unfolding walk_kids entered
    into_counted c kids = start c refl (math.some k ∷ kids) ∙ then_entered _ n _ (kid_fits (nodes_in s) (slot_of x.0) k t.front.highest)

    into_list : (counted_of t.places ≡ []) × ((counted_of x.1 ≡ []) × (listed_of t.places ≡ math.some (slot_of x.0))) → (kids : List (math.Option NodeId))
        → kids_walk s left n t (math.some k ∷ kids) ≡ after (listed_of t.places) (counted_of x.1) kids
    unfolding walk_kids entered
    into_list o kids =
        start o.0 o.1.1 (math.some k ∷ kids) ∙ (then_entered _ n _ (kid_fits (nodes_in s) (slot_of x.0) k t.front.highest) ∙ rw (o.1.0, o.1.1) refl)

    into : (kids : List (math.Option NodeId)) → kids_walk s left n t (math.some k ∷ kids) ≡ after (listed_of x.1) (counted_of x.1) kids
    into kids =
        elim e.0 [ inl c ↦ into_counted c kids | inr o ↦ into_list o kids ]
        ∙ ap (λ l. after l (counted_of x.1) kids) (sym e.1)

    met_into : (front : Front) → Walks s (entered (nodes_in s) left n (slot_of x.0) k t.front.highest) (Ok front) → (kids : List (math.Option NodeId))
        → on (counted_of x.1) (listed_of x.1) kids front.highest ≡ kids_walk s left n t (math.some k ∷ kids)
    unfolding then_walk
    met_into front h kids = sym (into kids ∙ ap (λ w. then_walk w (on (counted_of x.1) (listed_of x.1) kids)) (sym h.same))

    stopped_into : (r : SheetRefused) → Walks s (entered (nodes_in s) left n (slot_of x.0) k t.front.highest) (Err r) → (kids : List (math.Option NodeId))
        → stopped (number_of r.why) r.place ≡ kids_walk s left n t (math.some k ∷ kids)
    unfolding then_walk
    stopped_into r h kids = sym (into kids ∙ ap (λ w. then_walk w (on (counted_of x.1) (listed_of x.1) kids)) (sym h.same))

  module _ (kid : Option ℕ) (k : ℕ) (z : kid ≡ Some k) (o : Option (Slot × Places)) (e : Opens t.places o) (x : Slot × Places) (a : o ≡ Some x) where
    pub onward : (front : Front) → Walks s (entered (nodes_in s) left n (slot_of x.0) k t.front.highest) (Ok front)
        → Steps s left n kid t (Ok (record { places = x.1; front = front }))
    unfolding kids_walk
    onward front h = ((λ kids. rw z (met_into k x (subst (Opens t.places) a e) front h kids)), h.moved)

    pub stopped_in : (r : SheetRefused) → Walks s (entered (nodes_in s) left n (slot_of x.0) k t.front.highest) (Err r) → Steps s left n kid t (Err r)
    stopped_in r h kids = rw z (stopped_into k x (subst (Opens t.places) a e) r h kids)

-- some kids are walked: those that are left give what all of them give
pub record Going (s : List ℕ) (nodes left : ℕ) (n : NodeId) (t : Todo) (v : List ℕ) (u : Todo) (w : List ℕ) : Type 0 where
  pub kids : Kids w
  pub low : all_below nodes (kids_in w) ≡ true
  pub same : kids_walk s left n u (kids_in w) ≡ kids_walk s left n t (kids_in v)
  pub ready : TodoStands s u

module _ (nodes : ℕ) (v : List ℕ) (kid : Option ℕ) (w : List ℕ) (a : After v kid w) (h : all_below nodes (kids_in v) ≡ true) where
  these : all_below nodes (kid_of kid ∷ kids_in w) ≡ true
  these = rw (← a.same) h

  pub low_kid : (k : ℕ) → kid ≡ Some k → k < nodes
  low_kid k e = below_head nodes k (kids_in w) (rw e at these)

  pub low_rest : all_below nodes (kids_in w) ≡ true
  unfolding all_below
  low_rest = rest kid these
    where
      rest : (kid : Option ℕ) → all_below nodes (kid_of kid ∷ kids_in w) ≡ true → all_below nodes (kids_in w) ≡ true
      rest None h = h
      rest (Some k) h = and_elim_right (ltb k nodes) (all_below nodes (kids_in w)) h

pub going_none : {s : List ℕ} {nodes left : ℕ} {n : NodeId} {t : Todo} {v : List ℕ} → Kids v → all_below nodes (kids_in v) ≡ true → TodoStands s t → Going s nodes left n t v t v
going_none k l r = record { kids = k; low = l; same = refl; ready = r }

module _ {s : List ℕ} {nodes left : ℕ} {n : NodeId} {t u : Todo} {v w : List ℕ} (g : Going s nodes left n t v u w) where
  pub going_more : (kid : Option ℕ) (x : List ℕ) → After w kid x → (m : Todo) → Steps s left n kid u (Ok m) → Going s nodes left n t v m x
  going_more kid x a m h =
      record {
        kids = a.others;
        low = low_rest nodes w kid x a g.low;
        same = h.0 (kids_in x) ∙ (ap (kids_walk s left n u) (sym a.same) ∙ g.same);
        ready = h.1;
      }

  pub going_ends : kids_in w ≡ [] → Walks s (kids_walk s left n t (kids_in v)) (Ok u.front)
  going_ends e = walks_as g.same (ended s left n u w e g.ready)
