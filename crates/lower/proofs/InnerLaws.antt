-- A set of its own: it is opened, merged into, finished and cut off again, and the sets around it are as they were.
-- Assumes nothing.
use mathlib.Core.Path.{◌≡◌, refl, ap, ◌∙◌}
use mathlib.Core.List.{List}
use Prim.Native.Nat.{ℕ, suc, ◌+◌, ◌-◌, ◌*◌, ◌≤◌, ◌<◌}
use native.Mathlib.Omega.{arith}
use lib.ListN.{length, take}
use lib.Seq.{take-append_seam}
use Rattle.spec.specs.Basics.{NodeId, ExprId}
use Rattle.spec.specs.Sheet.{Node}
use Rattle.spec.specs.Keys.{pointer}
use Rattle.spec.specs.Module.{Pointer, NameKind, PlainAttrset}
use Rattle.module.specs.Ids.{node_of, pointer_of}
use Rattle.module.specs.Kinds.{kind_of}
use Rattle.module.specs.declared.kinds.NameKind as code_kind
use Rattle.module.specs.declared.kinds.NameKind.TheVariants as code_kinds
use Rattle.module.specs.declared.pointer.Pointer as code_pointer
use Rattle.spec.specs.Steps.{◌>>=◌, give, asks}
use Rattle.spec.specs.State.{SetId, State, Low, new_set, cut, inner}
use Rattle.spec.specs.Merge.{new_nested, finish_expr, finish, merge_nested_attr_value, merge_entries, desugar}
use Rattle.spec.specs.Merge as merging
use Rattle.spec.proofs.general.Sums.{all_map}
use Rattle.spec.proofs.once.Weights.{Known}
use Rattle.spec.proofs.steps.Forest as forest
use Rattle.spec.proofs.sets.Standing.{standing_same}
use Rattle.spec.proofs.sets.Above.{Above, above_bindings, above_nested}
use Rattle.spec.proofs.sets.Loads.{load, loads, entries_from, load_forest, loads_forest, above_few}
use Rattle.layout.specs.Layout.{node_limit}
use Rattle.layout.specs.Exprs.{Item}
use Rattle.layout.specs.Nodes.{nodes_of}
use Rattle.layout.specs.States.{sets_of, entries_of, order_of, state_of, waiting_of, used_of}
use Rattle.layout.proofs.Frames.{wrote_then}
use Rattle.layout.proofs.WriteLaws.{still_then}
use Rattle.store.specs.Work.{Work, work_of, Did}
use Rattle.open_sets.specs.Ranks.{InOrder}
use Rattle.open_sets.specs.Entries.{open_set, cut_to}
use Rattle.open_sets.proofs.RankChanges.{in_order_cut}
use Rattle.merge.specs.Room.{Resource, exprs, items, names, diagnostics, sets, entries, level, per_node, Price, price, nothing, one_set, ◌⊕◌, covers}
use Rattle.merge.specs.Lowers.{Lowerable, Setting, Lowered, Lowers, Lowering, Collecting}
use Rattle.merge.specs.Finishes.{binding_items, Begins, ExprsOnly, Finished, Finishes, Finishing, Listing}
use Rattle.merge.proofs.Steps.{nodes_still, then_open, fits}
use Rattle.merge.proofs.SetSteps.{opened, opened_below}
use Rattle.lower.specs.Sizes.{sized, sizes, place}
use Rattle.lower.specs.Reads.{attrs_left}
use Rattle.lower.specs.declared.reads.Rest.{Rest}
use Rattle.lower.specs.Parts.{lower_at, merge_at}
use Rattle.lower.proofs.WaitLaws.{all_collect}
use Rattle.module.specs.declared.ids.NodeId as rust_node_id
use Rattle.std.specs.Prelude as rust

-- ---- what stands on top, cut off
module _ {st u : State} (o : Above st u) where
  sets_back : take (length st.sets) u.sets ≡ st.sets
  sets_back = rw o.sets (take-append_seam st.sets o.more_sets)

  entries_back : take (length st.entries) u.entries ≡ st.entries
  entries_back = rw o.entries (take-append_seam st.entries o.more)

  run_back : {run : List ℕ} → Known st → InOrder u.entries run → InOrder st.entries (take (length st.entries) run)
  run_back known h = in_order_cut (length st.sets) st.entries o.more (rw o.entries at h) (all_map _ _ (λ e n. n.0.1) st.entries known) o.later

-- What finishing takes, there is for it: each open set and each entry counts as one expression and one item.
finish_few : {n r : ℕ} (st u : State) → Known st → Above st u → length st.sets ≤ length u.sets → r ≡ length st.sets → n ≤ entries_from r u.entries + (length u.sets - r)
    → n + (length st.sets + length st.entries) ≤ length u.sets + length u.entries
finish_few st u known o grows e h = let f = above_few st u known o in let i = rw e at h in omega arith

-- the set that was opened is the first after those around it
opened_is : {w : List Item} {m : ℕ} {own : Price} (k : NameKind) (p : Pointer) {s : List ℕ} {r : ℕ} {u : List ℕ} → Lowered w m own (new_set k p) s r u → r ≡ length (sets_of s)
unfolding new_set state_of
opened_is k p l = ap (λ z. z.0) l.same

-- it is merged into at once
merged_too : {nodes : List Node} {w : List Item} {m : ℕ} (k : NameKind) (p : Pointer) (body : SetId → Low (Unit {0})) {s u v : List ℕ} {r : SetId}
    → Lowers nodes w w 0 0 one_set (new_set k p) s r u → Lowers nodes w w (suc r) m nothing (body r) u tt v → Lowers nodes w w 0 m one_set (new_set k p >>= body) s tt v
unfolding covers ◌⊕◌ price one_set nothing
merged_too k p body x y = fits 0 (λ _. omega arith) refl (then_open body x (λ c l. opened_below k p l) y)

nothing_none : (q : Resource) → nothing q ≡ 0
unfolding nothing price
nothing_none exprs = refl
nothing_none items = refl
nothing_none names = refl
nothing_none diagnostics = refl
nothing_none sets = refl
nothing_none entries = refl

forest_of : {v : List ℕ} → Lowerable v → forest.NestedOnce (length (sets_of v)) (entries_of v)
unfolding state_of
forest_of h = h.standing.forest

state_cut : (x t : List ℕ) (a b : ℕ) → work_of t ≡ (cut_to a b (work_of x)).1 → state_of t ≡ (cut a b (state_of x)).1
unfolding work_of cut_to
state_cut x t a b e = ap (λ (y : Work). y.lowered) e

-- a store after the cut: the work of x, with the sets and entries of s
record Back (s x t : List ℕ) : Type 0 where
  exprs_are : (state_of t).exprs ≡ (state_of x).exprs
  names_are : (state_of t).names ≡ (state_of x).names
  diagnostics_are : (state_of t).diagnostics ≡ (state_of x).diagnostics
  lost_are : (state_of t).lost ≡ (state_of x).lost
  waiting_are : waiting_of t ≡ waiting_of x
  used_is : used_of t ≡ used_of x
  sets_are : (state_of t).sets ≡ (state_of s).sets
  entries_are : (state_of t).entries ≡ (state_of s).entries

-- The stacks cut back to what they were in s, v standing on top of it and x being v finished.
cut_off : (s v x t : List ℕ) {a b : ℕ} → Lowerable s → Above (state_of s) (state_of v) → ExprsOnly (state_of v) (state_of x) → Lowerable x → a ≡ length (sets_of s) → b ≡ length (entries_of s) → work_of t ≡ (cut_to a b (work_of x)).1
    → Back s x t
unfolding work_of state_of cut_to cut
cut_off s v x t {a} {b} ready o kept after i j e =
    let state_is : state_of t ≡ (cut a b (state_of x)).1 = ap (λ (y : Work). y.lowered) e in
    record {
      exprs_are = ap (λ (y : State). y.exprs) state_is;
      names_are = ap (λ (y : State). y.names) state_is;
      diagnostics_are = ap (λ (y : State). y.diagnostics) state_is;
      lost_are = ap (λ (y : State). y.lost) state_is;
      waiting_are = ap (λ (y : Work). y.waiting) e;
      used_is = ap (λ (y : Work). y.used) e;
      sets_are = ap (λ (y : State). y.sets) state_is ∙ (rw (i, kept.sets_same) (sets_back o));
      entries_are = ap (λ (y : State). y.entries) state_is ∙ (rw (j, kept.entries_same) (entries_back o));
    }

back_order : (s v x t : List ℕ) (a : ℕ) {b : ℕ} → Lowerable s → Above (state_of s) (state_of v) → ExprsOnly (state_of v) (state_of x) → Lowerable x → b ≡ length (entries_of s) → work_of t ≡ (cut_to a b (work_of x)).1
    → entries_of t ≡ entries_of s → InOrder (entries_of t) (order_of t)
unfolding work_of state_of cut_to
back_order s v x t a {b} ready o kept after j e same =
    let order_is : order_of t ≡ take b (order_of x) = ap (λ (y : Work). y.order) e in
    let run : InOrder (entries_of v) (order_of x) = rw kept.entries_same at after.order in
    rw (same, order_is, j) (run_back o ready.standing.known run)

-- what is spent in the end: finishing takes what the sets and entries that are cut off had counted for
back_spent : {A : Type 0} {s v x t : List ℕ} {w' : List Item} (m : ℕ) {n : ℕ} (own : Price) {p : Low A} {z : A} → ((k : Resource) → level k (work_of v) ≤ level k (work_of s) + (per_node k * m + own k))
    → Finished w' n p v z x → n + (length (state_of s).sets + length (state_of s).entries) ≤ length (state_of v).sets + length (state_of v).entries
    → Back s x t → (k : Resource) → level k (work_of t) ≤ level k (work_of s) + (per_node k * m + own k)
unfolding level work_of
back_spent {s = s} {v} {x} {t} m {n} own spent f few b exprs = omega (arith, spent exprs, f.exprs_few, ap length b.exprs_are, ap length b.sets_are, ap length b.entries_are)
back_spent {s = s} {v} {x} {t} m {n} own spent f few b items = omega (arith, spent items, f.items_few, ap length b.waiting_are, b.used_is, ap length b.sets_are, ap length b.entries_are)
back_spent {s = s} {v} {x} {t} m {n} own spent f few b names = omega (arith, spent names, ap length b.names_are, ap length f.kept.names_same)
back_spent {s = s} {v} {x} {t} m {n} own spent f few b diagnostics =
    omega (arith, spent diagnostics, ap length b.diagnostics_are, ap length f.kept.diagnostics_same, ap length b.lost_are, ap length f.kept.lost_same)
back_spent {s = s} {v} {x} {t} m {n} own spent f few b sets = omega (arith, ap length b.sets_are)
back_spent {s = s} {v} {x} {t} m {n} own spent f few b entries = omega (arith, ap length b.entries_are)

-- ---- the whole of it, from the set that is opened to the cut
module _ {A : Type 0} (k : NameKind) (p : Pointer) (body : SetId → Low (Unit {0})) (fin : SetId → Low A) where
  -- the steps one after the other, without the cut
  abbrev whole : Low A
  whole = new_set k p >>= λ i. body i >>= λ _. fin i

  cut_same : (s x t : List ℕ) {a b : ℕ} {z : A} → a ≡ length (sets_of s) → b ≡ length (entries_of s) → state_of t ≡ (cut a b (state_of x)).1
      → ◌≡◌ {A = A × State} (z, state_of x) (whole (state_of s)) → ◌≡◌ {A = A × State} (z, state_of t) (inner whole (state_of s))
  unfolding inner ◌>>=◌ asks give state_of
  cut_same s x t {a} {b} {z} i j e same = ap (λ y. (z, y)) e ∙ (rw (i, j) (ap (λ (y : A × State). (y.0, (cut (length (sets_of s)) (length (entries_of s)) y.1).1)) same))

  whole_same : (s v x : List ℕ) {r : SetId} {z : A} → r ≡ (new_set k p (state_of s)).0 → ◌≡◌ {A = Unit {0} × State} (tt, state_of v) ((new_set k p >>= body) (state_of s))
      → ◌≡◌ {A = A × State} (z, state_of x) (fin r (state_of v)) → ◌≡◌ {A = A × State} (z, state_of x) (whole (state_of s))
  unfolding ◌>>=◌
  whole_same s v x {r} {z} i same fins = fins ∙ (ap (λ y. fin r y.1) same ∙ ap (λ (y : ℕ). fin y (body (new_set k p (state_of s)).0 (new_set k p (state_of s)).1).1) i)

  -- from here on, what was merged into the new set being v
  built_from : {w w' : List Item} {m n a b : ℕ} {s v x t : List ℕ} {r : SetId} {z : A} → Lowerable s → ((q : Resource) → level q (work_of s) + (per_node q * m + one_set q) ≤ per_node q * node_limit)
      → r ≡ length (sets_of s) → r ≡ (new_set k p (state_of s)).0 → Lowered w m one_set (new_set k p >>= body) s tt v → Above (state_of s) (state_of v) → n ≤ entries_from r (entries_of v) + (length (sets_of v) - r)
      → a ≡ length (sets_of s) → b ≡ length (entries_of s) → Finishes w w' n (fin r) v z x → Did (cut_to a b) x tt t → Lowered w' m one_set (inner whole) s z t
  unfolding state_of work_of level per_node
  built_from {w} {w'} {m} {n} {a} {b} {s} {v} {x} {t} {r} {z} ready room r_is r_given l o few i j f d =
      let known : Known (state_of s) = ready.standing.known in
      let more : n + (length (sets_of s) + length (entries_of s)) ≤ length (sets_of v) + length (entries_of v) = finish_few (state_of s) (state_of v) known o l.grows r_is few in
      let begins : Begins w n v = record {
        ready = l.ready;
        waiting_are = l.waits;
        exprs_fit_lem = omega (arith, room exprs, l.spent exprs, more);
        items_fit = omega (arith, room items, l.spent items, more, ap length l.waits);
      } in
      let g : Finished w' n (fin r) v z x = f.does begins in
      let c = d.does g.ready.fine in
      let e : work_of t ≡ (cut_to a b (work_of x)).1 = ap (λ (y : Unit {0} × Work). y.1) c.0 in
      let back : Back s x t = cut_off s v x t ready o g.kept g.ready i j e in
      record {
        same = cut_same s x t i j (state_cut x t a b e) (whole_same s v x r_given l.same g.same);
        waits = back.waiting_are ∙ g.waits;
        ready = record {
          fine = c.1;
          order = back_order s v x t a ready o g.kept g.ready j e back.entries_are;
          standing = standing_same (state_of s) (state_of t) back.sets_are back.entries_are ready.standing;
        };
        spent = back_spent m one_set l.spent g more back;
        grows = rw back.sets_are (omega arith);
      }

  pub built : {nodes : List Node} {w w' : List Item} {m n a b : ℕ} {s u v x t : List ℕ} {r : SetId} {z : A} → ((st : State) → Known st → Above st ((new_set k p >>= body) st).1)
      → (forest.NestedOnce (length (sets_of v)) (entries_of v) → r < length (sets_of v) → n ≤ entries_from r (entries_of v) + (length (sets_of v) - r))
      → a ≡ length (sets_of s) → b ≡ length (entries_of s) → Did (open_set k p) s r u → Lowers nodes w w (suc r) m nothing (body r) u tt v → Finishes w w' n (fin r) v z x → Did (cut_to a b) x tt t
      → Lowers nodes w w' 0 m one_set (inner (new_set k p >>= λ i. body i >>= λ _. fin i)) s z t
  built {nodes} {w} {w'} {m} {n} {a} {b} {s} {u} {v} {x} {t} {r} {z} above few i j opens y f d = record {
    wrote = wrote_then (wrote_then merged.wrote f.wrote) d.wrote;
    still = still_then (still_then merged.still f.still) d.still;
    does = λ c. go c (merged.does c);
  }
    where
      first : Lowers nodes w w 0 0 one_set (new_set k p) s r u
      first = opened k p opens

      merged : Lowers nodes w w 0 m one_set (new_set k p >>= body) s tt v
      merged = merged_too k p body first y

      at_first_lem : Setting nodes w 0 m one_set s → Setting nodes w 0 0 one_set s
      at_first_lem c = record {
        weighs = c.weighs;
        floats = c.floats;
        nodes_are = c.nodes_are;
        waiting_are = c.waiting_are;
        ready = c.ready;
        opened = c.opened;
        room = λ q. omega (arith, c.room q);
      }

      -- where the merging begins
      at_second : Setting nodes w 0 m one_set s → Lowered w 0 one_set (new_set k p) s r u → Setting nodes w (suc r) m nothing u
      at_second c l = record {
        weighs = c.weighs;
        floats = c.floats;
        nodes_are = nodes_still s u first.still ∙ c.nodes_are;
        waiting_are = l.waits;
        ready = l.ready;
        opened = opened_below k p l;
        room = λ q. omega (arith, c.room q, l.spent q, nothing_none q);
      }

      go : Setting nodes w 0 m one_set s → Lowered w m one_set (new_set k p >>= body) s tt v → Lowered w' m one_set (inner whole) s z t
      go c l =
          let lowest = first.does (at_first_lem c) in
          let state_is : state_of v ≡ ((new_set k p >>= body) (state_of s)).1 = ap (λ q. q.1) l.same in
          let o : Above (state_of s) (state_of v) = rw state_is (above (state_of s) c.ready.standing.known) in
          let on_top = few (forest_of l.ready) (omega (arith, (y.does (at_second c lowest)).grows, opened_below k p lowest)) in
          built_from c.ready c.room (opened_is k p lowest) (ap (λ q. q.0) lowest.same) l o on_top i j f d

-- ---- the bindings of a set or a let
-- what finishing the set on top takes, as its bindings or as an expression
loads_few : (v : List ℕ) (r : SetId) → forest.NestedOnce (length (sets_of v)) (entries_of v) → r < length (sets_of v) → loads (entries_of v) (length (sets_of v)) r ≤ entries_from r (entries_of v) + (length (sets_of v) - r)
loads_few v r fine h = omega (arith, loads_forest (length (sets_of v)) (entries_of v) fine (length (sets_of v)) r h)

load_few : (v : List ℕ) (r : SetId) → forest.NestedOnce (length (sets_of v)) (entries_of v) → r < length (sets_of v) → load (entries_of v) (length (sets_of v)) r ≤ entries_from r (entries_of v) + (length (sets_of v) - r)
load_few v r fine h = load_forest (length (sets_of v)) (entries_of v) fine (length (sets_of v)) r h

-- desugar
pub desugar_lowers : (depth : ℕ) (kind : code_kind.NameKind) (n : NodeId) (p : code_pointer.Pointer) {a b : ℕ} {s u v x t : List ℕ} {r : SetId}
    → a ≡ length (sets_of s) → b ≡ length (entries_of s) → pointer_of p ≡ pointer (nodes_of s) n → Did (open_set (kind_of kind) (pointer_of p)) s r u
    → Lowering (suc r) (λ nodes. sizes nodes (merging.entries_of nodes (lower_at depth nodes) (merge_at depth nodes) n)) nothing (λ nodes. merge_entries nodes (lower_at depth nodes) (merge_at depth nodes) r n) u tt v
    → Listing (loads (entries_of v) (length (sets_of v)) r) binding_items (finish r) v x → Did (cut_to a b) x tt t
    → Collecting 0 (λ nodes. sizes nodes (merging.entries_of nodes (lower_at depth nodes) (merge_at depth nodes) n)) one_set binding_items (λ nodes. desugar nodes (lower_at depth nodes) (merge_at depth nodes) (kind_of kind) n) s t
unfolding desugar
desugar_lowers depth kind n p {s = s} {u} {v} {x} {t} {r} i j q opens y f d =
    let ns = nodes_of s in
    all_collect binding_items {r = (finish r (state_of v)).0}
    (rw (← q)
    (built (kind_of kind) (pointer_of p) (λ set. merge_entries ns (lower_at depth ns) (merge_at depth ns) set n) finish
    (above_bindings ns depth (kind_of kind) (pointer_of p) n) (loads_few v r) i j opens (y.at ns (waiting_of s)) (f.at (waiting_of s)) d))

-- the nested set of a key that is not static
pub nest_lowers : (depth : ℕ) (p : code_pointer.Pointer) (n : NodeId) (rest : Rest) (value : rust.Option rust_node_id.NodeId) {a b : ℕ} {s u v x t : List ℕ} {r : SetId} {e : ExprId}
    → a ≡ length (sets_of s) → b ≡ length (entries_of s) → Did (open_set (kind_of code_kinds.PlainAttrset) (pointer_of p)) s r u
    → Lowering (suc r) (λ nodes. sized nodes n + (sizes nodes (attrs_left nodes rest) + place nodes (node_of value))) nothing
    (λ nodes. merge_nested_attr_value nodes (lower_at depth nodes) (merge_at depth nodes) r n (attrs_left nodes rest) (node_of value)) u tt v
    → Finishing (load (entries_of v) (length (sets_of v)) r) (finish_expr r) v e x → Did (cut_to a b) x tt t
    → Lowering 0 (λ nodes. sized nodes n + (sizes nodes (attrs_left nodes rest) + place nodes (node_of value))) one_set
    (λ nodes. inner (new_nested (pointer_of p) >>= λ set. merge_nested_attr_value nodes (lower_at depth nodes) (merge_at depth nodes) set n (attrs_left nodes rest) (node_of value) >>= λ _. finish_expr set)) s e t
unfolding new_nested kind_of
nest_lowers depth p n rest value {v = v} {r = r} i j opens y f d = record {
  at = λ nodes w.
      built PlainAttrset (pointer_of p) (λ set. merge_nested_attr_value nodes (lower_at depth nodes) (merge_at depth nodes) set n (attrs_left nodes rest) (node_of value)) finish_expr
      (above_nested nodes depth (pointer_of p) n (attrs_left nodes rest) (node_of value)) (load_few v r) i j opens (y.at nodes w) (f.at w) d;
}
