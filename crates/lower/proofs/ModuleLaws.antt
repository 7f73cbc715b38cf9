-- A whole module: an accepted sheet has room for all that lowering takes. Assumes nothing.
use mathlib.Core.Path.{◌≡◌, refl, ap, ◌∙◌}
use mathlib.Core.Logic.{inl, inr, ⊎_elim}
use mathlib.Core.List.{List, [], ◌∷◌}
use Prim.Native.Nat.{ℕ, ◌+◌, ◌-◌, ◌*◌, ◌≤◌}
use native.Mathlib.Omega.{arith}
use lib.ListN.{length}
use Rattle.words.specs.Words.{word}
use Rattle.spec.specs.Sheet.{accepted}
use Rattle.spec.specs.Tree.{judge}
use Rattle.spec.specs.State.{State, empty}
use Rattle.spec.specs.Lower.{lower_expr, lower_module, module_of}
use Rattle.spec.proofs.room.KeptRoom.{walk_accepts}
use Rattle.spec.proofs.tree.TreeRoom.{size_all}
use Rattle.spec.proofs.tree.Sizes.{weighs_all}
use Rattle.spec.proofs.sets.Standing.{standing_empty}
use Rattle.spec.proofs.reading.Floats.{floats_held}
use Rattle.spec.proofs.once.Linear.{at_depth}
use Rattle.spec.proofs.once.Leaves.{weightless}
use Rattle.layout.specs.Layout.{node_limit, node_count}
use Rattle.layout.specs.Rows.{cap}
use Rattle.layout.specs.Changes.{Outside, Wrote}
use Rattle.layout.specs.Regions.{writing}
use Rattle.layout.specs.Nodes.{node_in, nodes_of}
use Rattle.layout.specs.States.{state_of, module_in, waiting_of}
use Rattle.layout.proofs.RowLaws.{length_rows, cap_lim}
use Rattle.layout.proofs.Frames.{sets_kept, entries_kept, waiting_kept}
use Rattle.layout.proofs.WriteLaws.{still_then}
use Rattle.spec.proofs.sound.Lowered.{accepted_module}
use Rattle.soundness.proofs.FitLaws.{coded_fits}
use Rattle.store.proofs.CodedLaws.{fine_kept}
use Rattle.store.specs.Work.{Work, work_of, no_work, lowering, Fine, SetEntry}
use Rattle.open_sets.proofs.RankLaws.{in_order_none}
use Rattle.merge.specs.Room.{Resource, exprs, items, names, diagnostics, sets, entries, level, per_node, price, own_node}
use Rattle.merge.specs.Lowers.{Lowerable, Setting}
use Rattle.lower.specs.Sizes.{sized, below}
use Rattle.lower.specs.Parts.{LowersNode}
use Rattle.lower.specs.Whole.{Whole, LowersAll}

-- there are no more nodes than there is room for
few_nodes : (s : List ℕ) → length (nodes_of s) ≤ node_limit
unfolding nodes_of
few_nodes s = omega (arith, length_rows (node_in s) (cap (word s node_count) node_limit), cap_lim (word s node_count) node_limit)

-- with no work in it a store is ready
module _ (s : List ℕ) (fine : Fine s) (no_work_lem : work_of s ≡ no_work) where
  state_none : state_of s ≡ empty
  unfolding work_of no_work
  state_none = ap (λ (w : Work). w.lowered) no_work_lem

  ready_none : Lowerable s
  unfolding work_of no_work state_of
  ready_none = record {
    fine = fine;
    order = rw (ap (λ (x : State). x.entries) state_none, ap (λ (w : Work). w.order) no_work_lem) in_order_none;
    standing = rw state_none standing_empty;
  }

  setting_none : (sheet : List ℕ) → judge sheet ≡ accepted (nodes_of s) → Setting (nodes_of s) [] 0 (below 0 (nodes_of s)) own_node s
  unfolding work_of no_work level per_node own_node price below sized
  setting_none sheet e =
      let walked = walk_accepts sheet (nodes_of s) e in
      let l = size_all (nodes_of s) walked in
      let few = few_nodes s in
      record {
        weighs = weighs_all (nodes_of s) walked;
        floats = record { held = floats_held sheet (nodes_of s) e };
        nodes_are = refl;
        waiting_are = ap (λ (w : Work). w.waiting) no_work_lem;
        ready = ready_none;
        opened = omega arith;
        room = λ k. rw no_work_lem (go (omega (arith, l)) k);
      }
    where
      go : sized (nodes_of s) 0 ≤ node_limit → (k : Resource) → level k no_work + (per_node k * (sized (nodes_of s) 0 - 1) + own_node k) ≤ per_node k * node_limit
      go h exprs = omega arith
      go h items = omega arith
      go h names = omega arith
      go h diagnostics = omega arith
      go h sets = omega arith
      go h entries = omega arith

-- ---- what is left
module _ (s u t : List ℕ) (e : ℕ) (low : LowersNode 256 0 s e u) (put : SetEntry e u t) where
  whole_wrote : Wrote writing s t
  unfolding Outside writing lowering
  whole_wrote = record {
    size = put.wrote.size ∙ (low.whole.at (nodes_of s) (waiting_of s)).wrote.size;
    other = λ j o.
        put.wrote.other j (⊎_elim (λ z. inl (omega arith)) (λ z. inr (omega arith)) o.0, tt)
        ∙ (low.whole.at (nodes_of s) (waiting_of s)).wrote.other j (⊎_elim (λ z. inl (omega arith)) (λ z. inr (omega arith)) o.0, o.1);
  }

  -- the entry expression is no part of the work
  entry_only : Wrote ((16, 20) ∷ []) u t
  entry_only = put.wrote

  whole_lowered : (sheet : List ℕ) → judge sheet ≡ accepted (nodes_of s) → Fine s → work_of s ≡ no_work → Whole s t
  unfolding state_of lower_module module_of
  whole_lowered sheet accepts before no_work_lem =
      let nodes = nodes_of s in
      let l = (low.whole.at nodes []).does (setting_none s before no_work_lem sheet accepts) in
      let q : ◌≡◌ {A = ℕ × State} (e, state_of u) (lower_expr nodes 256 0 empty) = l.same ∙ ap (λ x. lower_expr nodes 256 0 x) (state_none s before no_work_lem) in
      let left = ((at_depth weightless nodes 256).lowers [] 0).makes empty refl tt in
      let lowered : module_in t ≡ lower_module nodes = put.entry ∙ ap (λ z. module_of z.0 z.1) q in
      let fine : Fine t = fine_kept entry_only put.still refl l.ready.fine in
      record {
        lowered = lowered;
        fine = fine;
        fits = coded_fits t fine.coded (rw lowered (accepted_module sheet nodes accepts));
        none_waits = waiting_kept entry_only put.still refl refl ∙ l.waits;
        no_sets = sets_kept entry_only refl refl ∙ (ap (λ z. z.1.sets) q ∙ left.sets);
        no_entries = entries_kept entry_only put.still refl refl ∙ (ap (λ z. z.1.entries) q ∙ left.entries);
      }

  pub lowered_all : LowersAll s t
  lowered_all = record { wrote = whole_wrote; still = still_then (low.whole.at (nodes_of s) (waiting_of s)).still put.still; does = whole_lowered }
