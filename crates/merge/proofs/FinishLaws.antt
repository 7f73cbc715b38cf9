-- Finishing a set, function by function. Assumes nothing.
use mathlib.Core.Path.{◌≡◌, refl, sym, ap, ◌∙◌}
use mathlib.Core.Bool.{false}
use mathlib.Core.List.{List, [], ◌∷◌, ◌++◌, append_assoc, append-nil}
use mathlib.Core.Option.{Option, none, some}
use Prim.Native.Nat.{ℕ, suc, ◌+◌, ◌-◌, ◌≤◌, ◌<◌}
use native.Mathlib.Omega.{arith}
use lib.ListN.{length}
use Rattle.spec.specs.Basics.{Text, ExprId, NameId}
use Rattle.spec.specs.Module.{Pointer, BindingValue, expr, Bindings, attr_set}
use Rattle.spec.specs.Steps.{◌>>=◌, give, asks, each}
use Rattle.spec.specs.State.{SetId, MergingEntry, State, Low, new_made, alloc_expr}
use Rattle.spec.specs.State as state
use Rattle.spec.specs.Merge.{set_at, finish_value, finish_with, finish_to, finish_expr, finish}
use Rattle.spec.proofs.sets.Loads.{load, loads}
use Rattle.spec.proofs.general.Sums.{sum_by}
use Rattle.module.specs.declared.expr.Expr.TheVariants.{AttrSet}
use Rattle.layout.specs.Changes.{Wrote, Still}
use Rattle.layout.specs.Exprs.{Item, static}
use Rattle.layout.specs.States.{sets_of, entries_of, order_of, state_of, waiting_of, used_of}
use Rattle.layout.proofs.Frames.{wrote_none, wrote_then}
use Rattle.layout.proofs.WriteLaws.{still_then}
use Rattle.rows.specs.Decoded.{expr_with}
use Rattle.store.specs.Codes.{expr_made, hole_made, sort_for}
use Rattle.soundness.specs.Sound.{tag_fits}
use Rattle.store.specs.Work.{lowering, Did, Takes, take_lone, push_item}
use Rattle.open_sets.specs.Ranks.{InOrder, segment}
use Rattle.open_sets.specs.Run.{run_from, NextInRun}
use Rattle.open_sets.proofs.RunSets.{next_past}
use Rattle.merge.specs.Lowers.{Lowerable}
use Rattle.merge.specs.Finishes.{binding_items, finish_entry, only, value_load, entry_load, Begins, ExprsOnly, Finished, Finishing, Listing}
use Rattle.merge.proofs.Items.{bindings_items, segment_becomes, segment_takes, bindings_suit}
use Rattle.merge.proofs.FinishSteps.{kept_none, kept_then, order_same, begins_less, begins_then, finished_then, finished_as, finished_with, listing_of, taken, missing_taken, pushed}

-- ---- finish_value
module _ (w : SetId → ℕ) (f : SetId → Low ExprId) where
  -- a nested set wins
  pub nested_wins : (u : SetId) (v : Option BindingValue) {s t : List ℕ} {r : ExprId} → Finishing (w u) (f u) s r t → Finishing (value_load w (some u) v) (finish_value f (some u) v) s (expr r) t
  unfolding value_load finish_value
  nested_wins u v x = record { at = λ is. let y = x.at is in record { wrote = y.wrote; still = y.still; does = λ b. finished_with expr (y.does b) } }

  pub value_stays : (v : BindingValue) (s : List ℕ) → Finishing (value_load w none (some v)) (finish_value f none (some v)) s v s
  unfolding value_load finish_value give
  value_stays v s = record {
    at = λ is. record {
      wrote = wrote_none lowering s;
      still = record { same = refl; used = refl };
      does = λ b. record { same = refl; waits = b.waiting_are; ready = b.ready; kept = kept_none (state_of s); exprs_few = omega arith; items_few = omega arith };
    };
  }

  pub value_missing : {s t : List ℕ} {r : ExprId} → Did (take_lone hole_made) s r t → Finishing (value_load w none none) (finish_value f none none) s (expr r) t
  unfolding value_load finish_value
  value_missing d = record { at = λ is. record { wrote = d.wrote; still = d.still; does = λ b. finished_with expr (missing_taken b d) } }

  -- ---- finish_entry
  pub static_listed : (set : SetId) (k : Text) (x : NameId) (nested : Option SetId) (value : Option BindingValue) {s u t : List ℕ} (v : BindingValue)
      → Finishing (value_load w nested value) (finish_value f nested value) s v u → Did (push_item (static x v)) u tt t
      → Listing (entry_load w (state.static set k x nested value)) only (finish_entry f (state.static set k x nested value)) s t
  unfolding entry_load finish_entry
  static_listed set k x nested value {s} {u} {t} v y d = listing_of only (wrote_then (y.at []).wrote d.wrote) (still_then (y.at []).still d.still) (λ is b.
      let l = (y.at is).does (begins_less (omega arith) b) in
      let c : Begins is 1 u = begins_then (omega arith) b l in
      (static x v, finished_then (λ v. give (static x v)) (omega arith) l (pushed (static x v) c d)))

pub lone_listed : (i : Item) {s t : List ℕ} → Did (push_item i) s tt t → Listing 1 only (give i) s t
lone_listed i d = listing_of only d.wrote d.still (λ is b. (i, pushed i b d))

-- ---- finish
-- what is left of the entries of a set from the place j of the run on
abbrev left : SetId → List ℕ → ℕ → List MergingEntry
left set s j = run_from set (entries_of s) (order_of s) j

-- what they take, with the entries of s
abbrev left_load : ℕ → SetId → List ℕ → List ℕ → ℕ → ℕ
left_load bound set s t j = sum_by (entry_load (load (entries_of s) bound)) (left set t j)

-- more items before those that a step gave
abbrev onto : List Item → List Item × State → List Item × State
onto made z = (made ++ z.0, z.1)

-- the first entry's item is made
each_one : {A : Type 0} (f : A → Low Item) (a : A) (as' : List A) (made : List Item) (st st' : State) → (f a st).1 ≡ st' → onto made (each f (a ∷ as') st) ≡ onto (made ++ ((f a st).0 ∷ [])) (each f as' st')
unfolding each give ◌>>=◌
each_one f a as' made st st' e = rw e (ap (λ z. (z, (each f as' st').1)) (sym (append_assoc made ((f a st).0 ∷ []) (each f as' st').0)))

-- So far the items `made` wait; all the entries from i on are finished when those from j on are.
record Gone (bound : ℕ) (set : SetId) (w : List Item) (s : List ℕ) (i : ℕ) (t : List ℕ) (j : ℕ) : Type 0 where
  made : List Item
  waits : waiting_of t ≡ w ++ made
  ready : Lowerable t
  kept : ExprsOnly (state_of s) (state_of t)
  same : each (finish_entry (finish_to bound)) (left set s i) (state_of s) ≡ onto made (each (finish_entry (finish_to bound)) (left set t j) (state_of t))
  exprs_few : length (state_of t).exprs + left_load bound set s t j ≤ length (state_of s).exprs + left_load bound set s s i
  items_few : used_of t + length (waiting_of t) + left_load bound set s t j ≤ used_of s + length (waiting_of s) + left_load bound set s s i

-- The loop has come from the place i to the place j.
pub record Going (bound : ℕ) (set : SetId) (s : List ℕ) (i : ℕ) (t : List ℕ) (j : ℕ) : Type 0 where
  pub wrote : Wrote lowering s t
  pub still : Still s t
  does : (w : List Item) → Begins w (left_load bound set s s i) s → Gone bound set w s i t j

pub going_none : (bound : ℕ) (set : SetId) (s : List ℕ) (i : ℕ) → Going bound set s i s i
going_none bound set s i = record {
  wrote = wrote_none lowering s;
  still = record { same = refl; used = refl };
  does = λ w b. record { made = []; waits = b.waiting_are ∙ sym (append-nil w); ready = b.ready; kept = kept_none (state_of s); same = refl; exprs_few = omega arith; items_few = omega arith };
}

pub going_more : {bound : ℕ} {set : SetId} {s u t : List ℕ} {i j : ℕ} {e : MergingEntry} → Going bound set s i u j
    → run_from set (entries_of u) (order_of u) j ≡ e ∷ run_from set (entries_of u) (order_of u) (j + 1)
    → Listing (entry_load (load (entries_of u) bound) e) only (finish_entry (finish_to bound) e) u t → Going bound set s i t (j + 1)
unfolding state_of only
going_more {bound} {set} {s} {u} {t} {i} {j} {e} g next x = record {
  wrote = wrote_then g.wrote (x.at []).wrote;
  still = still_then g.still (x.at []).still;
  does = λ w b. go w b (g.does w b);
}
  where
    k : MergingEntry → ℕ
    k = entry_load (load (entries_of s) bound)

    f : MergingEntry → Low Item
    f = finish_entry (finish_to bound)

    go : (w : List Item) → Begins w (left_load bound set s s i) s → Gone bound set w s i u j → Gone bound set w s i t (j + 1)
    go w b h =
        let takes : entry_load (load (entries_of u) bound) e ≡ k e = ap (λ es. entry_load (load es bound) e) h.kept.entries_same in
        let before : left_load bound set s u j ≡ k e + left_load bound set s u (j + 1) = ap (sum_by k) next in
        let c : Begins (w ++ h.made) (entry_load (load (entries_of u) bound) e) u = record {
          ready = h.ready;
          waiting_are = h.waits;
          exprs_fit_lem = omega (arith, takes, before, h.exprs_few, b.exprs_fit_lem);
          items_fit = omega (arith, takes, before, h.items_few, b.items_fit, ap length h.waits, ap length b.waiting_are);
        } in
        let l = (x.at (w ++ h.made)).does c in
        let after : left set t (j + 1) ≡ left set u (j + 1) = rw (l.kept.entries_same, order_same h.ready l.ready l.kept.entries_same) in
        let item = (f e (state_of u)).0 in
        record {
          made = h.made ++ (item ∷ []);
          waits = l.waits ∙ append_assoc w h.made (item ∷ []);
          ready = l.ready;
          kept = kept_then h.kept l.kept;
          same = h.same ∙ (ap (λ as'. onto h.made (each f as' (state_of u))) next ∙ (each_one f e (left set u (j + 1)) h.made (state_of u) (state_of t) (sym (ap (λ z. z.1) l.same)) ∙ ap (λ as'. onto (h.made ++ (item ∷ [])) (each f as' (state_of t))) (sym after)));
          exprs_few = omega (arith, takes, before, ap (sum_by k) after, h.exprs_few, l.exprs_few);
          items_few = omega (arith, takes, before, ap (sum_by k) after, h.items_few, l.items_few);
        }

-- what is left is none of the set, as long as the entries are the same
going_end : {bound : ℕ} {set : SetId} {s t : List ℕ} {i j : ℕ} → Going bound set s i t j → (entries_of t ≡ entries_of s → run_from set (entries_of t) (order_of t) j ≡ [])
    → (InOrder (entries_of s) (order_of s) → run_from set (entries_of s) (order_of s) i ≡ segment set (entries_of s))
    → Listing (loads (entries_of s) bound set) binding_items (finish_with (finish_to bound) set) s t
unfolding state_of each give
going_end {bound} {set} {s} {t} {i} {j} g end begin = listing_of binding_items g.wrote g.still go
  where
    p : Low Bindings
    p = finish_with (finish_to bound) set

    go : (w : List Item) → Begins w (loads (entries_of s) bound set) s → (r : Bindings) × Finished (w ++ binding_items r) (loads (entries_of s) bound set) p s r t
    go w b =
        let k = entry_load (load (entries_of s) bound) in
        let all : left set s i ≡ segment set (entries_of s) = begin b.ready.order in
        let takes : left_load bound set s s i ≡ loads (entries_of s) bound set = ap (sum_by k) all ∙ segment_takes (load (entries_of s) bound) set (entries_of s) in
        let h = g.does w (begins_less (omega (arith, takes)) b) in
        let f = finish_entry (finish_to bound) in
        let whole : onto h.made ([], state_of t) ≡ (binding_items (p (state_of s)).0, (p (state_of s)).1) =
        sym (h.same ∙ ap (λ as'. onto h.made (each f as' (state_of t))) (end h.kept.entries_same)) ∙ (ap (λ as'. each f as' (state_of s)) all ∙ segment_becomes (finish_to bound) set (state_of s)) in
        let items : h.made ≡ binding_items (p (state_of s)).0 = sym (append-nil h.made) ∙ ap (λ z. z.0) whole in (
          (p (state_of s)).0,
          record {
            same = ap (λ z. ((p (state_of s)).0, z.1)) whole;
            waits = h.waits ∙ ap (λ z. w ++ z) items;
            ready = h.ready;
            kept = h.kept;
            exprs_few = omega (arith, takes, h.exprs_few);
            items_few = omega (arith, takes, h.items_few);
          },
        )

-- the loop has come to the end of the set
pub going_done : {bound : ℕ} {set : SetId} {s t : List ℕ} {i j : ℕ} → Going bound set s i t j → run_from set (entries_of t) (order_of t) j ≡ []
    → (InOrder (entries_of s) (order_of s) → run_from set (entries_of s) (order_of s) i ≡ segment set (entries_of s))
    → Listing (loads (entries_of s) bound set) binding_items (finish_with (finish_to bound) set) s t
going_done g end begin = going_end g (λ same. end) begin

-- or to the end of the run
pub going_past : {bound : ℕ} {set : SetId} {s t : List ℕ} {i j : ℕ} (n : ℕ) → Going bound set s i t j → n ≡ length (entries_of s) → n ≤ j
    → (InOrder (entries_of s) (order_of s) → run_from set (entries_of s) (order_of s) i ≡ segment set (entries_of s))
    → Listing (loads (entries_of s) bound set) binding_items (finish_with (finish_to bound) set) s t
unfolding NextInRun
going_past {bound} {set} {s} {t} {i} {j} n g e h begin = going_end g (λ same. next_past t j set (omega (arith, e, ap length same, h))) begin

-- ---- finish_expr
pub no_bound : (bound : ℕ) (es : List MergingEntry) (set : SetId) {s t : List ℕ} {r : ExprId} → bound ≡ 0 → Did (take_lone hole_made) s r t → Finishing (load es bound set) (finish_to bound set) s r t
unfolding load finish_to
no_bound bound es set e d = rw e (record { at = λ w. record { wrote = d.wrote; still = d.still; does = λ b. missing_taken b d } })

set_made : (bound : ℕ) (set : SetId) {s u t : List ℕ} (base : ℕ) (p : Pointer) {r : ExprId} → base ≡ length (waiting_of s) → Listing (loads (entries_of s) bound set) binding_items (finish_with (finish_to bound) set) s u
    → p ≡ (set_at set (state_of u)).pointer → Takes (sort_for (AttrSet false)) (expr_made u (AttrSet false) p) base u r t → Finishing (load (entries_of s) (suc bound) set) (finish_to (suc bound) set) s r t
unfolding load finish_to expr_made expr_with sort_for alloc_expr asks ◌>>=◌ tag_fits
set_made bound set {s} {u} {t} base p {r} first x at d = record {
  at = λ w. record {
    wrote = wrote_then (x.at []).wrote d.wrote;
    still = still_then (x.at []).still d.still;
    does = λ b.
        let l = (x.at w).does (begins_less (omega arith) b) in
        let z = taken (sort_for (AttrSet false)) (expr_made u (AttrSet false) p) (binding_items bs) (bindings_suit (sort_for (AttrSet false)) bs refl refl refl) (begins_then (omega arith) b l) (first ∙ ap length b.waiting_are) d in
        finished_then (λ bs. asks (λ st. (set_at set st).pointer) >>= λ p. alloc_expr (attr_set false bs) p) (omega arith) l (finished_as made z);
  };
}
  where
    bs : Bindings
    bs = (finish_with (finish_to bound) set (state_of s)).0

    made : new_made (expr_made u (AttrSet false) p (binding_items bs)) (state_of u) ≡ (asks (λ st. (set_at set st).pointer) >>= λ p. alloc_expr (attr_set false bs) p) (state_of u)
    made = rw (bindings_items bs, at)

pub set_finished : (bound : ℕ) (set : SetId) {s u t : List ℕ} (base : ℕ) (p : Pointer) {r : ExprId} → 0 < bound → base ≡ length (waiting_of s)
    → Listing (loads (entries_of s) (bound - 1) set) binding_items (finish_with (finish_to (bound - 1)) set) s u
    → p ≡ (set_at set (state_of u)).pointer → Takes (sort_for (AttrSet false)) (expr_made u (AttrSet false) p) base u r t → Finishing (load (entries_of s) bound set) (finish_to bound set) s r t
set_finished bound set base p h first x at d =
    let e : bound ≡ suc (bound - 1) = omega arith in
    rw e (set_made (bound - 1) set base p first x at d)

-- ---- with as many levels as there are sets
pub finished_whole : (n : ℕ) (set : SetId) {s t : List ℕ} → n ≡ length (sets_of s) → Listing (loads (entries_of s) n set) binding_items (finish_with (finish_to n) set) s t → Listing (loads (entries_of s) (length (sets_of s)) set) binding_items (finish set) s t
unfolding finish asks ◌>>=◌ state_of
finished_whole n set e x = record { at = λ w. let y = (rw e at x).at w in record { wrote = y.wrote; still = y.still; does = λ b. finished_as refl (y.does b) } }

pub nested_whole : (n : ℕ) (set : SetId) {s t : List ℕ} {r : ExprId} → n ≡ length (sets_of s) → Finishing (load (entries_of s) n set) (finish_to n set) s r t → Finishing (load (entries_of s) (length (sets_of s)) set) (finish_expr set) s r t
unfolding finish_expr asks ◌>>=◌ state_of
nested_whole n set e x = record { at = λ w. let y = (rw e at x).at w in record { wrote = y.wrote; still = y.still; does = λ b. finished_as refl (y.does b) } }
