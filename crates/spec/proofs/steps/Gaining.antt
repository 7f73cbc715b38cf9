-- How much more the entries weigh when a static value is merged, or a nested set made. Assumes nothing.
use mathlib.Core.Path.{◌≡◌, refl, ap}
use mathlib.Core.Bool.{Bool, true, false, and-eq-true_iff}
use mathlib.Core.List.{List, [], ◌∷◌}
use mathlib.Core.Option.{Option, none, some}
use Prim.Native.Nat.{ℕ, ◌+◌, ◌≤◌, ◌<◌}
use native.Mathlib.Omega.{arith}
use lib.ListN.{length, get_or}
use lib.Dec.{eqb, leb}
use borrow.Author.Tests.{eqb-true}
use Rattle.words.specs.Order.{pick}
use Rattle.spec.specs.Basics.{Text, ExprId}
use Rattle.spec.specs.Module.{Pointer, BindingValue, Made}
use Rattle.spec.specs.Steps.{◌>>=◌, give, asks}
use Rattle.spec.specs.State.{SetId, MergingSet, MergingEntry, static, source, dynamic, State, Low, alloc_name, add_duplicate, new_set, set_entries, add_entry, set_entry}
use Rattle.spec.specs.Merge.{is_at, find, entry_at, with_value, with_nested, nested_at, name_key, merge_value_at, merge_static_value, new_nested, nested_or, nested_static_at, get_or_create_nested_static}
use Rattle.spec.proofs.steps.RoomMerging.{found_at_lem, value_merges, nested_finds, value_exprs, nested_exprs}
use Rattle.spec.proofs.steps.Opened.{opens, walks, form_in}
use Rattle.spec.proofs.steps.RoomWeights.{value_weighs, weighs_from, from_up, from_late, from_picked}
use Rattle.spec.proofs.steps.Weighing.{Grown, grown_same, grown_then, Sound, Gains}
use Rattle.spec.proofs.general.Sums.{sum_by, sum_append, sum_set_le}

module _ (X : List Made) (ω : ExprId → ℕ) (own : (e : ExprId) → ω e ≤ opens (form_in X e) + sum_by ω (walks (form_in X e))) where
  -- ---- a static value
  value_from_lem : (k s : ℕ) (key : Text) (v : BindingValue) (e : MergingEntry) → is_at s key e ≡ true → weighs_from ω k (with_value v e) ≡ pick (leb k s) (value_weighs ω v) 0
  unfolding is_at with_value
  value_from_lem k s key v (static t a x nested w) h = rw (eqb-true t s ((and-eq-true_iff (eqb t s) _).0 h).0) refl
  value_from_lem k s key v (source t e) h = let z : ◌≡◌ {A = ℕ} 0 1 = cc in absurd (omega arith)
  value_from_lem k s key v (dynamic t a w) h = let z : ◌≡◌ {A = ℕ} 0 1 = cc in absurd (omega arith)

  value_rest : (k s : SetId) (key : Text) (p : Pointer) (v : BindingValue) (st : State) (r : Option ℕ) → find s key st ≡ r → sum_by (weighs_from ω k) (merge_value_at s key p v r st).1.entries ≤ sum_by (weighs_from ω k) st.entries + pick (leb k s) (value_weighs ω v) 0
  unfolding merge_value_at name_key ◌>>=◌ asks alloc_name add_duplicate add_entry set_entry set_entries
  value_rest k s key p v st none e = omega (arith, sum_append (weighs_from ω k) st.entries (static s key (length st.names) none (some v) ∷ []))
  value_rest k s key p v st (some j) e = sum_set_le (weighs_from ω k) (source 0 0) (pick (leb k s) (value_weighs ω v) 0) st.entries j (with_value v (entry_at j st)) (omega (arith, value_from_lem k s key v (entry_at j st) (found_at_lem s key st j e)))

  value_sets : (s : SetId) (key : Text) (p : Pointer) (v : BindingValue) (st : State) (r : Option ℕ) → (merge_value_at s key p v r st).1.sets ≡ st.sets
  unfolding merge_value_at name_key ◌>>=◌ asks alloc_name add_duplicate add_entry set_entry set_entries
  value_sets s key p v st none = refl
  value_sets s key p v st (some j) = refl

  -- A value that is merged adds what it weighs.
  pub value_gains : {first : List MergingSet} {old : List MergingEntry} {H : Type 0} {u : ℕ} (s : SetId) (key : Text) (p : Pointer) (v : BindingValue) → length first ≤ s → (H → value_weighs ω v ≤ u) → Gains X ω own first old s H u (merge_static_value s key p v)
  unfolding merge_static_value ◌>>=◌ asks
  value_gains {first} s key p v l g = record {
    from = λ st o i.
        let e = value_sets s key p v st (find s key st) in
        record {
          sound = record {
            over = ((value_merges s key p v l).from st o.over i).over;
            owned = rw e (omega (arith, value_rest (length st.sets) s key p v st (find s key st) refl, o.owned, from_late s (length st.sets) (value_weighs ω v) i));
          };
          sets_more = rw e (omega arith);
          grown = rw (value_exprs s key p v st (find s key st)) (grown_same _);
        };
    light = λ h st o i x. omega (arith, ap length (value_sets s key p v st (find s key st)), value_rest (length first) s key p v st (find s key st) refl, g h, from_picked (leb (length first) s) (value_weighs ω v));
  }

  -- ---- a nested set
  nested_from : (k t : ℕ) (e : MergingEntry) → weighs_from ω k (with_nested t e) ≤ weighs_from ω k e + 0
  unfolding with_nested
  nested_from k t (static s a x nested w) = omega arith
  nested_from k t (source s e) = omega arith
  nested_from k t (dynamic s a w) = omega arith

  or_rest : (k m : ℕ) (p : Pointer) (st : State) (r : Option SetId) → sum_by (weighs_from ω k) (nested_or m p r st).1.entries ≤ sum_by (weighs_from ω k) st.entries
  unfolding nested_or new_nested new_set ◌>>=◌ asks give set_entry set_entries entry_at
  or_rest k m p st none = omega (arith, sum_set_le (weighs_from ω k) (source 0 0) 0 st.entries m (with_nested (length st.sets) (get_or st.entries m (source 0 0))) (nested_from k (length st.sets) (get_or st.entries m (source 0 0))))
  or_rest k m p st (some t) = omega arith

  pick_zero : (b : Bool) → pick b 0 0 ≤ 0
  pick_zero true = omega arith
  pick_zero false = omega arith

  nested_rest : (k : ℕ) (s : SetId) (key : Text) (p : Pointer) (st : State) (r : Option ℕ) → sum_by (weighs_from ω k) (nested_static_at s key p r st).1.entries ≤ sum_by (weighs_from ω k) st.entries
  unfolding nested_static_at name_key new_nested new_set ◌>>=◌ asks give alloc_name add_entry set_entries
  nested_rest k s key p st none = omega (arith, sum_append (weighs_from ω k) st.entries (static s key (length st.names) (some (length st.sets)) none ∷ []), pick_zero (leb k s))
  nested_rest k s key p st (some j) = or_rest k j p st (nested_at (some j) st)

  -- A nested set adds one, and then what is merged into it.
  pub nested_gains : {first : List MergingSet} {old : List MergingEntry} {H : Type 0} {u : ℕ} (s : SetId) (key : Text) (p : Pointer) (f : SetId → Low (Unit {0})) → length first ≤ s → ((t : SetId) → length first ≤ t → Gains X ω own first old t H u (f t)) → Gains X ω own first old s H (1 + u) (get_or_create_nested_static s key p >>= f)
  unfolding get_or_create_nested_static ◌>>=◌ asks
  nested_gains {first} {old} {H} s key p f l k = record {
    from = λ st o i.
        let y = nested_finds s key p l in
        let a = get_or_create_nested_static s key p st in
        let z = (k a.0 (y.above st o.over i)).from a.1 (made st o i) (y.below st o.over i) in
        record { sound = z.sound; sets_more = omega (arith, z.sets_more, (y.from st o.over i).sets_more); grown = grown_then (kept st) z.grown };
    light = λ h st o i x.
        let y = nested_finds s key p l in
        let a = get_or_create_nested_static s key p st in
        let z = (k a.0 (y.above st o.over i)).light h a.1 (made st o i) (y.below st o.over i) x in
        omega (arith, z, nested_rest (length first) s key p st (find s key st), (y.from st o.over i).sets_few);
  }
    where
      kept : (st : State) → Grown st.exprs (get_or_create_nested_static s key p st).1.exprs
      kept st = rw (nested_exprs s key p st (find s key st)) (grown_same _)

      made : (st : State) → Sound X ω own first old st → s < length st.sets → Sound X ω own first old (get_or_create_nested_static s key p st).1
      made st o i =
          let y = (nested_finds s key p l).from st o.over i in
          record { over = y.over; owned = omega (arith, o.owned, from_up ω (length st.sets) (length (get_or_create_nested_static s key p st).1.sets) y.sets_more st.entries, nested_rest (length (get_or_create_nested_static s key p st).1.sets) s key p st (find s key st)) }
