-- While entries are merged they name sets that there are, and the sets stay a forest. Assumes nothing.
use mathlib.Core.Path.{◌≡◌, refl}
use mathlib.Core.List.{List, [], ◌∷◌}
use mathlib.Core.Option.{Option, none, some}
use Prim.Native.Nat.{ℕ, zero, suc, ◌+◌, ◌≤◌, ◌<◌}
use native.Mathlib.Omega.{arith}
use lib.ListN.{length, get_or, set, length-append, length-set}
use Rattle.spec.specs.Basics.{Text, ExprId}
use Rattle.spec.specs.Module.{Pointer, BindingValue, NameKind}
use Rattle.spec.specs.Steps.{◌>>=◌, give, asks}
use Rattle.spec.specs.State.{SetId, MergingEntry, static, source, dynamic, State, empty, alloc_name, add_duplicate, new_set, set_entries, add_entry, set_entry}
use Rattle.spec.specs.Scopes.{one_or_none}
use Rattle.spec.specs.Merge.{find, entry_at, nested_in, with_value, with_nested, nested_at, name_key, merge_value_at, merge_static_value, new_nested, nested_or, nested_static_at, get_or_create_nested_static}
use Rattle.spec.proofs.general.Sums.{All, all_append, all_map}
use Rattle.spec.proofs.once.Weights.{NamesSets, Known}
use Rattle.spec.proofs.steps.Forest.{NestedOnce}
use Rattle.spec.proofs.once.Merging.{names_more, with_value_set, with_value_nested}
use Rattle.spec.proofs.steps.Adds.{Over, over_set, merged_entry}
use Rattle.spec.proofs.steps.RoomMerging.{value_merges, nested_finds, nested_there}

pub record Standing (st : State) : Type 0 where
  pub known : Known st
  pub forest : NestedOnce (length st.sets) st.entries

pub standing_empty : Standing empty
standing_empty = record { known = tt; forest = record { all = tt; once = λ k. omega arith } }

-- it is about the sets and the entries alone
pub standing_same : (st after : State) → after.sets ≡ st.sets → after.entries ≡ st.entries → Standing st → Standing after
standing_same st after p q h = record { known = rw (p, q) h.known; forest = rw (p, q) h.forest }

-- sets that stand, as sets on top of none
on_nothing : (st : State) → Standing st → Over [] [] st
on_nothing st h = record { fine = h.forest; under = tt; above = omega arith; sets_kept = refl; entries_kept = refl }

-- ---- how much is added
-- a value: a name and an entry, or a diagnostic
pub record ValueAdded (st after : State) : Type 0 where
  pub exprs_same : after.exprs ≡ st.exprs
  pub sets_same : after.sets ≡ st.sets
  pub names_few : length after.names ≤ length st.names + 1
  pub diagnostics_few : length after.diagnostics ≤ length st.diagnostics + 1
  pub lost_few : length after.lost ≤ length st.lost + 1
  pub entries_few : length after.entries ≤ length st.entries + 1

pub value_adds : (s : SetId) (key : Text) (p : Pointer) (v : BindingValue) (st : State) → ValueAdded st (merge_static_value s key p v st).1
unfolding merge_static_value merge_value_at name_key alloc_name add_duplicate add_entry set_entry set_entries entry_at ◌>>=◌ asks
value_adds s key p v st = go (find s key st)
  where
    go : (r : Option ℕ) → ValueAdded st (merge_value_at s key p v r st).1
    go none = record {
      exprs_same = refl;
      sets_same = refl;
      names_few = simp length-append (omega arith);
      diagnostics_few = omega arith;
      lost_few = omega arith;
      entries_few = simp length-append (omega arith);
    }
    go (some i) = record {
      exprs_same = refl;
      sets_same = refl;
      names_few = omega arith;
      diagnostics_few = simp length-append (omega arith);
      lost_few = simp length-append (omega arith);
      entries_few = simp length-set (omega arith);
    }

-- a nested set: at most one set, with a name and an entry where the key is new
pub record NestedAdded (st after : State) : Type 0 where
  pub exprs_same : after.exprs ≡ st.exprs
  pub diagnostics_same : after.diagnostics ≡ st.diagnostics
  pub lost_same : after.lost ≡ st.lost
  pub names_few : length after.names ≤ length st.names + 1
  pub sets_few : length after.sets ≤ length st.sets + 1
  pub sets_more : length st.sets ≤ length after.sets
  pub entries_few : length after.entries ≤ length st.entries + 1

pub nested_adds : (s : SetId) (key : Text) (p : Pointer) (st : State) → NestedAdded st (get_or_create_nested_static s key p st).1
unfolding get_or_create_nested_static nested_static_at nested_or new_nested new_set name_key alloc_name add_entry set_entry set_entries entry_at give ◌>>=◌ asks
nested_adds s key p st = go (find s key st)
  where
    there : (i : ℕ) (r : Option SetId) → NestedAdded st (nested_or i p r st).1
    there i none = record {
      exprs_same = refl;
      diagnostics_same = refl;
      lost_same = refl;
      names_few = omega arith;
      sets_few = simp length-append (omega arith);
      sets_more = simp length-append (omega arith);
      entries_few = simp length-set (omega arith);
    }
    there i (some t) = record {
      exprs_same = refl;
      diagnostics_same = refl;
      lost_same = refl;
      names_few = omega arith;
      sets_few = omega arith;
      sets_more = omega arith;
      entries_few = omega arith;
    }

    go : (r : Option ℕ) → NestedAdded st (nested_static_at s key p r st).1
    go none = record {
      exprs_same = refl;
      diagnostics_same = refl;
      lost_same = refl;
      names_few = simp length-append (omega arith);
      sets_few = simp length-append (omega arith);
      sets_more = simp length-append (omega arith);
      entries_few = simp length-append (omega arith);
    }
    go (some i) = there i (nested_at (some i) st)

-- ---- entries that name sets that there are
-- an item that is changed in its place
all_changed : {A : Type 0} (P Q : A → Type 0) (f : A → A) → ((x : A) → P x → Q x) → ((x : A) → P x → Q (f x)) → (xs : List A) (i : ℕ) (d : A) → All P xs → All Q (set xs i (f (get_or xs i d)))
all_changed P Q f g h [] zero d a = tt
all_changed P Q f g h [] (suc i) d a = tt
all_changed P Q f g h (x ∷ xs) zero d a = (h x a.0, all_map P Q g xs a.1)
all_changed P Q f g h (x ∷ xs) (suc i) d a = (g x a.0, all_changed P Q f g h xs i d a.1)

value_names : (c : ℕ) (v : BindingValue) (e : MergingEntry) → NamesSets 0 c e → NamesSets 0 c (with_value v e)
value_names c v e n = rw (with_value_set v e, with_value_nested v e) n

nested_names : (c : ℕ) (e : MergingEntry) → NamesSets 0 c e → NamesSets 0 (suc c) (with_nested c e)
unfolding with_nested nested_in one_or_none
nested_names c (static s k x nested value) n = ((omega arith, omega (arith, n.0.1)), ((omega arith, omega arith), tt))
nested_names c (source s e) n = ((omega arith, omega (arith, n.0.1)), tt)
nested_names c (dynamic s k v) n = ((omega arith, omega (arith, n.0.1)), tt)

-- ---- a new set, and entries that nest nothing
pub standing_set : (k : NameKind) (p : Pointer) (st : State) → Standing st → Standing (new_set k p st).1
standing_set k p st h = record {
  known = unfold new_set in all_map _ _ (names_more (omega arith) (simp length-append (omega arith))) st.entries h.known;
  forest = (over_set k p st (on_nothing st h)).fine;
}

pub standing_source : (s : SetId) (e : ExprId) (st : State) → s < length st.sets → Standing st → Standing (add_entry (source s e) st).1
standing_source s e st l h = record {
  known = unfold add_entry set_entries ◌>>=◌ asks nested_in one_or_none in all_append _ st.entries (source s e ∷ []) h.known (((omega arith, l), tt), tt);
  forest = (merged_entry (source s e) st (on_nothing st h) tt (λ k. omega (arith, h.forest.once k))).over.fine;
}

pub standing_dynamic : (s : SetId) (k v : ExprId) (st : State) → s < length st.sets → Standing st → Standing (add_entry (dynamic s k v) st).1
standing_dynamic s k v st l h = record {
  known = unfold add_entry set_entries ◌>>=◌ asks nested_in one_or_none in all_append _ st.entries (dynamic s k v ∷ []) h.known (((omega arith, l), tt), tt);
  forest = (merged_entry (dynamic s k v) st (on_nothing st h) tt (λ n. omega (arith, h.forest.once n))).over.fine;
}

-- ---- a static value
value_known : (s : SetId) (key : Text) (p : Pointer) (v : BindingValue) (st : State) → s < length st.sets → Known st → Known (merge_static_value s key p v st).1
unfolding merge_static_value merge_value_at name_key alloc_name add_duplicate add_entry set_entry set_entries entry_at nested_in one_or_none ◌>>=◌ asks
value_known s key p v st l h = go (find s key st)
  where
    go : (r : Option ℕ) → Known (merge_value_at s key p v r st).1
    go none = all_append _ st.entries (static s key _ none (some v) ∷ []) h (((omega arith, l), tt), tt)
    go (some i) = all_changed _ _ (with_value v) (λ e n. n) (value_names _ v) st.entries i (source 0 0) h

pub standing_value : (s : SetId) (key : Text) (p : Pointer) (v : BindingValue) (st : State) → s < length st.sets → Standing st → Standing (merge_static_value s key p v st).1
standing_value s key p v st l h = record {
  known = value_known s key p v st l h.known;
  forest = ((value_merges {first = []} {old = []} s key p v (omega arith)).from st (on_nothing st h) l).over.fine;
}

-- ---- a nested set
nested_known : (s : SetId) (key : Text) (p : Pointer) (st : State) → s < length st.sets → Known st → Known (get_or_create_nested_static s key p st).1
unfolding get_or_create_nested_static nested_static_at nested_or new_nested new_set name_key alloc_name add_entry set_entry set_entries entry_at give nested_in one_or_none ◌>>=◌ asks
nested_known s key p st l h = go (find s key st)
  where
    longer : length (new_nested p st).1.sets ≡ suc (length st.sets)
    longer = simp length-append (omega arith)

    still : All (NamesSets 0 (suc (length st.sets))) st.entries
    still = all_map _ _ (names_more (omega arith) (omega arith)) st.entries h

    there : (i : ℕ) (r : Option SetId) → Known (nested_or i p r st).1
    there i none = rw longer (all_changed _ _ (with_nested (length st.sets)) (names_more (omega arith) (omega arith)) (nested_names (length st.sets)) st.entries i (source 0 0) h)
    there i (some t) = h

    go : (r : Option ℕ) → Known (nested_static_at s key p r st).1
    go none = rw longer (all_append _ st.entries (static s key _ (some (length st.sets)) none ∷ []) still (((omega arith, omega arith), ((omega arith, omega arith), tt)), tt))
    go (some i) = there i (nested_at (some i) st)

pub standing_nested : (s : SetId) (key : Text) (p : Pointer) (st : State) → s < length st.sets → Standing st → Standing (get_or_create_nested_static s key p st).1
standing_nested s key p st l h = record {
  known = nested_known s key p st l h.known;
  forest = ((nested_finds {first = []} {old = []} s key p (omega arith)).from st (on_nothing st h) l).over.fine;
}

-- the set that it gives is one of those after it
pub nested_given : (s : SetId) (key : Text) (p : Pointer) (st : State) → s < length st.sets → Standing st
    → (get_or_create_nested_static s key p st).0 < length (get_or_create_nested_static s key p st).1.sets
nested_given s key p st l h = (nested_finds {first = []} {old = []} s key p (omega arith)).below st (on_nothing st h) l

-- the set that is nested at a key is one of the sets
pub nested_below : (s : SetId) (key : Text) (st : State) (t : SetId) → Standing st → nested_at (find s key st) st ≡ some t → t < length st.sets
nested_below s key st t h e = (nested_there {first = []} {old = []} s key st t (on_nothing st h) (omega arith) e).1
