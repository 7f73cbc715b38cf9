-- A set of its own stands on top of the sets and entries that were there, and to finish it leaves all of them as they
-- are. Assumes nothing.
use mathlib.Core.Path.{◌≡◌, refl, sym, ◌∙◌}
use mathlib.Core.List.{List, [], ◌∷◌, ◌++◌, append-nil}
use mathlib.Core.Option.{Option, none, some}
use Prim.Native.Nat.{ℕ, zero, suc, ◌≤◌}
use native.Mathlib.Omega.{arith}
use lib.ListN.{length}
use Rattle.spec.specs.Basics.{NodeId, ExprId}
use Rattle.spec.specs.Sheet.{Node}
use Rattle.spec.specs.Steps.{◌>>=◌, give, asks, each}
use Rattle.spec.specs.Module.{Pointer, BindingValue, Made, NameKind}
use Rattle.spec.specs.State.{SetId, MergingSet, MergingEntry, State, Low, new_made, alloc_expr, alloc_missing, new_set}
use Rattle.spec.specs.Merge.{Static, new_nested, finish_value, finish_static, finish_with, finish_to, finish_expr, finish, merge_nested_attr_value, merge_entries, set_of}
use Rattle.spec.specs.Lower.{lower_expr, merge_bindings}
use Rattle.spec.proofs.general.ListLaws.{length_snoc}
use Rattle.spec.proofs.general.Sums.{All, all_map}
use Rattle.spec.proofs.once.Weights.{Between, Known}
use Rattle.spec.proofs.once.Nesting.{once_none, nested_of}
use Rattle.spec.proofs.once.Merging.{Inside, Merges}
use Rattle.spec.proofs.once.Linear.{at_depth, nested_merges, entries_merge}
use Rattle.spec.proofs.once.Leaves.{weightless, Same}

-- from a state to one with entries of later sets on top
pub record Above (st u : State) : Type 0 where
  pub more : List MergingEntry
  pub entries : u.entries ≡ st.entries ++ more
  pub later : All (λ e. length st.sets ≤ set_of e) more
  pub more_sets : List MergingSet
  pub sets : u.sets ≡ st.sets ++ more_sets

-- what is merged into a new set stands on top
above_new : (k : NameKind) (p : Pointer) (body : SetId → Low (Unit {0})) → ((t : SetId) → Merges weightless 0 t (body t)) → (st : State) → Known st → Above st ((new_set k p >>= body) st).1
unfolding new_set ◌>>=◌
above_new k p body merges st known =
    let I = ((merges (length st.sets)).merges st.entries st.sets (new_set k p st).1 known start at_top).inside in
    record { more = I.more; entries = I.entries; later = all_map _ _ (λ e n. n.0.0) I.more I.names; more_sets = I.more_sets; sets = I.sets }
  where
    at_top : Between (length st.sets) (length (new_set k p st).1.sets) (length st.sets)
    at_top = let h = length_snoc st.sets (record { pointer = p; name_kind = k }) in (omega arith, omega arith)

    start : Inside st.entries st.sets (new_set k p st).1
    start =
        record {
          more = [];
          entries = sym (append-nil st.entries);
          names = tt;
          once = once_none (nested_of []) (λ r. refl);
          more_sets = record { pointer = p; name_kind = k } ∷ [];
          sets = refl;
        }

module _ (nodes : List Node) (depth : ℕ) where
  abbrev lower : NodeId → Low ExprId
  lower m = lower_expr nodes depth m

  abbrev merge : SetId → NodeId → Low (Unit {0})
  merge s m = merge_bindings nodes depth s m

  -- THEOREM. The bindings of a let or a set are merged on top.
  pub above_bindings : (k : NameKind) (p : Pointer) (n : NodeId) (st : State) → Known st
      → Above st ((new_set k p >>= λ s. merge_entries nodes (λ m. lower_expr nodes depth m) (λ t m. merge_bindings nodes depth t m) s n) st).1
  above_bindings k p n =
      let h = at_depth weightless nodes depth in
      above_new k p (λ s. merge_entries nodes lower merge s n) (λ t. entries_merge nodes lower merge h.lowers h.merges t n)

  -- THEOREM. And so is the nested set of a key that is not static.
  pub above_nested : (p : Pointer) (attr : NodeId) (more : List NodeId) (value : Option NodeId) (st : State) → Known st
      → Above st ((new_nested p >>= λ t. merge_nested_attr_value nodes (λ m. lower_expr nodes depth m) (λ s m. merge_bindings nodes depth s m) t attr more value) st).1
  unfolding new_nested
  above_nested p attr more value =
      let h = at_depth weightless nodes depth in
      above_new _ p (λ t. merge_nested_attr_value nodes lower merge t attr more value) (λ t. nested_merges nodes lower merge h.lowers h.merges t attr more value)

-- ---- steps that leave the stacks, from any state
record Stays {A : Type 0} (p : Low A) : Type 0 where
  stays : (st : State) → Same st (p st).1

stays_then : {A B : Type 0} {p : Low A} {f : A → Low B} → Stays p → ((a : A) → Stays (f a)) → Stays (p >>= f)
unfolding ◌>>=◌
stays_then {p = p} h g = record {
  stays = λ st.
      let x = h.stays st in
      let y = (g (p st).0).stays (p st).1 in
      (y.0 ∙ x.0, y.1 ∙ x.1);
}

stays_give : {A : Type 0} (a : A) → Stays (give a)
unfolding give
stays_give a = record { stays = λ st. (refl, refl) }

stays_asks : {A : Type 0} (g : State → A) → Stays (asks g)
unfolding asks
stays_asks g = record { stays = λ st. (refl, refl) }

stays_each : {A B : Type 0} {f : A → Low B} → ((x : A) → Stays (f x)) → (xs : List A) → Stays (each f xs)
unfolding each
stays_each h [] = stays_give []
stays_each h (x ∷ xs) = stays_then (h x) λ y. stays_then (stays_each h xs) λ ys. stays_give (y ∷ ys)

stays_made : (m : Made) → Stays (new_made m)
unfolding new_made
stays_made m = record { stays = λ st. (refl, refl) }

stays_missing : Stays alloc_missing
unfolding alloc_missing
stays_missing = stays_made _

-- ---- finishing
module _ (fin : SetId → Low ExprId) (finishes : (t : SetId) → Stays (fin t)) where
  value_stays : (nested : Option SetId) (value : Option BindingValue) → Stays (finish_value fin nested value)
  unfolding finish_value
  value_stays (some t) value = stays_then (finishes t) λ e. stays_give _
  value_stays none (some v) = stays_give v
  value_stays none none = stays_then stays_missing λ e. stays_give _

  static_stays : (x : Static) → Stays (finish_static fin x)
  unfolding finish_static
  static_stays x = stays_then (value_stays x.nested x.value) λ v. stays_give _

  with_stays : (s : SetId) → Stays (finish_with fin s)
  unfolding finish_with
  with_stays s = stays_then (stays_asks _) λ es. stays_then (stays_each static_stays _) λ bs. stays_give _

to_stays : (b : ℕ) (s : SetId) → Stays (finish_to b s)
unfolding finish_to alloc_expr
to_stays zero s = stays_missing
to_stays (suc b) s = stays_then (with_stays (finish_to b) (to_stays b) s) λ bs. stays_then (stays_asks _) λ p. stays_made _

set_stays : (s : SetId) → Stays (finish s)
unfolding finish
set_stays s = stays_then (stays_asks _) λ b. with_stays (finish_to b) (to_stays b) s

expr_stays : (s : SetId) → Stays (finish_expr s)
unfolding finish_expr
expr_stays s = stays_then (stays_asks _) λ b. to_stays b s

-- THEOREM. To finish a set leaves the entries and the sets as they were, whatever they are.
pub finish_leaves : (s : SetId) (st : State) → Same st (finish s st).1
finish_leaves s st = (set_stays s).stays st

pub finish_expr_leaves : (s : SetId) (st : State) → Same st (finish_expr s st).1
finish_expr_leaves s st = (expr_stays s).stays st
