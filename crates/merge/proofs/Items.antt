-- The bindings of a set as items, and its entries as the items that they become. Assumes nothing.
use mathlib.Core.Path.{◌≡◌, refl, ap, ◌∙◌}
use mathlib.Core.Bool.{true, and-eq-true_iff}
use mathlib.Core.List.{List, [], ◌∷◌, ◌++◌, map}
use mathlib.Core.Option.{Option, none, some}
use Prim.Native.Nat.{ℕ, ◌+◌}
use native.Mathlib.Omega.{arith}
use lib.ListN.{length}
use Rattle.spec.specs.Basics.{ExprId, NameId}
use Rattle.spec.specs.Module.{BindingValue, Bindings}
use Rattle.spec.specs.Steps.{◌>>=◌, give, asks, each}
use Rattle.spec.specs.State.{SetId, MergingEntry, State, Low, source}
use Rattle.spec.specs.Merge.{Static, statics_of, sources_of, dynamics_of, finish_static, finish_with}
use Rattle.spec.proofs.sets.Loads.{static_load, load_in, loads_parts}
use Rattle.spec.proofs.general.Sums.{sum_by, sum_append}
use Rattle.layout.specs.Exprs.{Item, child, children, statics, dynamics, bindings}
use Rattle.soundness.specs.Sound.{tag_fits}
use Rattle.store.specs.Work.{tag_for, suits}
use Rattle.open_sets.specs.Ranks.{static_entry, dynamic_entry, in_classes, segment}
use Rattle.merge.specs.Finishes.{static_item, dynamic_item, binding_items, finish_entry, value_load, entry_load}

-- ---- the bindings of items
-- of dynamics alone
statics_last : (ds : List (ExprId × ExprId)) → statics (map dynamic_item ds) ≡ []
unfolding statics dynamic_item
statics_last [] = refl
statics_last (d ∷ ds) = statics_last ds

children_last : (ds : List (ExprId × ExprId)) → children (map dynamic_item ds) ≡ []
unfolding children dynamic_item
children_last [] = refl
children_last (d ∷ ds) = children_last ds

dynamics_last : (ds : List (ExprId × ExprId)) → dynamics (map dynamic_item ds) ≡ ds
unfolding dynamics dynamic_item
dynamics_last [] = refl
dynamics_last (d ∷ ds) = ap (λ z. d ∷ z) (dynamics_last ds)

-- with sources before them
statics_sources : (es : List ExprId) (is : List Item) → statics (map child es ++ is) ≡ statics is
unfolding statics
statics_sources [] is = refl
statics_sources (e ∷ es) is = statics_sources es is

dynamics_sources : (es : List ExprId) (is : List Item) → dynamics (map child es ++ is) ≡ dynamics is
unfolding dynamics
dynamics_sources [] is = refl
dynamics_sources (e ∷ es) is = dynamics_sources es is

children_sources : (es : List ExprId) (is : List Item) → children is ≡ [] → children (map child es ++ is) ≡ es
unfolding children
children_sources [] is h = h
children_sources (e ∷ es) is h = ap (λ z. e ∷ z) (children_sources es is h)

-- with statics before those
children_statics : (xs : List (NameId × BindingValue)) (is : List Item) → children (map static_item xs ++ is) ≡ children is
unfolding children static_item
children_statics [] is = refl
children_statics (x ∷ xs) is = children_statics xs is

dynamics_statics : (xs : List (NameId × BindingValue)) (is : List Item) → dynamics (map static_item xs ++ is) ≡ dynamics is
unfolding dynamics static_item
dynamics_statics [] is = refl
dynamics_statics (x ∷ xs) is = dynamics_statics xs is

statics_first : (xs : List (NameId × BindingValue)) (is : List Item) → statics is ≡ [] → statics (map static_item xs ++ is) ≡ xs
unfolding statics static_item
statics_first [] is h = h
statics_first (x ∷ xs) is h = ap (λ z. x ∷ z) (statics_first xs is h)

-- THEOREM. The items of bindings say what the bindings are.
pub bindings_items : (b : Bindings) → bindings (binding_items b) ≡ b
unfolding bindings binding_items
bindings_items b =
    let last = map dynamic_item b.dynamics in
    let others = map child b.inherit_froms ++ last in
    rw (
      statics_first b.statics others (statics_sources b.inherit_froms last ∙ statics_last b.dynamics),
      children_statics b.statics others ∙ children_sources b.inherit_froms last (children_last b.dynamics),
      dynamics_statics b.statics others ∙ (dynamics_sources b.inherit_froms last ∙ dynamics_last b.dynamics),
    )

-- ---- the entries of a set, one after the other
module _ (f : SetId → Low ExprId) (s : SetId) where
  dynamics_become : (ds : List (ExprId × ExprId)) (st : State) → each (finish_entry f) (map (dynamic_entry s) ds) st ≡ (map dynamic_item ds, st)
  unfolding each finish_entry dynamic_item give ◌>>=◌
  dynamics_become [] st = refl
  dynamics_become (d ∷ ds) st = ap (λ z. (dynamic_item d ∷ z.0, z.1)) (dynamics_become ds st)

  others_become : (es : List ExprId) (ds : List (ExprId × ExprId)) (st : State) → each (finish_entry f) (map (source s) es ++ map (dynamic_entry s) ds) st ≡ (map child es ++ map dynamic_item ds, st)
  unfolding each finish_entry give ◌>>=◌
  others_become [] ds st = dynamics_become ds st
  others_become (e ∷ es) ds st = ap (λ z. (child e ∷ z.0, z.1)) (others_become es ds st)

  -- the state changes with the statics alone
  classes_become : (xs : List Static) (es : List ExprId) (ds : List (ExprId × ExprId)) (st : State)
      → each (finish_entry f) (in_classes s xs es ds) st ≡ (map static_item (each (finish_static f) xs st).0 ++ (map child es ++ map dynamic_item ds), (each (finish_static f) xs st).1)
  unfolding in_classes each finish_entry finish_static static_item give ◌>>=◌
  classes_become [] es ds st = others_become es ds st
  classes_become (x ∷ xs) es ds st =
      let y = finish_static f x st in
      ap (λ z. (static_item y.0 ∷ z.0, z.1)) (classes_become xs es ds y.1)

  -- THEOREM. Finishing the entries of a set in the order of the run gives the items of its bindings.
  pub segment_becomes : (st : State) → each (finish_entry f) (segment s st.entries) st ≡ (binding_items (finish_with f s st).0, (finish_with f s st).1)
  unfolding finish_with binding_items give asks ◌>>=◌
  segment_becomes st = classes_become (statics_of s st.entries) (sources_of s st.entries) (dynamics_of s st.entries) st

-- ---- and what they take
module _ (w : SetId → ℕ) where
  static_takes_lem : (nested : Option SetId) (v : Option BindingValue) → 1 + value_load w nested v ≡ static_load w nested v
  unfolding value_load
  static_takes_lem (some u) v = refl
  static_takes_lem none (some v) = refl
  static_takes_lem none none = refl

  module _ (s : SetId) where
    dynamics_take : (ds : List (ExprId × ExprId)) → sum_by (entry_load w) (map (dynamic_entry s) ds) ≡ length ds
    unfolding entry_load
    dynamics_take [] = refl
    dynamics_take (d ∷ ds) = omega (arith, dynamics_take ds)

    sources_take : (es : List ExprId) → sum_by (entry_load w) (map (source s) es) ≡ length es
    unfolding entry_load
    sources_take [] = refl
    sources_take (e ∷ es) = omega (arith, sources_take es)

    statics_take : (xs : List Static) → sum_by (entry_load w) (map (static_entry s) xs) ≡ sum_by (λ (x : Static). static_load w x.nested x.value) xs
    unfolding entry_load
    statics_take [] = refl
    statics_take (x ∷ xs) = omega (arith, static_takes_lem x.nested x.value, statics_take xs)

    -- THEOREM. All together what the set's entries take.
    pub segment_takes : (es : List MergingEntry) → sum_by (entry_load w) (segment s es) ≡ sum_by (load_in s w) es
    unfolding in_classes
    segment_takes es =
        let a = map (static_entry s) (statics_of s es) in
        let b = map (source s) (sources_of s es) in
        let c = map (dynamic_entry s) (dynamics_of s es) in
        omega (
          arith,
          sum_append (entry_load w) a (b ++ c),
          sum_append (entry_load w) b c,
          statics_take (statics_of s es),
          sources_take (sources_of s es),
          dynamics_take (dynamics_of s es),
          loads_parts w s es,
        )

-- ---- items that an expression may have
pub suits_both : (sort : ℕ) (is js : List Item) → suits sort is ≡ true → suits sort js ≡ true → suits sort (is ++ js) ≡ true
unfolding suits
suits_both sort [] js a b = b
suits_both sort (i ∷ is) js a b = let z = (and-eq-true_iff (tag_fits sort (tag_for i)) (suits sort is)).0 a in rw z.0 (suits_both sort is js z.1 b)

pub suits_map : {A : Type 0} (sort : ℕ) (f : A → Item) → ((a : A) → tag_fits sort (tag_for (f a)) ≡ true) → (xs : List A) → suits sort (map f xs) ≡ true
unfolding suits
suits_map sort f h [] = refl
suits_map sort f h (x ∷ xs) = rw (h x) (suits_map sort f h xs)

-- bindings, of a sort that takes children, statics and dynamics
pub bindings_suit : (sort : ℕ) (b : Bindings) → tag_fits sort 0 ≡ true → tag_fits sort 6 ≡ true → tag_fits sort 9 ≡ true → suits sort (binding_items b) ≡ true
unfolding binding_items static_item dynamic_item tag_for
bindings_suit sort b p q r =
    suits_both sort (map static_item b.statics) _ (suits_map sort static_item (λ x. q) b.statics)
    (suits_both sort (map child b.inherit_froms) _ (suits_map sort child (λ e. p) b.inherit_froms) (suits_map sort dynamic_item (λ d. r) b.dynamics))
