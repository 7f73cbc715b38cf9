-- Lowering uses what it allocates once: a module's entry, with all that is walked from it, weighs no more than all
-- names and expressions. Assumes nothing.
use mathlib.Core.Path.{◌≡◌, refl, sym, ap, ◌∙◌}
use mathlib.Core.Bool.{Bool, true, false}
use mathlib.Core.List.{List, [], ◌∷◌, ◌++◌, append-nil}
use mathlib.Core.Option.{Option, none, some}
use Prim.Native.Nat.{ℕ, zero, suc, ◌+◌, ◌≤◌}
use native.Mathlib.Omega.{arith}
use lib.ListN.{length, get_or, take, length-append}
use lib.Seq.{take-append_seam}
use Rattle.spec.specs.Basics.{Text, NodeId, ExprId, NameId}
use Rattle.spec.specs.Keys.{AttrKind, static_key, dynamic_key, kind, pointer, kid, items_after, attr_kind}
use Rattle.spec.specs.Sheet.{Node}
use Rattle.spec.specs.Steps.{◌>>=◌, give, asks, when, each_of}
use Rattle.spec.specs.Module.{Pointer, BindingValue, expr, inherit, inherit_from, NameKind, Module}
use Rattle.spec.specs.State.{SetId, MergingSet, MergingEntry, static, source, dynamic, State, empty, Low, new_set, set_entries, add_entry, set_entry, cut, inner}
use Rattle.spec.specs.Scopes.{one_or_none, form, scopes_of}
use Rattle.spec.specs.Merge.{set_of, find, entry_at, nested_in, nested_at, name_key, merge_value_at, merge_static_value, new_nested, nested_or, nested_static_at, get_or_create_nested_static, finish_expr, finish, lower_opt, push_dynamic, merge_lowered, merge_into, merge_keyed, merge_attr_as, merge_attr_value, merge_step_as, merge_nested_attr_value, merge_path, merge_attrpath_val, inherit_value, inherit_as, inherit_attr, inherit_source, merge_inherit, merge_entry, merge_entries, desugar}
use Rattle.spec.specs.Lower.{lower_expr, merge_bindings, module_of, lower_module}
use Rattle.spec.specs.Demand.{HeldOnce}
use Rattle.spec.proofs.general.ListLaws.{length_snoc, get_d_behind}
use Rattle.spec.proofs.general.Sums.{sum_by, All, same, same_le, same_not, compared, sum_zero, sum_append, all_map, total, total_more, total_within}
use Rattle.spec.proofs.once.Once.{entered, walked, times_entered, held_once}
use Rattle.spec.proofs.once.Weights.{up_to, Between, NamesSets, Known, Scale, Fits, Makes, MakesWhere, lowers_next, lowers_give, lowers_asks, lowers_alloc, lowers_aside, lowers_missing, lowers_name}
use Rattle.spec.proofs.once.Lowering.{value_weight, bindings_weight, opt_lowers, as_lowers}
use Rattle.spec.proofs.once.Nesting.{MetOnce, once_none, nested_of, nested_skips, nested_all, own_of, met_weighs, own_none}
use Rattle.spec.proofs.once.Finishing.{own, set_weight, expr_finishes, finishes}
use Rattle.spec.proofs.once.Merging.{Inside, Base, known_inside, pot, Merged, Merges, merged_then, makes_merged, merged_add, found, nested_between, merged_value, merged_nested, merged_renested}

-- a name for a key weighs what has been paid for it
key_named : {σ : Scale} (E : List MergingEntry) (s : SetId) (key : Text) (p : Pointer) → MakesWhere σ E 0 σ.of_name (name_key s key p)
unfolding name_key
key_named E s key p = lowers_asks _ λ k. lowers_name key k p

-- ---- steps that merge, one after another
module _ {σ : Scale} {s : SetId} where
  pub merges_next : {A : Type 0} {owed : ℕ} {w : A → ℕ} {p : Low A} {f : A → Low (Unit {0})}
      → ((E : List MergingEntry) → MakesWhere σ E 0 w p) → ((a : A) → Merges σ (w a + owed) s (f a)) → Merges σ owed s (p >>= f)
  unfolding ◌>>=◌
  merges_next {owed} {w} {p} {f} h g = record { merges = λ E Z st base I b. go E Z st base I b ((h st.entries).makes st refl (known_inside base I)) }
    where
      go : (E : List MergingEntry) (Z : List MergingSet) (st : State) → Base E Z → Inside E Z st → Between (length Z) (length st.sets) s
          → Makes σ 0 w st (p st) → Merged σ E Z 0 owed st (f (p st).0 (p st).1).1
      go E Z st base I b m =
          let a = makes_merged I m in
          let grows = a.grows in
          let low = b.0 in
          let high = b.1 in
          merged_then 0 (w (p st).0 + owed) (omega arith) a ((g (p st).0).merges E Z (p st).1 base a.inside (omega arith, omega arith))

  pub merges_then : {owed : ℕ} {p q : Low (Unit {0})} (o o' : ℕ) → o + o' ≤ owed → Merges σ o s p → Merges σ o' s q → Merges σ owed s (p >>= λ _. q)
  unfolding ◌>>=◌
  merges_then {owed} {p} {q} o o' le h g = record { merges = λ E Z st base I b. go E Z st base I b (h.merges E Z st base I b) }
    where
      go : (E : List MergingEntry) (Z : List MergingSet) (st : State) → Base E Z → Inside E Z st → Between (length Z) (length st.sets) s
          → Merged σ E Z 0 o st (p st).1 → Merged σ E Z 0 owed st (q (p st).1).1
      go E Z st base I b a =
          let grows = a.grows in
          let low = b.0 in
          let high = b.1 in
          merged_then o o' (omega arith) a (g.merges E Z (p st).1 base a.inside (omega arith, omega arith))

  pub merges_at_most : {p : Low (Unit {0})} (o o' : ℕ) → o ≤ o' → Merges σ o s p → Merges σ o' s p
  merges_at_most {p} o o' le h = record { merges = λ E Z st base I b. go E Z st (h.merges E Z st base I b) }
    where
      go : (E : List MergingEntry) (Z : List MergingSet) (st : State) → Merged σ E Z 0 o st (p st).1 → Merged σ E Z 0 o' st (p st).1
      go E Z st a = record { inside = a.inside; grows = a.grows; fits = a.fits; weighs = λ z. let x = a.weighs z in omega arith }

  pub merges_give : Merges σ 0 s (give tt)
  unfolding give
  merges_give = record { merges = λ E Z st base I b. record { inside = I; grows = omega arith; fits = λ z. z; weighs = λ z. omega arith } }

  pub merges_when : {owed : ℕ} {p q : Low (Unit {0})} (c : Bool) → Merges σ owed s p → Merges σ owed s q → Merges σ owed s (when c p q)
  unfolding when
  merges_when true h g = h
  merges_when false h g = g

  pub merges_each : {A : Type 0} {f : A → Low (Unit {0})} → ((x : A) → Merges σ 0 s (f x)) → (xs : List A) → Merges σ 0 s (each_of f xs)
  unfolding each_of
  merges_each h [] = merges_give
  merges_each h (x ∷ xs) = merges_then 0 0 (omega arith) (h x) (merges_each h xs)

  pub merges_add : (e : MergingEntry) → set_of e ≡ s → nested_in e ≡ none → Merges σ (own σ e) s (add_entry e)
  merges_add e p q = record { merges = λ E Z st base I b. merged_add st I e (rw p b) q }

  -- ---- the statics of a set
  merges_new : (key : Text) (p : Pointer) (v : BindingValue) → Merges σ (value_weight σ v) s (merge_value_at s key p v none)
  unfolding merge_value_at nested_in one_or_none
  merges_new key p v = merges_next (λ E. key_named E s key p) λ x. merges_at_most _ _ (omega arith) (merges_add (static s key x none (some v)) refl refl)

  pub merges_value : (key : Text) (p : Pointer) (v : BindingValue) → Merges σ (value_weight σ v) s (merge_static_value s key p v)
  unfolding merge_static_value ◌>>=◌ asks
  merges_value key p v = record { merges = λ E Z st base I b. go E Z st base I b (find s key st) refl }
    where
      go : (E : List MergingEntry) (Z : List MergingSet) (st : State) → Base E Z → Inside E Z st → Between (length Z) (length st.sets) s
          → (o : Option ℕ) → find s key st ≡ o → Merged σ E Z 0 (value_weight σ v) st (merge_value_at s key p v o st).1
      go E Z st base I b none h = (merges_new key p v).merges E Z st base I b
      go E Z st base I b (some i) h = merged_value st base I s b σ key p v i h

  -- get_or_create_nested_static, and what is merged into the nested set
  pub merges_nested : (key : Text) (p : Pointer) (rest : SetId → Low (Unit {0})) → ((t : SetId) → Merges σ 0 t (rest t))
      → Merges σ 0 s (get_or_create_nested_static s key p >>= rest)
  unfolding get_or_create_nested_static nested_static_at nested_or new_nested new_set add_entry set_entry set_entries entry_at nested_at give ◌>>=◌ asks
  merges_nested key p rest g = record { merges = λ E Z st base I b. go E Z st base I b (find s key st) refl }
    where
      on : (E : List MergingEntry) (Z : List MergingSet) (st st' : State) (o o' : ℕ) (n : ℕ) → o ≤ o' → Base E Z → Merged σ E Z 0 o st st'
          → Between (length Z) n s → length st'.sets ≡ suc n → Merged σ E Z 0 o' st (rest n st').1
      on E Z st st' o o' n le base a b len =
          let low = b.0 in
          let high = b.1 in
          merged_then o 0 (omega arith) a ((g n).merges E Z st' base a.inside (omega arith, omega arith))

      fresh : (E : List MergingEntry) (Z : List MergingSet) (st : State) → Base E Z → Inside E Z st → Between (length Z) (length st.sets) s
          → Makes σ 0 σ.of_name st (name_key s key p st)
          → Merged σ E Z 0 0 st (rest (nested_static_at s key p none st).0 (nested_static_at s key p none st).1).1
      fresh E Z st base I b m =
          let st1 : State = (name_key s key p st).1 in
          let x : NameId = (name_key s key p st).0 in
          let a = makes_merged I m in
          let grows = a.grows in
          let low = b.0 in
          let high = b.1 in
          let b1 : Between (length Z) (length st1.sets) s = (omega arith, omega arith) in
          let len : length (nested_static_at s key p none st).1.sets ≡ suc (length st1.sets) = length_snoc st1.sets _ in
          merged_then 0 (σ.of_name x) (omega arith) a
          (on E Z st1 (nested_static_at s key p none st).1 (σ.of_name x) (σ.of_name x) (length st1.sets) (omega arith) base
          (merged_nested st1 a.inside s b1 _ σ key x (nested_static_at s key p none st).1 refl refl refl refl)
          b1 len)

      there : (E : List MergingEntry) (Z : List MergingSet) (st : State) (base : Base E Z) (I : Inside E Z st) → Between (length Z) (length st.sets) s
          → (i : ℕ) → find s key st ≡ some i → (o : Option SetId) → nested_in (get_or st.entries i (source 0 0)) ≡ o
          → Merged σ E Z 0 0 st (rest (nested_or i p o st).0 (nested_or i p o st).1).1
      there E Z st base I b i h (some t) q = (g t).merges E Z st base I (nested_between st base I s b key t (rw h q))
      there E Z st base I b i h none q =
          let f = found st base I s b key i h in
          let e = ap nested_in (ap (λ (es : List MergingEntry). get_or es i (source 0 0)) I.entries ∙ get_d_behind E I.more f.0 i (source 0 0) f.1) in
          let len : length (nested_or i p none st).1.sets ≡ suc (length st.sets) = length_snoc st.sets _ in
          on E Z st (nested_or i p none st).1 0 0 (length st.sets) (omega arith) base
          (merged_renested st I s b _ σ key f.0 i f.1 f.2 f.3 (sym e ∙ q)
          (nested_or i p none st).1 refl refl refl refl)
          b len

      go : (E : List MergingEntry) (Z : List MergingSet) (st : State) → Base E Z → Inside E Z st → Between (length Z) (length st.sets) s
          → (o : Option ℕ) → find s key st ≡ o → Merged σ E Z 0 0 st (rest (nested_static_at s key p o st).0 (nested_static_at s key p o st).1).1
      go E Z st base I b none h = fresh E Z st base I b ((key_named st.entries s key p).makes st refl (known_inside base I))
      go E Z st base I b (some i) h = there E Z st base I b i h (nested_in (get_or st.entries i (source 0 0))) refl

-- ---- a set of its own, on top of those that are being merged
-- what is finished weighs no more than what stands on top, whatever entries weigh
pub top_weighs : (g : MergingEntry → ℕ) (E more : List MergingEntry) (low high : ℕ) → All (NamesSets 0 low) E → All (NamesSets low high) more → MetOnce (nested_of more)
    → (b t : ℕ) → low ≤ t → total (nested_of (E ++ more)) (own_of g (E ++ more)) b t ≤ sum_by g more
top_weighs g E more low high base named once b t le =
    let others : (r : SetId) → low ≤ r → All (λ e. ¬ (set_of e ≡ r)) E = λ r l. all_map _ _ (λ e n p. let x = n.0.1 in omega arith) E base in
    let h = total_within (nested_of (E ++ more)) (λ r. low ≤ r) (nested_of more) (own_of g (E ++ more)) (own_of g more)
    (λ r l. nested_skips E more r (others r l))
    (λ r l. nested_all _ more r (all_map _ _ (λ e n. all_map _ _ (λ u x. x.0) (one_or_none (nested_in e)) n.1) more named))
    (λ r l. let x = own_none g E more r (others r l) in omega arith) b t le in
    let k = met_weighs g (nested_of more) once more b t in
    omega arith

-- ---- a set just opened
-- it is on top of those that are there, and empty
pub on_top : (k : NameKind) (q : Pointer) (st : State) → Between (length st.sets) (length (new_set k q st).1.sets) (length st.sets)
unfolding new_set
on_top k q st = let h = length-append st.sets (record { pointer = q; name_kind = k } ∷ []) in (omega arith, omega arith)

pub begins_empty : (k : NameKind) (q : Pointer) (st : State) → Inside st.entries st.sets (new_set k q st).1
unfolding new_set
begins_empty k q st =
    record {
      more = [];
      entries = sym (append-nil st.entries);
      names = tt;
      once = once_none (nested_of []) (λ r. refl);
      more_sets = record { pointer = q; name_kind = k } ∷ [];
      sets = refl;
    }

-- THEOREM. A set that is merged and finished by itself leaves those around it as they were, and what it is finished to
-- weighs no more than has been paid.
pub inner_lowers : {σ : Scale} {A : Type 0} {w : A → ℕ} (k : NameKind) (q : Pointer) (body : SetId → Low (Unit {0})) (fin : SetId → Low A)
    → ((t : SetId) → Merges σ 0 t (body t))
    → ((E : List MergingEntry) (t : SetId) (st : State) → st.entries ≡ E → Known st → (b : ℕ) × Makes σ (set_weight σ E b t) w st (fin t st))
    → (E : List MergingEntry) → MakesWhere σ E 0 w (inner (new_set k q >>= λ t. body t >>= λ _. fin t))
unfolding inner new_set cut give ◌>>=◌ asks
inner_lowers {σ} {A} {w} k q body fin merges finished E =
    record {
      makes = λ st same known.
          go st known ((merges (length st.sets)).merges st.entries st.sets (new_set k q st).1 known (begins_empty k q st) (on_top k q st));
    }
  where
    ended : (st st2 : State) (a : A) (st3 : State) (b : ℕ) → Known st → Merged σ st.entries st.sets 0 0 (new_set k q st).1 st2
        → Makes σ (set_weight σ st2.entries b (length st.sets)) w st2 (a, st3) → Makes σ 0 w st (a, (cut (length st.sets) (length st.entries) st3).1)
    ended st st2 a st3 b known m f =
        let I = m.inside in
        record {
          entries = ap (λ (es : List MergingEntry). take (length st.entries) es) (f.entries ∙ I.entries) ∙ take-append_seam st.entries I.more;
          sets = ap (λ (zs : List MergingSet). take (length st.sets) zs) (f.sets ∙ I.sets) ∙ take-append_seam st.sets I.more_sets;
          fits = λ z.
              let z3 : Fits σ st3 = record { more = z.more; goes_on = z.goes_on } in
              let z1 = m.fits (f.fits z3) in
              record { more = z1.more; goes_on = z1.goes_on };
          weighs = λ z.
              let z3 : Fits σ st3 = record { more = z.more; goes_on = z.goes_on } in
              let i = f.weighs z3 in
              let j = m.weighs (f.fits z3) in
              let u : set_weight σ st2.entries b (length st.sets) ≤ sum_by (own σ) I.more =
              rw I.entries (top_weighs (own σ) st.entries I.more (length st.sets) (length st2.sets) known I.names I.once b (length st.sets) (omega arith)) in
              let v : pot σ st2 ≡ pot σ st + sum_by (own σ) I.more = rw I.entries (sum_append (own σ) st.entries I.more) in
              omega arith;
        }

    go : (st : State) → Known st → Merged σ st.entries st.sets 0 0 (new_set k q st).1 (body (length st.sets) (new_set k q st).1).1
        → Makes σ 0 w st (inner (new_set k q >>= λ t. body t >>= λ _. fin t) st)
    go st known m =
        let st2 : State = (body (length st.sets) (new_set k q st).1).1 in
        let f = finished st2.entries (length st.sets) st2 refl (known_inside known m.inside) in
        ended st st2 (fin (length st.sets) st2).0 (fin (length st.sets) st2).1 f.0 known m f.1

-- ---- the entries
module _ {σ : Scale} (nodes : List Node) (lower : NodeId → Low ExprId) (merge : SetId → NodeId → Low (Unit {0}))
    (lowers : (E : List MergingEntry) (n : NodeId) → MakesWhere σ E 0 σ.weight (lower n)) (merging : (s : SetId) (n : NodeId) → Merges σ 0 s (merge s n)) where
  opt : (n : Option NodeId) (E : List MergingEntry) → MakesWhere σ E 0 σ.weight (lower_opt nodes lower merge n)
  opt n E = opt_lowers nodes lower merge E (lowers E) n

  -- an entry with what is in hand
  adds : {s : SetId} {owed : ℕ} (e : MergingEntry) → set_of e ≡ s → nested_in e ≡ none → own σ e ≤ owed → Merges σ owed s (add_entry e)
  adds e p q le = merges_at_most (own σ e) _ le (merges_add e p q)

  push_merges : (s : SetId) (key value : Option NodeId) → Merges σ 0 s (push_dynamic nodes lower merge s key value)
  unfolding push_dynamic nested_in
  push_merges s key value = merges_next (opt key) λ k. merges_next (opt value) λ v. adds (dynamic s k v) refl refl (omega arith)

  lowered_merges : (s : SetId) (key : Text) (attr : NodeId) (value : Option NodeId) → Merges σ 0 s (merge_lowered nodes lower merge s key attr value)
  unfolding merge_lowered
  lowered_merges s key attr value = merges_next (opt value) λ e. merges_at_most _ _ (omega arith) (merges_value key _ (expr e))

  keyed_merges : (s : SetId) (key : Text) (attr : NodeId) (value : Option NodeId) → Merges σ 0 s (merge_keyed nodes lower merge s key attr value)
  unfolding merge_keyed merge_into ◌>>=◌ asks
  keyed_merges s key attr none = lowered_merges s key attr none
  keyed_merges s key attr (some value) =
      merges_when _ (record { merges = λ E Z st base I b. go E Z st base I b (nested_at (find s key st) st) refl }) (lowered_merges s key attr (some value))
    where
      go : (E : List MergingEntry) (Z : List MergingSet) (st : State) → Base E Z → Inside E Z st → Between (length Z) (length st.sets) s
          → (o : Option SetId) → nested_at (find s key st) st ≡ o → Merged σ E Z 0 0 st (merge_into nodes lower merge s key attr value o st).1
      go E Z st base I b none h = (lowered_merges s key attr (some value)).merges E Z st base I b
      go E Z st base I b (some t) h = (merging t value).merges E Z st base I (nested_between st base I s b key t h)

  attr_merges : (s : SetId) (attr : NodeId) (value : Option NodeId) → Merges σ 0 s (merge_attr_value nodes lower merge s attr value)
  unfolding merge_attr_value merge_attr_as
  attr_merges s attr value = go (attr_kind nodes attr)
    where
      go : (k : AttrKind) → Merges σ 0 s (merge_attr_as nodes lower merge s attr value k)
      go (static_key key) = keyed_merges s key attr value
      go (dynamic_key key) = push_merges s key value

  step_merges : (s : SetId) (attr : NodeId) (rest : SetId → Low (Unit {0})) → ((t : SetId) → Merges σ 0 t (rest t)) → (k : AttrKind)
      → Merges σ 0 s (merge_step_as nodes lower merge s attr rest k)
  unfolding merge_step_as new_nested nested_in
  step_merges s attr rest h (static_key key) = merges_nested key _ rest h
  step_merges s attr rest h (dynamic_key key) =
      merges_next (inner_lowers _ (pointer nodes attr) rest finish_expr h (expr_finishes σ)) λ e.
      merges_next (opt key) λ k. adds (dynamic s k e) refl refl (omega arith)

  pub nested_merges : (s : SetId) (attr : NodeId) (more : List NodeId) (value : Option NodeId) → Merges σ 0 s (merge_nested_attr_value nodes lower merge s attr more value)
  unfolding merge_nested_attr_value
  nested_merges s attr [] value = attr_merges s attr value
  nested_merges s attr (a ∷ more) value = step_merges s attr _ (λ t. nested_merges t a more value) (attr_kind nodes attr)

  path_merges : (s : SetId) (attrs : List NodeId) (value : Option NodeId) → Merges σ 0 s (merge_path nodes lower merge s attrs value)
  unfolding merge_path
  path_merges s [] value = push_merges s none value
  path_merges s (a ∷ more) value = nested_merges s a more value

  attrpath_merges : (s : SetId) (n : NodeId) → Merges σ 0 s (merge_attrpath_val nodes lower merge s n)
  unfolding merge_attrpath_val
  attrpath_merges s n = path_merges s _ _

  inherit_lowers : (set : Option ExprId) (key : Text) (p : Pointer) (E : List MergingEntry) → MakesWhere σ E 0 (value_weight σ) (inherit_value nodes lower merge set key p)
  unfolding inherit_value form
  inherit_lowers none key p E = lowers_next (lowers_alloc _ _ (omega arith)) λ e. lowers_give (inherit e) (omega arith)
  inherit_lowers (some set) key p E = lowers_next (lowers_aside _ _) λ l. lowers_next (lowers_aside _ _) λ e. lowers_give (inherit_from e) (omega arith)

  inherit_merges : (s : SetId) (set : Option ExprId) (attr : NodeId) → Merges σ 0 s (inherit_attr nodes lower merge s set attr)
  unfolding inherit_attr inherit_as
  inherit_merges s set attr = go (attr_kind nodes attr)
    where
      go : (k : AttrKind) → Merges σ 0 s (inherit_as nodes lower merge s set attr k)
      go (static_key key) = merges_next (inherit_lowers set key (pointer nodes attr)) λ v. merges_at_most _ _ (omega arith) (merges_value key _ v)
      go (dynamic_key e) = push_merges s none e

  inherits_merge : (s : SetId) (n : NodeId) → Merges σ 0 s (merge_inherit nodes lower merge s n)
  unfolding merge_inherit inherit_source nested_in give ◌>>=◌
  inherits_merge s n = go (kid nodes 0 n)
    where
      attrs : (set : Option ExprId) → Merges σ 0 s (each_of (inherit_attr nodes lower merge s set) (items_after nodes n))
      attrs set = merges_each (inherit_merges s set) (items_after nodes n)

      go : (from : Option NodeId) → Merges σ 0 s (inherit_source nodes lower merge s from >>= λ set. each_of (inherit_attr nodes lower merge s set) (items_after nodes n))
      go none = record { merges = λ E Z st base I b. (attrs none).merges E Z st base I b }
      go (some from) =
          let steps : Merges σ 0 s
          (lower_opt nodes lower merge (kid nodes 0 from)
          >>= λ e. add_entry (source s e) >>= λ _. each_of (inherit_attr nodes lower merge s (some e)) (items_after nodes n)) =
          merges_next (opt _) λ e. merges_then (σ.weight e) 0 (omega arith) (adds (source s e) refl refl (omega arith)) (attrs (some e)) in
          record { merges = λ E Z st base I b. steps.merges E Z st base I b }

  entry_merges : (s : SetId) (n : NodeId) → Merges σ 0 s (merge_entry nodes lower merge s n)
  unfolding merge_entry
  entry_merges s n = merges_when _ (inherits_merge s n) (attrpath_merges s n)

  pub entries_merge : (s : SetId) (n : NodeId) → Merges σ 0 s (merge_entries nodes lower merge s n)
  unfolding merge_entries
  entries_merge s n = merges_each (entry_merges s) _

  pub desugar_lowers : (E : List MergingEntry) (k : NameKind) (n : NodeId) → MakesWhere σ E 0 (bindings_weight σ) (desugar nodes lower merge k n)
  unfolding desugar
  desugar_lowers E k n = inner_lowers k (pointer nodes n) (λ s. merge_entries nodes lower merge s n) finish (λ t. entries_merge t n) (finishes σ) E

-- ---- the knot
module _ (σ : Scale) (nodes : List Node) where
  -- a record, so that what is recursive in the depth is one thing
  pub record AtDepth (depth : ℕ) : Type 0 where
    pub lowers : (E : List MergingEntry) (n : NodeId) → MakesWhere σ E 0 σ.weight (lower_expr nodes depth n)
    pub merges : (s : SetId) (n : NodeId) → Merges σ 0 s (merge_bindings nodes depth s n)

  pub at_depth : (depth : ℕ) → AtDepth depth
  unfolding lower_expr merge_bindings
  at_depth zero = record { lowers = λ E n. lowers_missing; merges = λ s n. merges_give }
  at_depth (suc depth) = go (at_depth depth)
    where
      go : AtDepth depth → AtDepth (suc depth)
      go h =
          let lower : NodeId → Low ExprId = λ m. lower_expr nodes depth m in
          let merge : SetId → NodeId → Low (Unit {0}) = λ s m. merge_bindings nodes depth s m in
          record {
            lowers = λ E n. as_lowers nodes lower merge E (h.lowers E) (desugar_lowers nodes lower merge h.lowers h.merges E) (kind nodes n) n;
            merges = λ s n. entries_merge nodes lower merge h.lowers h.merges s n;
          }

-- THEOREM. Whatever the names and the expressions of a lowered module weigh, the entry with all that is walked from it
-- weighs no more than they do together.
pub lowered_weighs : (nodes : List Node) (σ : Scale) → σ.lowered ≡ lower_module nodes
    → σ.weight (lower_module nodes).entry ≤ up_to σ.of_name (length (lower_module nodes).names) + up_to σ.of_expr (length (lower_module nodes).exprs)
unfolding lower_module module_of
lowered_weighs nodes σ p =
    let r = lower_expr nodes 256 0 empty in
    let all : Fits σ r.1 = record { more = []; goes_on = append-nil r.1.exprs ∙ ap (λ (m : Module). m.exprs) (sym p) } in
    let h = (((at_depth σ nodes 256).lowers [] 0).makes empty refl tt).weighs all in
    omega arith

-- numbers that are told apart by being the same as x or not
up_to_same : (x n : ℕ) → up_to (same x) n ≤ 1
up_to_same x n = let h = go x n in h.0
  where
    go : (x n : ℕ) → (up_to (same x) n ≤ 1) × (n ≤ x → up_to (same x) n ≤ 0)
    go x zero = (omega arith, λ _. omega arith)
    go x (suc n) =
        let h = go x n in
        let a = h.0 in
        compared x n
        (λ p. let b = h.1 (omega arith) in let c = same_le x n in (omega arith, λ l. absurd (omega arith)))
        (λ p. let c = same_not x n p in (omega arith, λ l. let b = h.1 (omega arith) in omega arith))

up_to_zero : (n : ℕ) → up_to (λ _. 0) n ≡ 0
up_to_zero zero = refl
up_to_zero (suc n) = let h = up_to_zero n in omega arith

-- THEOREM. The walk of a lowered module enters each name at most once.
pub lowered_entered_once : (nodes : List Node) (x : NameId) → times_entered (lower_module nodes) x (suc (lower_module nodes).entry) (lower_module nodes).entry ≤ 1
lowered_entered_once nodes x =
    let m = lower_module nodes in
    let b = suc m.entry in
    let σ : Scale = record {
      lowered = m;
      of_name = same x;
      of_expr = λ _. 0;
      weight = times_entered m x b;
      meets = λ e. let h = total_more (walked m) (λ d. sum_by (same x) (entered m d)) b e in omega arith;
    } in
    let h = lowered_weighs nodes σ refl in
    let i = up_to_same x (length m.names) in
    let j = up_to_zero (length m.exprs) in
    omega arith

-- THEOREM. In the scopes of a lowered module each name is held by one scope.
pub lowered_held_once : (nodes : List Node) → HeldOnce (scopes_of (lower_module nodes))
lowered_held_once nodes = held_once (lower_module nodes) (lowered_entered_once nodes)

-- ---- what is walked
-- how often the walk from an expression comes to the expression c, so many levels down
abbrev pub times_walked : Module → ExprId → ℕ → ExprId → ℕ
times_walked m c = total (walked m) (same c)

-- THEOREM. The walk of a lowered module comes to each expression at most once.
pub lowered_walked_once : (nodes : List Node) (c : ExprId) → times_walked (lower_module nodes) c (suc (lower_module nodes).entry) (lower_module nodes).entry ≤ 1
lowered_walked_once nodes c =
    let m = lower_module nodes in
    let b = suc m.entry in
    let σ : Scale = record {
      lowered = m;
      of_name = λ _. 0;
      of_expr = same c;
      weight = times_walked m c b;
      meets = λ e. let h = total_more (walked m) (same c) b e in let k = sum_zero (entered m e) in omega arith;
    } in
    let h = lowered_weighs nodes σ refl in
    let i = up_to_same c (length m.exprs) in
    let j = up_to_zero (length m.names) in
    omega arith
