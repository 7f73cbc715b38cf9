-- The bindings of a finished set weigh no more than its entries and what the sets nested in it weigh. Assumes nothing.
use mathlib.Core.Path.{◌≡◌, sym, subst}
use mathlib.Core.Bool.{Bool, true, false}
use mathlib.Core.List.{List, [], ◌∷◌, ◌++◌}
use mathlib.Core.Option.{Option, none, some}
use Prim.Native.Nat.{ℕ, zero, suc, ◌+◌, ◌*◌, ◌≤◌}
use native.Mathlib.Omega.{arith}
use lib.Dec.{eqb}
use lib.ListN.{length}
use Rattle.words.specs.Order.{pick}
use Rattle.spec.specs.Basics.{ExprId}
use Rattle.spec.specs.Steps.{◌>>=◌, give, asks, each}
use Rattle.spec.specs.Module.{BindingValue, expr, Bindings, attr_set}
use Rattle.spec.specs.State.{SetId, MergingEntry, static, source, dynamic, State, Low}
use Rattle.spec.specs.Scopes.{one_or_none, form}
use Rattle.spec.specs.Merge.{nested_in, Static, insert_static, statics_of, sources_of, dynamics_of, finish_value, finish_static, finish_with, finish_to, finish_expr, finish}
use Rattle.spec.proofs.general.Sums.{sum_by, sum_append, total}
use Rattle.spec.proofs.once.Weights.{Known, Scale, Makes, MakesWhere, lowers_then, lowers_next, lowers_give, lowers_asks, lowers_each, lowers_alloc, lowers_missing}
use Rattle.spec.proofs.once.Lowering.{value_weight, static_weight, dynamic_weight, bindings_weight, bound_weigh}
use Rattle.spec.proofs.once.Nesting.{nested_of, own_of, sum_insert}

module _ (σ : Scale) where
  -- what an entry has itself
  abbrev pub own : MergingEntry → ℕ
  own (static s k x nested value) = σ.of_name x + sum_by (value_weight σ) (one_or_none value)
  own (source s e) = σ.weight e
  own (dynamic s k v) = σ.weight k + σ.weight v

module _ (σ : Scale) (c : SetId → ℕ) where
  -- what a key has, with the set nested there by a weight c
  abbrev key_weight : Static → ℕ
  key_weight x = σ.of_name x.name + (sum_by (value_weight σ) (one_or_none x.value) + sum_by c (one_or_none x.nested))

  -- what is taken from the entries for a set
  abbrev taken : List MergingEntry → SetId → ℕ
  taken es s = sum_by key_weight (statics_of s es) + (sum_by σ.weight (sources_of s es) + sum_by (dynamic_weight σ) (dynamics_of s es))

  taken_weighs : (es : List MergingEntry) (s : SetId) → taken es s ≤ own_of (own σ) es s + sum_by c (nested_of es s)
  unfolding statics_of sources_of dynamics_of nested_in one_or_none
  taken_weighs [] s = omega arith
  taken_weighs (static t k x nested value ∷ es) s = go (eqb t s) (taken_weighs es s)
    where
      key : Static
      key = record { key = k; name = x; nested = nested; value = value }

      go : (b : Bool) → taken es s ≤ own_of (own σ) es s + sum_by c (nested_of es s)
          → sum_by key_weight (pick b (insert_static key (statics_of s es)) (statics_of s es)) + (sum_by σ.weight (sources_of s es) + sum_by (dynamic_weight σ) (dynamics_of s es))
          ≤ (own σ (static t k x nested value) * pick b 1 0 + own_of (own σ) es s) + sum_by c (pick b (one_or_none nested) [] ++ nested_of es s)
      go true h =
          let i = sum_insert key_weight (record { key = k; name = x; nested = nested; value = value }) (statics_of s es) in
          let j = sum_append c (one_or_none nested) (nested_of es s) in
          omega arith
      go false h = omega arith
  taken_weighs (source t e ∷ es) s = go (eqb t s) (taken_weighs es s)
    where
      go : (b : Bool) → taken es s ≤ own_of (own σ) es s + sum_by c (nested_of es s)
          → sum_by key_weight (statics_of s es) + (sum_by σ.weight (pick b (e ∷ sources_of s es) (sources_of s es)) + sum_by (dynamic_weight σ) (dynamics_of s es))
          ≤ (σ.weight e * pick b 1 0 + own_of (own σ) es s) + sum_by c (pick b (one_or_none none) [] ++ nested_of es s)
      go true h = omega arith
      go false h = omega arith
  taken_weighs (dynamic t k v ∷ es) s = go (eqb t s) (taken_weighs es s)
    where
      go : (b : Bool) → taken es s ≤ own_of (own σ) es s + sum_by c (nested_of es s)
          → sum_by key_weight (statics_of s es) + (sum_by σ.weight (sources_of s es) + sum_by (dynamic_weight σ) (pick b ((k, v) ∷ dynamics_of s es) (dynamics_of s es)))
          ≤ ((σ.weight k + σ.weight v) * pick b 1 0 + own_of (own σ) es s) + sum_by c (pick b (one_or_none none) [] ++ nested_of es s)
      go true h = omega arith
      go false h = omega arith

  -- ---- the steps, where a nested set is finished by a step that owes its weight
  module _ (E : List MergingEntry) (fin : SetId → Low ExprId) (finishes : (t : SetId) → MakesWhere σ E (c t) σ.weight (fin t)) where
    value_finishes : (nested : Option SetId) (value : Option BindingValue)
        → MakesWhere σ E (sum_by (value_weight σ) (one_or_none value) + sum_by c (one_or_none nested)) (value_weight σ) (finish_value fin nested value)
    unfolding finish_value one_or_none
    value_finishes (some t) value = lowers_then (c t) 0 (omega arith) (finishes t) λ e. lowers_give (expr e) (omega arith)
    value_finishes none (some v) = lowers_give v (omega arith)
    value_finishes none none = lowers_next lowers_missing λ e. lowers_give (expr e) (omega arith)

    static_finishes : (x : Static) → MakesWhere σ E (key_weight x) (static_weight σ) (finish_static fin x)
    unfolding finish_static
    static_finishes x = lowers_then _ (σ.of_name x.name) (omega arith) (value_finishes x.nested x.value) λ v. lowers_give (x.name, v) (omega arith)

    with_finishes : (s : SetId) → MakesWhere σ E (own_of (own σ) E s + sum_by c (nested_of E s)) (bindings_weight σ) (finish_with fin s)
    unfolding finish_with ◌>>=◌ asks
    with_finishes s =
        record {
          makes = λ st same known.
              subst (λ (es : List MergingEntry). Makes σ owes (bindings_weight σ) st (after es st)) (sym same) (at_e.makes st same known);
        }
      where
        owes : ℕ
        owes = own_of (own σ) E s + sum_by c (nested_of E s)

        after : List MergingEntry → Low Bindings
        after es = each (finish_static fin) (statics_of s es) >>= λ statics. give (record { statics = statics; inherit_froms = sources_of s es; dynamics = dynamics_of s es })

        at_e : MakesWhere σ E (own_of (own σ) E s + sum_by c (nested_of E s)) (bindings_weight σ)
            (each (finish_static fin) (statics_of s E)
            >>= λ statics. give (record { statics = statics; inherit_froms = sources_of s E; dynamics = dynamics_of s E }))
        at_e =
            lowers_then (sum_by key_weight (statics_of s E)) (sum_by σ.weight (sources_of s E) + sum_by (dynamic_weight σ) (dynamics_of s E))
            (taken_weighs E s) (lowers_each key_weight static_finishes (statics_of s E)) λ statics.
            lowers_give (record { statics = statics; inherit_froms = sources_of s E; dynamics = dynamics_of s E }) (omega arith)

module _ (σ : Scale) (E : List MergingEntry) where
  -- a set and what is nested in it, so many levels down
  abbrev pub set_weight : ℕ → SetId → ℕ
  set_weight = total (nested_of E) (own_of (own σ) E)

  to_finishes : (b : ℕ) (s : SetId) → MakesWhere σ E (set_weight b s) σ.weight (finish_to b s)
  unfolding finish_to form one_or_none
  to_finishes zero s = lowers_missing
  to_finishes (suc b) s =
      lowers_then (set_weight (suc b) s) 0 (omega arith) (with_finishes σ (set_weight b) E (finish_to b) (to_finishes b) s) λ bs.
      lowers_asks _ λ p. lowers_alloc (attr_set false bs) p (let h = bound_weigh σ bs none in omega arith)

  pub expr_finishes : (s : SetId) (st : State) → st.entries ≡ E → Known st → (b : ℕ) × Makes σ (set_weight b s) σ.weight st (finish_expr s st)
  unfolding finish_expr ◌>>=◌ asks
  expr_finishes s st same known = (length st.sets, (to_finishes (length st.sets) s).makes st same known)

  pub finishes : (s : SetId) (st : State) → st.entries ≡ E → Known st → (b : ℕ) × Makes σ (set_weight b s) (bindings_weight σ) st (finish s st)
  unfolding finish ◌>>=◌ asks
  finishes s st same known =
      let b = length st.sets in
      (suc b, (with_finishes σ (set_weight b) E (finish_to b) (to_finishes b) s).makes st same known)
