-- To finish a set adds at most one expression for each set after it, and leaves the stacks as they were. Assumes
-- nothing.
use mathlib.Core.Path.{◌≡◌, refl}
use mathlib.Core.Bool.{Bool, true, false}
use mathlib.Core.List.{List, [], ◌∷◌}
use mathlib.Core.Option.{Option, none, some}
use Prim.Native.Nat.{ℕ, zero, suc, ◌+◌, ◌-◌, ◌<◌}
use native.Mathlib.Omega.{arith}
use lib.ListN.{length}
use lib.Dec.{eqb}
use Rattle.words.specs.Order.{pick}
use Rattle.spec.specs.Basics.{ExprId}
use Rattle.spec.specs.Module.{BindingValue}
use Rattle.spec.specs.State.{SetId, MergingSet, MergingEntry, static, source, dynamic, Low}
use Rattle.spec.specs.Merge.{Static, insert_static, statics_of, finish_value, finish_static, finish_with, finish_to, finish_expr, finish}
use Rattle.spec.proofs.steps.Forest.{NestedOnce, takes_in, weigh, weigh_own, forest}
use Rattle.spec.proofs.steps.Adds.{Adds, adds_give, adds_more, adds_then, adds_asks, adds_each, adds_expr, adds_missing}
use Rattle.spec.proofs.general.Sums.{sum_by, sum_zero}
use Rattle.spec.proofs.once.Nesting.{sum_insert}

-- what a static takes, w being what each nested set takes
abbrev value_takes : (ℕ → ℕ) → Option SetId → Option BindingValue → ℕ
value_takes w (some t) v = w t
value_takes w none (some v) = 0
value_takes w none none = 1

abbrev static_takes : (ℕ → ℕ) → Static → ℕ
static_takes w x = value_takes w x.nested x.value

statics_take : (w : ℕ → ℕ) (s : SetId) (es : List MergingEntry) → sum_by (static_takes w) (statics_of s es) ≡ sum_by (takes_in s w) es
unfolding statics_of
statics_take w s [] = refl
statics_take w s (static t k x (some u) v ∷ es) = go (eqb t s) (statics_take w s es)
  where
    go : (b : Bool) → sum_by (static_takes w) (statics_of s es) ≡ sum_by (takes_in s w) es → sum_by (static_takes w) (pick b (insert_static (record { key = k; name = x; nested = some u; value = v }) (statics_of s es)) (statics_of s es)) ≡ pick b (w u) 0 + sum_by (takes_in s w) es
    go true r = omega (arith, sum_insert (static_takes w) (record { key = k; name = x; nested = some u; value = v }) (statics_of s es))
    go false r = omega arith
statics_take w s (static t k x none (some v) ∷ es) = go (eqb t s) (statics_take w s es)
  where
    go : (b : Bool) → sum_by (static_takes w) (statics_of s es) ≡ sum_by (takes_in s w) es → sum_by (static_takes w) (pick b (insert_static (record { key = k; name = x; nested = none; value = some v }) (statics_of s es)) (statics_of s es)) ≡ 0 + sum_by (takes_in s w) es
    go true r = omega (arith, sum_insert (static_takes w) (record { key = k; name = x; nested = none; value = some v }) (statics_of s es))
    go false r = omega arith
statics_take w s (static t k x none none ∷ es) = go (eqb t s) (statics_take w s es)
  where
    go : (b : Bool) → sum_by (static_takes w) (statics_of s es) ≡ sum_by (takes_in s w) es → sum_by (static_takes w) (pick b (insert_static (record { key = k; name = x; nested = none; value = none }) (statics_of s es)) (statics_of s es)) ≡ pick b 1 0 + sum_by (takes_in s w) es
    go true r = omega (arith, sum_insert (static_takes w) (record { key = k; name = x; nested = none; value = none }) (statics_of s es))
    go false r = omega arith
statics_take w s (source t e ∷ es) = omega (arith, statics_take w s es)
statics_take w s (dynamic t k v ∷ es) = omega (arith, statics_take w s es)

module _ {ss : List MergingSet} {es : List MergingEntry} where
  value_adds : (w : ℕ → ℕ) (f : SetId → Low ExprId) → ((t : SetId) → Adds ss es 0 (w t) 0 (f t)) → (n : Option SetId) (v : Option BindingValue) → Adds ss es 0 (value_takes w n v) 0 (finish_value f n v)
  unfolding finish_value
  value_adds w f h (some t) v = adds_more _ _ (omega arith) (omega arith) (adds_then (h t) λ e. adds_give _)
  value_adds w f h none (some v) = adds_give v
  value_adds w f h none none = adds_more _ _ (omega arith) (omega arith) (adds_then adds_missing λ e. adds_give _)

  static_adds : (w : ℕ → ℕ) (f : SetId → Low ExprId) → ((t : SetId) → Adds ss es 0 (w t) 0 (f t)) → (x : Static) → Adds ss es 0 (static_takes w x) 0 (finish_static f x)
  unfolding finish_static
  static_adds w f h x = adds_more _ _ (omega arith) (omega arith) (adds_then (value_adds w f h x.nested x.value) λ v. adds_give _)

  with_adds : (w : ℕ → ℕ) (f : SetId → Low ExprId) → ((t : SetId) → Adds ss es 0 (w t) 0 (f t)) → (s : SetId) → Adds ss es 0 (sum_by (takes_in s w) es) 0 (finish_with f s)
  unfolding finish_with
  with_adds w f h s = adds_asks (λ st. st.entries) _ λ st i j. rw j (adds_more _ _ (omega (arith, statics_take w s es)) (omega (arith, sum_zero (statics_of s es))) (adds_then (adds_each (static_takes w) (λ x. 0) (static_adds w f h) (statics_of s es)) λ bs. adds_give _))

  to_adds : (b : ℕ) (s : SetId) → Adds ss es 0 (weigh es b s) 0 (finish_to b s)
  unfolding finish_to weigh
  to_adds zero s = adds_missing
  to_adds (suc b) s = adds_more _ _ (omega arith) (omega arith) (adds_then (with_adds (weigh es b) (finish_to b) (to_adds b) s) λ bs. adds_asks (λ st. _) _ λ st i j. adds_expr _ _)

  -- The bindings of a set, and its expression, which is one more.
  pub finish_adds : (s : SetId) → NestedOnce (length ss) es → s < length ss → Adds ss es 0 (length ss - suc s + 0) 0 (finish s)
  unfolding finish
  finish_adds s f h = adds_asks (λ st. length st.sets) _ λ st i j. adds_more _ _ (omega (arith, forest (length ss) es f (length st.sets) s h)) (omega arith) (with_adds (weigh es (length st.sets)) _ (to_adds (length st.sets)) s)

  pub finish_expr_adds : (s : SetId) → NestedOnce (length ss) es → s < length ss → Adds ss es 0 (length ss - suc s + 1) 0 (finish_expr s)
  unfolding finish_expr
  finish_expr_adds s f h = adds_asks (λ st. length st.sets) _ λ st i j. adds_more _ _ (omega (arith, weigh_own es (length st.sets) s, forest (length ss) es f (length st.sets) s h)) (omega arith) (to_adds (length st.sets) s)
