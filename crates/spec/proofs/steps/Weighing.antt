-- How much what steps of lowering give weighs, each expression of the finished list having a weight. Assumes nothing.
use mathlib.Core.Path.{◌≡◌, refl, sym, ap, ◌∙◌}
use mathlib.Core.Bool.{Bool, true, false}
use mathlib.Core.List.{List, [], ◌∷◌, ◌++◌, append_assoc, append-nil}
use mathlib.Core.Option.{Option, none, some}
use Prim.Native.Nat.{ℕ, zero, suc, ◌+◌, ◌-◌, ◌≤◌, ◌<◌}
use native.Mathlib.Omega.{arith}
use lib.ListN.{length, length-append, get_or-append}
use lib.Seq.{take-length, get_or-append_seam}
use lib.Dec.{eqb, leb}
use Rattle.words.specs.Order.{pick}
use Rattle.spec.specs.Basics.{Text, ExprId, NameId}
use Rattle.spec.specs.Module.{Pointer, BindingValue, expr, inherit, inherit_from, Bindings, Expr, missing, attr_set, let_in, Made, NameKind}
use Rattle.spec.specs.Scopes.{form, inherited, if_inherited, plain_values, if_plain, keys_and_values, one_or_none}
use Rattle.spec.specs.Steps.{◌>>=◌, give, asks, when, each}
use Rattle.spec.specs.State.{SetId, MergingSet, MergingEntry, static, source, dynamic, State, Low, new_made, alloc_expr, alloc_missing, alloc_name, new_set, set_entries, add_entry, cut, inner}
use Rattle.spec.specs.Merge.{Static, statics_of, sources_of, dynamics_of, insert_static, finish_value, finish_static, finish_with, finish_to, finish_expr, finish}
use Rattle.spec.proofs.steps.Forest.{NestedOnce}
use Rattle.spec.proofs.steps.Adds.{Over, merged_entry, over_set}
use Rattle.spec.proofs.steps.Opened.{opens, walks, form_in}
use Rattle.spec.proofs.steps.RoomWeights.{value_weighs, opt_weighs, weighs_from, gives, set_weighs, set_own, weight_forest, from_next, from_late, from_picked}
use Rattle.spec.proofs.general.Sums.{sum_by, sum_append}
use Rattle.spec.proofs.once.Nesting.{sum_insert}

-- a list that goes on
pub record Grown (l m : List Made) : Type 0 where
  pub more : List Made
  pub is : m ≡ l ++ more

pub grown_same : (l : List Made) → Grown l l
grown_same l = record { more = []; is = sym (append-nil l) }

pub grown_then : {l m n : List Made} → Grown l m → Grown m n → Grown l n
grown_then {l} {m} {n} x y = record { more = x.more ++ y.more; is = y.is ∙ rw x.is (append_assoc l x.more y.more) }

-- the stacks as they were, the expressions going on
pub record Same (st after : State) : Type 0 where
  pub sets_same : after.sets ≡ st.sets
  pub entries_same : after.entries ≡ st.entries
  pub grown : Grown st.exprs after.exprs

-- Where the stacks are ss and es, the step leaves them; and if X goes on after its expressions and H holds, what it
-- gives weighs at most u.
pub record Weighs {A : Type 0} (X : List Made) (ss : List MergingSet) (es : List MergingEntry) (H : Type 0) (val : A → ℕ) (u : ℕ) (p : Low A) : Type 0 where
  pub same : (st : State) → st.sets ≡ ss → st.entries ≡ es → Same st (p st).1
  pub light : H → (st : State) → st.sets ≡ ss → st.entries ≡ es → Grown (p st).1.exprs X → val (p st).0 ≤ u

module _ {X : List Made} {ss : List MergingSet} {es : List MergingEntry} {H : Type 0} where
  pub weighs_give : {A : Type 0} {val : A → ℕ} {u : ℕ} (a : A) → (H → val a ≤ u) → Weighs X ss es H val u (give a)
  unfolding give
  weighs_give a h = record { same = λ st i j. record { sets_same = refl; entries_same = refl; grown = grown_same _ }; light = λ z st i j x. h z }

  pub weighs_more : {A : Type 0} {val : A → ℕ} {u : ℕ} {p : Low A} (v : ℕ) → u ≤ v → Weighs X ss es H val u p → Weighs X ss es H val v p
  weighs_more v h w = record { same = w.same; light = λ z st i j x. omega (arith, w.light z st i j x) }

  pub weighs_then : {A B : Type 0} {val : A → ℕ} {wal : B → ℕ} {u v : ℕ} {p : Low A} {f : A → Low B} → Weighs X ss es H val u p → ((a : A) → Weighs X ss es (H × (val a ≤ u)) wal v (f a)) → Weighs X ss es H wal v (p >>= f)
  unfolding ◌>>=◌
  weighs_then {p = p} w k = record {
    same = λ st i j.
        let y = w.same st i j in
        let z = (k (p st).0).same (p st).1 (y.sets_same ∙ i) (y.entries_same ∙ j) in
        record { sets_same = z.sets_same ∙ y.sets_same; entries_same = z.entries_same ∙ y.entries_same; grown = grown_then y.grown z.grown };
    light = λ h st i j x.
        let y = w.same st i j in
        let z = (k (p st).0).same (p st).1 (y.sets_same ∙ i) (y.entries_same ∙ j) in
        (k (p st).0).light (h, w.light h st i j (grown_then z.grown x)) (p st).1 (y.sets_same ∙ i) (y.entries_same ∙ j) x;
  }

  pub weighs_when : {A : Type 0} {val : A → ℕ} {u : ℕ} {c : Bool} {p q : Low A} → (c ≡ true → Weighs X ss es H val u p) → (c ≡ false → Weighs X ss es H val u q) → Weighs X ss es H val u (when c p q)
  unfolding when
  weighs_when {c = true} f g = f refl
  weighs_when {c = false} f g = g refl

  pub weighs_asks : {A B : Type 0} {val : B → ℕ} {u : ℕ} (g : State → A) (f : A → Low B) → ((st : State) → st.sets ≡ ss → st.entries ≡ es → Weighs X ss es H val u (f (g st))) → Weighs X ss es H val u (asks g >>= f)
  unfolding ◌>>=◌ asks
  weighs_asks g f k = record { same = λ st i j. (k st i j).same st i j; light = λ h st i j x. (k st i j).light h st i j x }

  pub weighs_name : {u : ℕ} (t : Text) (k : NameKind) (p : Pointer) → Weighs X ss es H (λ _. 0) u (alloc_name t k p)
  unfolding alloc_name
  weighs_name t k p = record { same = λ st i j. record { sets_same = refl; entries_same = refl; grown = grown_same _ }; light = λ z st i j x. omega arith }

made_last : (l : List Made) (m : Made) (X : List Made) → Grown (l ++ (m ∷ [])) X → form_in X (length l) ≡ form m.expr
unfolding form_in
made_last l m X g = rw (g.is, get_or-append (l ++ (m ∷ [])) g.more (record { expr = missing; pointer = none }) (length l) (simp length-append (omega arith)), get_or-append_seam l m [] (record { expr = missing; pointer = none })) refl

-- ---- with the weights of a finished list
module _ (X : List Made) (ω : ExprId → ℕ) (own : (e : ExprId) → ω e ≤ opens (form_in X e) + sum_by ω (walks (form_in X e))) where
  made_weighs : {ss : List MergingSet} {es : List MergingEntry} {H : Type 0} {u : ℕ} (m : Made) → (H → opens (form m.expr) + sum_by ω (walks (form m.expr)) ≤ u) → Weighs X ss es H ω u (new_made m)
  unfolding new_made
  made_weighs m h = record {
    same = λ st i j. record { sets_same = refl; entries_same = refl; grown = record { more = m ∷ []; is = refl } };
    light = λ z st i j x. let e = made_last st.exprs m X x in omega (arith, h z, rw e at (own (length st.exprs)));
  }

  -- a new expression weighs what it may open and what is walked inside it
  pub expr_weighs : {ss : List MergingSet} {es : List MergingEntry} {H : Type 0} {u : ℕ} (e : Expr) (p : Pointer) → (H → opens (form e) + sum_by ω (walks (form e)) ≤ u) → Weighs X ss es H ω u (alloc_expr e p)
  unfolding alloc_expr
  expr_weighs e p h = made_weighs _ h

  pub missing_weighs : {ss : List MergingSet} {es : List MergingEntry} {H : Type 0} {u : ℕ} → Weighs X ss es H ω u alloc_missing
  unfolding alloc_missing opens walks form
  missing_weighs = made_weighs _ (λ z. omega arith)

  pub each_weighs : {A B : Type 0} {ss : List MergingSet} {es : List MergingEntry} {H : Type 0} {val : B → ℕ} (v : A → ℕ) (f : A → Low B) → ((K : Type 0) (a : A) → Weighs X ss es K val (v a) (f a)) → (l : List A) → Weighs X ss es H (sum_by val) (sum_by v l) (each f l)
  unfolding each
  each_weighs v f h [] = weighs_give [] (λ z. omega arith)
  each_weighs v f h (a ∷ l) = weighs_then (h _ a) λ b. weighs_then (each_weighs v f h l) λ bs. weighs_give (b ∷ bs) (λ z. omega arith)

  -- ---- finishing
  abbrev pub bindings_weigh : Bindings → ℕ
  bindings_weigh bs = sum_by ω (inherited bs.statics) + (sum_by ω (plain_values bs.statics) + (sum_by ω bs.inherit_froms + sum_by ω (keys_and_values bs.dynamics)))

  abbrev gives_value : (ℕ → ℕ) → Option SetId → Option BindingValue → ℕ
  gives_value w (some t) v = w t
  gives_value w none v = opt_weighs ω v

  abbrev gives_static : (ℕ → ℕ) → Static → ℕ
  gives_static w x = gives_value w x.nested x.value

  statics_weigh : (l : List (NameId × BindingValue)) → sum_by ω (inherited l) + sum_by ω (plain_values l) ≤ sum_by (λ b. value_weighs ω b.1) l
  unfolding inherited if_inherited plain_values if_plain
  statics_weigh [] = omega arith
  statics_weigh ((x, expr e) ∷ l) = omega (arith, statics_weigh l)
  statics_weigh ((x, inherit e) ∷ l) = omega (arith, statics_weigh l)
  statics_weigh ((x, inherit_from e) ∷ l) = omega (arith, statics_weigh l)

  statics_give : (w : ℕ → ℕ) (s : SetId) (es : List MergingEntry) → sum_by (gives_static w) (statics_of s es) + (sum_by ω (sources_of s es) + sum_by ω (keys_and_values (dynamics_of s es))) ≡ sum_by (gives ω s w) es
  unfolding statics_of sources_of dynamics_of keys_and_values
  statics_give w s [] = refl
  statics_give w s (static t k x (some u) v ∷ es) = go (eqb t s) (statics_give w s es)
    where
      go : (b : Bool) → sum_by (gives_static w) (statics_of s es) + (sum_by ω (sources_of s es) + sum_by ω (keys_and_values (dynamics_of s es))) ≡ sum_by (gives ω s w) es → sum_by (gives_static w) (pick b (insert_static (record { key = k; name = x; nested = some u; value = v }) (statics_of s es)) (statics_of s es)) + (sum_by ω (sources_of s es) + sum_by ω (keys_and_values (dynamics_of s es))) ≡ pick b (w u) 0 + sum_by (gives ω s w) es
      go true r = omega (arith, sum_insert (gives_static w) (record { key = k; name = x; nested = some u; value = v }) (statics_of s es))
      go false r = omega arith
  statics_give w s (static t k x none v ∷ es) = go (eqb t s) (statics_give w s es)
    where
      go : (b : Bool) → sum_by (gives_static w) (statics_of s es) + (sum_by ω (sources_of s es) + sum_by ω (keys_and_values (dynamics_of s es))) ≡ sum_by (gives ω s w) es → sum_by (gives_static w) (pick b (insert_static (record { key = k; name = x; nested = none; value = v }) (statics_of s es)) (statics_of s es)) + (sum_by ω (sources_of s es) + sum_by ω (keys_and_values (dynamics_of s es))) ≡ pick b (opt_weighs ω v) 0 + sum_by (gives ω s w) es
      go true r = omega (arith, sum_insert (gives_static w) (record { key = k; name = x; nested = none; value = v }) (statics_of s es))
      go false r = omega arith
  statics_give w s (source t e ∷ es) = go (eqb t s) (statics_give w s es)
    where
      go : (b : Bool) → sum_by (gives_static w) (statics_of s es) + (sum_by ω (sources_of s es) + sum_by ω (keys_and_values (dynamics_of s es))) ≡ sum_by (gives ω s w) es → sum_by (gives_static w) (statics_of s es) + (sum_by ω (pick b (e ∷ sources_of s es) (sources_of s es)) + sum_by ω (keys_and_values (dynamics_of s es))) ≡ pick b (ω e) 0 + sum_by (gives ω s w) es
      go true r = omega arith
      go false r = omega arith
  statics_give w s (dynamic t k v ∷ es) = go (eqb t s) (statics_give w s es)
    where
      go : (b : Bool) → sum_by (gives_static w) (statics_of s es) + (sum_by ω (sources_of s es) + sum_by ω (keys_and_values (dynamics_of s es))) ≡ sum_by (gives ω s w) es → sum_by (gives_static w) (statics_of s es) + (sum_by ω (sources_of s es) + sum_by ω (keys_and_values (pick b ((k, v) ∷ dynamics_of s es) (dynamics_of s es)))) ≡ pick b (ω k + ω v) 0 + sum_by (gives ω s w) es
      go true r = omega arith
      go false r = omega arith

  -- the expression of bindings
  pub set_weighs_lem : (r : Bool) (bs : Bindings) → opens (form (attr_set r bs)) + sum_by ω (walks (form (attr_set r bs))) ≡ 1 + bindings_weigh bs
  unfolding opens walks form one_or_none
  set_weighs_lem r bs = simp sum_append (omega arith)

  -- the expression of a let
  pub let_weighs : (bs : Bindings) (b : ExprId) → opens (form (let_in bs b)) + sum_by ω (walks (form (let_in bs b))) ≡ 1 + bindings_weigh bs + ω b
  unfolding opens walks form one_or_none
  let_weighs bs b = simp sum_append (omega arith)

  module _ {ss : List MergingSet} {es : List MergingEntry} where
    value_weighs_lem : (w : ℕ → ℕ) (f : SetId → Low ExprId) → ((K : Type 0) (t : SetId) → Weighs X ss es K ω (w t) (f t)) → (K : Type 0) (n : Option SetId) (v : Option BindingValue) → Weighs X ss es K (value_weighs ω) (gives_value w n v) (finish_value f n v)
    unfolding finish_value
    value_weighs_lem w f h K (some t) v = weighs_then (h K t) λ e. weighs_give (expr e) (λ z. z.1)
    value_weighs_lem w f h K none (some v) = weighs_give v (λ z. omega arith)
    value_weighs_lem w f h K none none = weighs_then (missing_weighs {u = 0}) λ e. weighs_give (expr e) (λ z. z.1)

    static_weighs : (w : ℕ → ℕ) (f : SetId → Low ExprId) → ((K : Type 0) (t : SetId) → Weighs X ss es K ω (w t) (f t)) → (K : Type 0) (x : Static) → Weighs X ss es K (λ b. value_weighs ω b.1) (gives_static w x) (finish_static f x)
    unfolding finish_static
    static_weighs w f h K x = weighs_then (value_weighs_lem w f h K x.nested x.value) λ v. weighs_give (x.name, v) (λ z. z.1)

    with_weighs : (w : ℕ → ℕ) (f : SetId → Low ExprId) → ((K : Type 0) (t : SetId) → Weighs X ss es K ω (w t) (f t)) → (K : Type 0) (s : SetId) → Weighs X ss es K bindings_weigh (sum_by (gives ω s w) es) (finish_with f s)
    unfolding finish_with
    with_weighs w f h K s = weighs_asks (λ st. st.entries) _ λ st i j. rw j (weighs_then (each_weighs (gives_static w) (finish_static f) (static_weighs w f h) (statics_of s es)) λ bs. weighs_give _ (λ z. omega (arith, z.1, statics_weigh bs, statics_give w s es)))

    to_weighs : (b : ℕ) (K : Type 0) (s : SetId) → Weighs X ss es K ω (set_weighs ω es b s) (finish_to b s)
    unfolding finish_to set_weighs
    to_weighs zero K s = missing_weighs
    to_weighs (suc b) K s = weighs_then (with_weighs (set_weighs ω es b) (finish_to b) (to_weighs b) K s) λ bs. weighs_asks _ _ λ st i j. expr_weighs (attr_set false bs) _ (λ z. omega (arith, z.1, set_weighs_lem false bs))

    -- The bindings of a set, and its expression, which weighs one more.
    pub finish_weighs : {K : Type 0} (s : SetId) → NestedOnce (length ss) es → s < length ss → Weighs X ss es K bindings_weigh (sum_by (weighs_from ω s) es + (length ss - suc s) + 0) (finish s)
    unfolding finish
    finish_weighs {K} s f h = weighs_asks (λ st. length st.sets) _ λ st i j. weighs_more _ (omega (arith, weight_forest ω (length ss) es f (length st.sets) s h)) (with_weighs (set_weighs ω es (length st.sets)) _ (to_weighs (length st.sets)) K s)

    pub finish_expr_weighs : {K : Type 0} (s : SetId) → NestedOnce (length ss) es → s < length ss → Weighs X ss es K ω (sum_by (weighs_from ω s) es + (length ss - suc s) + 1) (finish_expr s)
    unfolding finish_expr
    finish_expr_weighs {K} s f h = weighs_asks (λ st. length st.sets) _ λ st i j. weighs_more _ (omega (arith, set_own ω es (length st.sets) s, weight_forest ω (length ss) es f (length st.sets) s h)) (to_weighs (length st.sets) K s)

  -- ---- merging: every entry is of one of the sets
  pub record Sound (first : List MergingSet) (old : List MergingEntry) (st : State) : Type 0 where
    pub over : Over first old st
    pub owned : sum_by (weighs_from ω (length st.sets)) st.entries ≤ 0

  pub record Going (first : List MergingSet) (old : List MergingEntry) (st after : State) : Type 0 where
    pub sound : Sound first old after
    pub sets_more : length st.sets ≤ length after.sets
    pub grown : Grown st.exprs after.exprs

  -- what the entries of the sets from the base on weigh, and these sets themselves: at most u more
  pub record Gains {A : Type 0} (first : List MergingSet) (old : List MergingEntry) (n : ℕ) (H : Type 0) (u : ℕ) (p : Low A) : Type 0 where
    pub from : (st : State) → Sound first old st → n < length st.sets → Going first old st (p st).1
    pub light : H → (st : State) → Sound first old st → n < length st.sets → Grown (p st).1.exprs X → sum_by (weighs_from ω (length first)) (p st).1.entries + length (p st).1.sets ≤ sum_by (weighs_from ω (length first)) st.entries + length st.sets + u

  module _ {first : List MergingSet} {old : List MergingEntry} {n : ℕ} {H : Type 0} where
    pub gains_give : {A : Type 0} (a : A) → Gains first old n H 0 (give a)
    unfolding give
    gains_give a = record { from = λ st o i. record { sound = o; sets_more = omega arith; grown = grown_same _ }; light = λ h st o i x. omega arith }

    pub gains_more : {A : Type 0} {u : ℕ} {p : Low A} (v : ℕ) → u ≤ v → Gains first old n H u p → Gains first old n H v p
    gains_more v h g = record { from = g.from; light = λ z st o i x. omega (arith, g.light z st o i x) }

    pub gains_when : {A : Type 0} {u : ℕ} {c : Bool} {p q : Low A} → (c ≡ true → Gains first old n H u p) → (c ≡ false → Gains first old n H u q) → Gains first old n H u (when c p q)
    unfolding when
    gains_when {c = true} f g = f refl
    gains_when {c = false} f g = g refl

    pub gains_then : {A B : Type 0} {u v : ℕ} {p : Low A} {f : A → Low B} → Gains first old n H u p → ((a : A) → Gains first old n H v (f a)) → Gains first old n H (u + v) (p >>= f)
    unfolding ◌>>=◌
    gains_then {p = p} g k = record {
      from = λ st o i.
          let y = g.from st o i in
          let z = (k (p st).0).from (p st).1 y.sound (omega (arith, y.sets_more)) in
          record { sound = z.sound; sets_more = omega (arith, y.sets_more, z.sets_more); grown = grown_then y.grown z.grown };
      light = λ h st o i x.
          let y = g.from st o i in
          let z = (k (p st).0).from (p st).1 y.sound (omega (arith, y.sets_more)) in
          omega (arith, g.light h st o i (grown_then z.grown x), (k (p st).0).light h (p st).1 y.sound (omega (arith, y.sets_more)) x);
    }

    pub gains_asks : {A B : Type 0} {u : ℕ} (g : State → A) (f : A → Low B) → ((st : State) → Sound first old st → n < length st.sets → Going first old st (f (g st) st).1) → (H → (st : State) → Sound first old st → n < length st.sets → Grown (f (g st) st).1.exprs X → sum_by (weighs_from ω (length first)) (f (g st) st).1.entries + length (f (g st) st).1.sets ≤ sum_by (weighs_from ω (length first)) st.entries + length st.sets + u) → Gains first old n H u (asks g >>= f)
    unfolding ◌>>=◌ asks
    gains_asks g f k l = record { from = k; light = l }

    -- a step that leaves the stacks, and then one that may use what it gave
    pub gains_after : {A B : Type 0} {val : A → ℕ} {u v : ℕ} {p : Low A} {f : A → Low B} → ((ss : List MergingSet) (es : List MergingEntry) → NestedOnce (length ss) es → sum_by (weighs_from ω (length ss)) es ≤ 0 → Weighs X ss es H val u p) → ((a : A) → Gains first old n (H × (val a ≤ u)) v (f a)) → Gains first old n H v (p >>= f)
    unfolding ◌>>=◌
    gains_after {p = p} w k = record {
      from = λ st o i.
          let y = (w st.sets st.entries o.over.fine o.owned).same st refl refl in
          let z = (k (p st).0).from (p st).1 (still st (p st).1 y o) (rw y.sets_same i) in
          record { sound = z.sound; sets_more = omega (arith, z.sets_more, ap length y.sets_same); grown = grown_then y.grown z.grown };
      light = λ h st o i x.
          let v = w st.sets st.entries o.over.fine o.owned in
          let y = v.same st refl refl in
          let z = (k (p st).0).from (p st).1 (still st (p st).1 y o) (rw y.sets_same i) in
          let l = (k (p st).0).light (h, v.light h st refl refl (grown_then z.grown x)) (p st).1 (still st (p st).1 y o) (rw y.sets_same i) x in
          omega (arith, l, ap length y.sets_same, ap (sum_by (weighs_from ω (length first))) y.entries_same);
    }
      where
        still : (st after : State) → Same st after → Sound first old st → Sound first old after
        still st after y o = record {
          over = record { fine = rw (y.sets_same, y.entries_same) o.over.fine; under = o.over.under; above = rw y.sets_same o.over.above; sets_kept = rw y.sets_same o.over.sets_kept; entries_kept = rw y.entries_same o.over.entries_kept };
          owned = rw (y.sets_same, y.entries_same) o.owned;
        }

  -- an entry more, of a set that is there
  entry_gains : {first : List MergingSet} {old : List MergingEntry} {H : Type 0} {u : ℕ} (s : SetId) (e : MergingEntry) → ((c : ℕ) → s < c → weighs_from ω c e ≤ 0) → (H → (k : ℕ) → weighs_from ω k e ≤ u) → ((st : State) → Over first old st → s < length st.sets → Over first old (add_entry e st).1) → Gains first old s H u (add_entry e)
  unfolding add_entry set_entries ◌>>=◌ asks
  entry_gains {first} s e f g k = record {
    from = λ st o i. record {
      sound = record { over = k st o.over i; owned = omega (arith, sum_append (weighs_from ω (length st.sets)) st.entries (e ∷ []), o.owned, f (length st.sets) i) };
      sets_more = omega arith;
      grown = grown_same _;
    };
    light = λ h st o i x. omega (arith, sum_append (weighs_from ω (length first)) st.entries (e ∷ []), g h (length first));
  }

  pub dynamic_gains : {first : List MergingSet} {old : List MergingEntry} {H : Type 0} {u : ℕ} (s : SetId) (k v : ExprId) → (H → ω k + ω v ≤ u) → Gains first old s H u (add_entry (dynamic s k v))
  dynamic_gains s k v h = entry_gains s (dynamic s k v) (λ c i. from_late s c (ω k + ω v) i) (λ z c. omega (arith, h z, from_picked (leb c s) (ω k + ω v))) (λ st o i. (merged_entry (dynamic s k v) st o tt (λ j. omega (arith, o.fine.once j))).over)

  pub source_gains : {first : List MergingSet} {old : List MergingEntry} {H : Type 0} {u : ℕ} (s : SetId) (e : ExprId) → (H → ω e ≤ u) → Gains first old s H u (add_entry (source s e))
  source_gains s e h = entry_gains s (source s e) (λ c i. from_late s c (ω e) i) (λ z c. omega (arith, h z, from_picked (leb c s) (ω e))) (λ st o i. (merged_entry (source s e) st o tt (λ j. omega (arith, o.fine.once j))).over)

  -- a set of its own
  pub own_set_weighs : {A : Type 0} {ss : List MergingSet} {es : List MergingEntry} {H : Type 0} {val : A → ℕ} (u c : ℕ) (k : NameKind) (p : Pointer) (q : SetId → Low (Unit {0})) (end : SetId → Low A)
      → NestedOnce (length ss) es → sum_by (weighs_from ω (length ss)) es ≤ 0
      → ((first : List MergingSet) (old : List MergingEntry) (s : SetId) → length first ≤ s → Gains first old s H u (q s))
      → ((first : List MergingSet) (old : List MergingEntry) (s : SetId) → NestedOnce (length first) old → s < length first → Weighs X first old H val (sum_by (weighs_from ω s) old + (length first - suc s) + c) (end s))
      → Weighs X ss es H val (u + c) (inner (new_set k p >>= λ s. q s >>= λ _. end s))
  unfolding inner ◌>>=◌ asks cut give new_set
  own_set_weighs {ss = ss} {es = es} u c k p q end fine owned into ends = record {
    same = λ st i j.
        let o = begun st i j in
        let a = (new_set k p st).1 in
        let l : length a.sets ≡ length st.sets + 1 = length-append st.sets _ in
        let s = (new_set k p st).0 in
        let y = (into st.sets st.entries s (omega arith)).from a o (omega arith) in
        let b = (q s a).1 in
        let z = (ends b.sets b.entries s y.sound.over.fine (omega (arith, y.sets_more))).same b refl refl in
        record { sets_same = rw z.sets_same y.sound.over.sets_kept; entries_same = rw z.entries_same y.sound.over.entries_kept; grown = grown_then y.grown z.grown };
    light = λ h st i j x.
        let o = begun st i j in
        let a = (new_set k p st).1 in
        let l : length a.sets ≡ length st.sets + 1 = length-append st.sets _ in
        let s = (new_set k p st).0 in
        let w = into st.sets st.entries s (omega arith) in
        let y = w.from a o (omega arith) in
        let b = (q s a).1 in
        let e = ends b.sets b.entries s y.sound.over.fine (omega (arith, y.sets_more)) in
        let z = e.same b refl refl in
        let before : sum_by (weighs_from ω (length st.sets)) st.entries ≤ 0 = rw (i, j) owned in
        omega (arith, e.light h b refl refl x, w.light h a o (omega arith) (grown_then z.grown x), before, y.sets_more);
  }
    where
      begun : (st : State) → st.sets ≡ ss → st.entries ≡ es → Sound st.sets st.entries (new_set k p st).1
      begun st i j =
          let l : length (new_set k p st).1.sets ≡ suc (length st.sets) = omega (arith, length-append st.sets (record { pointer = p; name_kind = k } ∷ [])) in
          let before : sum_by (weighs_from ω (length st.sets)) st.entries ≤ 0 = rw (i, j) owned in
          record {
            over = over_set k p st (record { fine = rw (i, j) fine; under = rw (i, j) fine.all; above = omega arith; sets_kept = take-length st.sets; entries_kept = take-length st.entries });
            owned = rw l (omega (arith, from_next ω (length st.sets) st.entries));
          }
