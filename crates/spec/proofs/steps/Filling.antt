-- How many list items and References steps of lowering make, each entry being merged counted as the item that it
-- becomes. Assumes nothing.
use mathlib.Core.Path.{◌≡◌, refl, sym, subst, ◌∙◌}
use mathlib.Core.Bool.{Bool, true, false}
use mathlib.Core.List.{List, [], ◌∷◌, ◌++◌}
use mathlib.Core.Option.{Option, none, some}
use Prim.Native.Nat.{ℕ, zero, suc, ◌+◌, ◌*◌, ◌≤◌}
use native.Mathlib.Omega.{arith}
use lib.Dec.{eqb}
use lib.ListN.{length}
use Rattle.words.specs.Order.{pick}
use Rattle.spec.specs.Basics.{Text, ExprId, maybe}
use Rattle.spec.specs.Steps.{◌>>=◌, give, asks, when, each}
use Rattle.spec.specs.Module.{Pointer, BindingValue, expr, Bindings, Expr, missing, apply, if_then_else, literal, lambda, let_in, list, bin_op, attr_set, unary_op, reference, select, has_attr, with_in, assert_in, string_interpolation, path_interpolation, Made, NameKind}
use Rattle.spec.specs.State.{SetId, MergingEntry, static, source, dynamic, State, Low, new_made, alloc_expr, alloc_missing, alloc_name}
use Rattle.spec.specs.Scopes.{one_or_none, pat_fields}
use Rattle.spec.specs.Answer.{reference_text}
use Rattle.spec.specs.Merge.{nested_in, Static, insert_static, statics_of, sources_of, dynamics_of, finish_value, finish_static, finish_with, finish_to, finish_expr, finish}
use Rattle.spec.proofs.general.Sums.{sum_by, sum_append, total}
use Rattle.spec.proofs.once.Weights.{Known}
use Rattle.spec.proofs.once.Nesting.{nested_of, own_of, sum_insert}

-- ---- what is counted
-- the items of the lists in bindings: static keys, sources, dynamic keys
abbrev pub binding_items : Bindings → ℕ
binding_items bs = length bs.statics + (length bs.inherit_froms + length bs.dynamics)

-- the items of the lists in an expression
abbrev pub items_in : Expr → ℕ
items_in missing = 0
items_in (apply f a) = 0
items_in (if_then_else c t e) = 0
items_in (literal l) = 0
items_in (lambda x p b) = length (pat_fields p)
items_in (let_in bs b) = binding_items bs
items_in (list es) = length es
items_in (bin_op l r op) = 0
items_in (attr_set r bs) = binding_items bs
items_in (unary_op op e) = 0
items_in (reference t) = 0
items_in (select s p d) = length p
items_in (has_attr s p) = length p
items_in (with_in e b) = 0
items_in (assert_in c b) = 0
items_in (string_interpolation ps) = length ps
items_in (path_interpolation ps) = length ps

-- 1 for a Reference
abbrev pub referring : Expr → ℕ
referring e = maybe (reference_text e) 0 (λ _. 1)

-- of all expressions
abbrev pub list_items : List Made → ℕ
list_items es = sum_by (λ d. items_in d.expr) es

abbrev pub references_in : List Made → ℕ
references_in es = sum_by (λ d. referring d.expr) es

-- ---- steps that leave the stacks
-- what is in hand in the end, by its weight w, and the items made are at most what was in hand and u more; the
-- References made at most v
pub record Filled {A : Type 0} (o : ℕ) (w : A → ℕ) (u v : ℕ) (st : State) (r : A × State) : Type 0 where
  pub entries : r.1.entries ≡ st.entries
  pub sets : r.1.sets ≡ st.sets
  pub items_few : w r.0 + list_items r.1.exprs ≤ o + u + list_items st.exprs
  pub refs_few : references_in r.1.exprs ≤ v + references_in st.exprs

pub record Fills {A : Type 0} (E : List MergingEntry) (o : ℕ) (w : A → ℕ) (u v : ℕ) (p : Low A) : Type 0 where
  pub fills : (st : State) → st.entries ≡ E → Known st → Filled o w u v st (p st)

abbrev pub light : {A : Type 0} → A → ℕ
light a = 0

abbrev pub each_one : {A : Type 0} → A → ℕ
each_one a = 1

pub sum_ones : {A : Type 0} (xs : List A) → sum_by each_one xs ≡ length xs
sum_ones [] = refl
sum_ones (x ∷ xs) = let h = sum_ones xs in omega arith

known_filled : {A : Type 0} {w : A → ℕ} {o u v : ℕ} {st : State} {r : A × State} → Filled o w u v st r → Known st → Known r.1
known_filled h k = rw (h.entries, h.sets) k

module _ {E : List MergingEntry} where
  -- what the first has in hand the second may use, beside what was in hand before
  pub fills_next : {A B : Type 0} {o : ℕ} {w : A → ℕ} {w' : B → ℕ} {u v u' v' : ℕ} {p : Low A} {f : A → Low B}
      → Fills E 0 w u v p → ((a : A) → Fills E (w a + o) w' u' v' (f a)) → Fills E o w' (u + u') (v + v') (p >>= f)
  unfolding ◌>>=◌
  fills_next {p = p} h k =
      record {
        fills = λ st same known.
            let a = h.fills st same known in
            let b = (k (p st).0).fills (p st).1 (a.entries ∙ same) (known_filled a known) in
            record {
              entries = b.entries ∙ a.entries;
              sets = b.sets ∙ a.sets;
              items_few = omega (arith, a.items_few, b.items_few);
              refs_few = omega (arith, a.refs_few, b.refs_few);
            };
      }

  pub fills_more : {A : Type 0} {o : ℕ} {w : A → ℕ} {u v : ℕ} {p : Low A} (u' v' : ℕ) → u ≤ u' → v ≤ v' → Fills E o w u v p → Fills E o w u' v' p
  fills_more u' v' l k h =
      record {
        fills = λ st same known.
            let a = h.fills st same known in
            record { entries = a.entries; sets = a.sets; items_few = omega (arith, a.items_few); refs_few = omega (arith, a.refs_few) };
      }

  -- c more in hand
  pub fills_pay : {A : Type 0} {o : ℕ} {w : A → ℕ} {u v : ℕ} {p : Low A} (c : ℕ) → Fills E (c + o) w u v p → Fills E o w (c + u) v p
  fills_pay c h =
      record {
        fills = λ st same known.
            let a = h.fills st same known in
            record { entries = a.entries; sets = a.sets; items_few = omega (arith, a.items_few); refs_few = a.refs_few };
      }

  -- in hand by another weight, which is at most c more
  pub fills_worth : {A : Type 0} {o : ℕ} {w : A → ℕ} {u v : ℕ} {p : Low A} (w' : A → ℕ) (c : ℕ) → ((a : A) → w' a ≤ w a + c) → Fills E o w u v p
      → Fills E o w' (u + c) v p
  fills_worth {p = p} w' c l h =
      record {
        fills = λ st same known.
            let a = h.fills st same known in
            record { entries = a.entries; sets = a.sets; items_few = omega (arith, a.items_few, l (p st).0); refs_few = a.refs_few };
      }

  pub fills_give : {A : Type 0} {o : ℕ} {w : A → ℕ} (a : A) → w a ≤ o → Fills E o w 0 0 (give a)
  unfolding give
  fills_give a l = record { fills = λ st same known. record { entries = refl; sets = refl; items_few = omega arith; refs_few = omega arith } }

  pub fills_asks : {A B : Type 0} {o : ℕ} {w : B → ℕ} {u v : ℕ} (g : State → A) (f : A → Low B) → ((a : A) → Fills E o w u v (f a)) → Fills E o w u v (asks g >>= f)
  unfolding ◌>>=◌ asks
  fills_asks g f h = record { fills = λ st same known. (h (g st)).fills st same known }

  pub fills_when : {A : Type 0} {o : ℕ} {w : A → ℕ} {u v : ℕ} {c : Bool} {p q : Low A} → (c ≡ true → Fills E o w u v p) → (c ≡ false → Fills E o w u v q)
      → Fills E o w u v (when c p q)
  unfolding when
  fills_when {c = true} f g = f refl
  fills_when {c = false} f g = g refl

  fills_each : {A B : Type 0} {w : B → ℕ} (c : A → ℕ) (f : A → Low B) → ((x : A) → Fills E 0 w (c x) 0 (f x)) → (xs : List A)
      → Fills E 0 (sum_by w) (sum_by c xs) 0 (each f xs)
  unfolding each
  fills_each c f h [] = fills_give [] (omega arith)
  fills_each c f h (x ∷ xs) =
      fills_more _ _ (omega arith) (omega arith) (fills_next (h x) λ y. fills_next (fills_each c f h xs) λ ys. fills_give (y ∷ ys) (omega arith))

  -- ---- allocation
  fills_made : {o : ℕ} (d : Made) → items_in d.expr ≤ o → Fills E o light 0 (referring d.expr) (new_made d)
  unfolding new_made
  fills_made d l =
      record {
        fills = λ st same known.
            record {
              entries = refl;
              sets = refl;
              items_few = omega (arith, sum_append (λ (d : Made). items_in d.expr) st.exprs (d ∷ []));
              refs_few = omega (arith, sum_append (λ (d : Made). referring d.expr) st.exprs (d ∷ []));
            };
      }

  -- the items of its lists have to be in hand
  pub fills_alloc : {o : ℕ} (e : Expr) (p : Pointer) → items_in e ≤ o → Fills E o light 0 (referring e) (alloc_expr e p)
  unfolding alloc_expr
  fills_alloc e p l = fills_made (record { expr = e; pointer = some p }) l

  pub fills_missing : {o : ℕ} → Fills E o light 0 0 alloc_missing
  unfolding alloc_missing reference_text
  fills_missing = fills_made (record { expr = missing; pointer = none }) (omega arith)

  pub fills_name : (t : Text) (k : NameKind) (p : Pointer) → Fills E 0 light 0 0 (alloc_name t k p)
  unfolding alloc_name
  fills_name t k p = record { fills = λ st same known. record { entries = refl; sets = refl; items_few = omega arith; refs_few = omega arith } }

-- ---- finishing: the entries of a set become items, and those of the sets nested in it
module _ (c : SetId → ℕ) where
  -- what a key takes, c being what each nested set takes
  abbrev key_takes : Static → ℕ
  key_takes x = 1 + sum_by c (one_or_none x.nested)

  -- the entries of a set, each once, and what is nested there
  taken_items : (es : List MergingEntry) (s : SetId)
      → sum_by key_takes (statics_of s es) + (length (sources_of s es) + length (dynamics_of s es)) ≤ own_of each_one es s + sum_by c (nested_of es s)
  unfolding statics_of sources_of dynamics_of nested_in one_or_none
  taken_items [] s = omega arith
  taken_items (static t k x nested value ∷ es) s = go (eqb t s) (taken_items es s)
    where
      go : (b : Bool) → sum_by key_takes (statics_of s es) + (length (sources_of s es) + length (dynamics_of s es)) ≤ own_of each_one es s + sum_by c (nested_of es s)
          → sum_by key_takes (pick b (insert_static (record { key = k; name = x; nested = nested; value = value }) (statics_of s es)) (statics_of s es)) + (length (sources_of s es) + length (dynamics_of s es))
          ≤ (1 * pick b 1 0 + own_of each_one es s) + sum_by c (pick b (one_or_none nested) [] ++ nested_of es s)
      go true h =
          omega (arith, sum_insert key_takes (record { key = k; name = x; nested = nested; value = value }) (statics_of s es), sum_append c (one_or_none nested) (nested_of es s))
      go false h = omega arith
  taken_items (source t e ∷ es) s = go (eqb t s) (taken_items es s)
    where
      go : (b : Bool) → sum_by key_takes (statics_of s es) + (length (sources_of s es) + length (dynamics_of s es)) ≤ own_of each_one es s + sum_by c (nested_of es s)
          → sum_by key_takes (statics_of s es) + (length (pick b (e ∷ sources_of s es) (sources_of s es)) + length (dynamics_of s es))
          ≤ (1 * pick b 1 0 + own_of each_one es s) + sum_by c (pick b (one_or_none none) [] ++ nested_of es s)
      go true h = omega arith
      go false h = omega arith
  taken_items (dynamic t k v ∷ es) s = go (eqb t s) (taken_items es s)
    where
      go : (b : Bool) → sum_by key_takes (statics_of s es) + (length (sources_of s es) + length (dynamics_of s es)) ≤ own_of each_one es s + sum_by c (nested_of es s)
          → sum_by key_takes (statics_of s es) + (length (sources_of s es) + length (pick b ((k, v) ∷ dynamics_of s es) (dynamics_of s es)))
          ≤ (1 * pick b 1 0 + own_of each_one es s) + sum_by c (pick b (one_or_none none) [] ++ nested_of es s)
      go true h = omega arith
      go false h = omega arith

  module _ (E : List MergingEntry) (fin : SetId → Low ExprId) (finishes : (t : SetId) → Fills E 0 light (c t) 0 (fin t)) where
    value_fills : (nested : Option SetId) (value : Option BindingValue) → Fills E 0 light (sum_by c (one_or_none nested)) 0 (finish_value fin nested value)
    unfolding finish_value one_or_none
    value_fills (some t) value = fills_more _ _ (omega arith) (omega arith) (fills_next (finishes t) λ e. fills_give {w = light} (expr e) (omega arith))
    value_fills none (some v) = fills_give v (omega arith)
    value_fills none none = fills_next fills_missing λ e. fills_give {w = light} (expr e) (omega arith)

    static_fills : (x : Static) → Fills E 0 each_one (key_takes x) 0 (finish_static fin x)
    unfolding finish_static
    static_fills x = fills_more _ _ (omega arith) (omega arith) (fills_next (value_fills x.nested x.value) λ v. fills_pay 1 (fills_give (x.name, v) (omega arith)))

    with_fills : (s : SetId) → Fills E 0 binding_items (own_of each_one E s + sum_by c (nested_of E s)) 0 (finish_with fin s)
    unfolding finish_with ◌>>=◌ asks
    with_fills s =
        record {
          fills = λ st same known.
              subst (λ (es : List MergingEntry). Filled 0 binding_items (own_of each_one E s + sum_by c (nested_of E s)) 0 st (after es st)) (sym same) (at_e.fills st same known);
        }
      where
        after : List MergingEntry → Low Bindings
        after es = each (finish_static fin) (statics_of s es) >>= λ statics. give (record { statics = statics; inherit_froms = sources_of s es; dynamics = dynamics_of s es })

        at_e : Fills E 0 binding_items (own_of each_one E s + sum_by c (nested_of E s)) 0 (after E)
        at_e =
            fills_more (own_of each_one E s + sum_by c (nested_of E s)) 0 (omega (arith, taken_items E s)) (omega arith)
            (fills_next (fills_each key_takes (finish_static fin) static_fills (statics_of s E)) λ statics.
            fills_pay (length (sources_of s E) + length (dynamics_of s E))
            (fills_give (record { statics = statics; inherit_froms = sources_of s E; dynamics = dynamics_of s E }) (omega (arith, sum_ones statics))))

module _ (E : List MergingEntry) where
  -- a set and what is nested in it, so many levels down
  abbrev pub set_items : ℕ → SetId → ℕ
  set_items = total (nested_of E) (own_of each_one E)

  to_fills : (b : ℕ) (s : SetId) → Fills E 0 light (set_items b s) 0 (finish_to b s)
  unfolding finish_to reference_text
  to_fills zero s = fills_missing
  to_fills (suc b) s =
      fills_more _ _ (omega arith) (omega arith)
      (fills_next (with_fills (set_items b) E (finish_to b) (to_fills b) s) λ bs. fills_asks _ _ λ p. fills_alloc (attr_set false bs) p (omega arith))

  pub expr_fills : (s : SetId) (st : State) → st.entries ≡ E → Known st → (b : ℕ) × Filled 0 light (set_items b s) 0 st (finish_expr s st)
  unfolding finish_expr ◌>>=◌ asks
  expr_fills s st same known = (length st.sets, (to_fills (length st.sets) s).fills st same known)

  pub finish_fills : (s : SetId) (st : State) → st.entries ≡ E → Known st → (b : ℕ) × Filled 0 binding_items (set_items b s) 0 st (finish s st)
  unfolding finish ◌>>=◌ asks
  finish_fills s st same known =
      let b = length st.sets in
      (suc b, (with_fills (set_items b) E (finish_to b) (to_fills b) s).fills st same known)
