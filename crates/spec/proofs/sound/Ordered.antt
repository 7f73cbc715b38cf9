-- Every child has a lower number than its parent, in every lowered module. Assumes nothing.
use mathlib.Core.Path.{◌≡◌, refl, sym, ap, subst}
use mathlib.Core.Bool.{Bool, true, false}
use mathlib.Core.List.{List, [], ◌∷◌, ◌++◌}
use mathlib.Core.Option.{Option, none, some}
use Prim.Native.Nat.{ℕ, zero, suc, ◌<◌, ◌≤◌}
use native.Mathlib.Omega.{arith}
use lib.Dec.{eqb}
use lib.ListN.{length, get_or, set, take, get_or-append}
use lib.Seq.{get_or-append_seam}
use Rattle.words.specs.Order.{pick, order}
use Rattle.std.specs.declared.cmp.Ordering.{Ordering}
use Rattle.std.specs.declared.cmp.Ordering.TheVariants.{Less, Equal, Greater}
use Rattle.spec.specs.Basics.{Text, NodeId, ExprId, NameId}
use Rattle.spec.specs.Keys.{AttrKind, static_key, dynamic_key, kind, flag, text, pointer, attr_kind, get_str_literal}
use Rattle.spec.specs.Sheet.{Node}
use Rattle.spec.specs.Steps.{◌>>=◌, give, asks, when, each, each_of}
use Rattle.spec.specs.Module.{Pointer, InterpolPart, literal_part, interpol, BindingValue, expr, inherit, inherit_from, Bindings, Pat, Expr, missing, apply, reference, with_in, assert_in, attr_set, Made, NameKind}
use Rattle.spec.specs.State.{SetId, MergingEntry, static, source, dynamic, State, empty, Low, new_made, alloc_expr, alloc_missing, alloc_name, add_duplicate, new_set, set_entries, add_entry, set_entry, cut, inner}
use Rattle.spec.specs.Scopes.{one_or_none, field_defaults, pat_fields, interpolated, inherited, plain_values, if_inherited, if_plain, keys_and_values, form, bound}
use Rattle.spec.specs.Merge.{find, entry_at, with_value, with_nested, name_key, merge_value_at, merge_static_value, new_nested, nested_or, nested_static_at, get_or_create_nested_static, Static, here_or_later, insert_static, statics_of, sources_of, dynamics_of, finish_value, finish_static, finish_with, finish_to, finish_expr, finish, lower_opt, push_dynamic, merge_lowered, merge_into, merge_keyed, merge_attr_as, merge_attr_value, merge_step_as, merge_nested_attr_value, merge_path, merge_attrpath_val, inherit_value, inherit_as, inherit_attr, inherit_source, merge_inherit, merge_entry, merge_entries, desugar}
use Rattle.spec.specs.Lower.{lower_if_there, lower_part, string_as, lower_string, lower_path, lower_attr, lower_attrpath_opt, lower_name, lower_field, lower_pattern, lower_param, pair, lower_if_else, lower_select, lower_has_attr, lower_float, lower_integer, lower_lambda, lower_let_in, lower_list, lower_bin_op, lower_attr_set, lower_unary_op, lower_ident, lower_as, lower_expr, merge_bindings, module_of, lower_module}
use Rattle.spec.proofs.general.ListLaws.{length_snoc}
use Rattle.spec.proofs.general.Sums.{All, all_append, all_left, all_right, all_map, compared}
use Rattle.spec.proofs.once.Once.{walked_by}

-- ---- numbers below another
abbrev pub AllBelow : ℕ → List ExprId → Type 0
AllBelow n = All (λ c. c < n)

below_more : {n n' : ℕ} → n ≤ n' → (xs : List ExprId) → AllBelow n xs → AllBelow n' xs
below_more le xs a = all_map _ _ (λ c h. omega arith) xs a

-- the expressions that the items of a list have
abbrev ids_of : {A : Type 0} → (A → List ExprId) → List A → List ExprId
ids_of f [] = []
ids_of f (x ∷ xs) = f x ++ ids_of f xs

-- ---- the state
abbrev pub at : List Made → ℕ → Expr
at es i = (get_or es i (record { expr = missing; pointer = none })).expr

-- every child of an expression has a lower number
pub record Ordered (es : List Made) : Type 0 where
  pub children : (i : ℕ) → i < length es → AllBelow i (walked_by (form (at es i)))

abbrev value_ids : BindingValue → List ExprId
value_ids (expr e) = e ∷ []
value_ids (inherit e) = e ∷ []
value_ids (inherit_from e) = e ∷ []

abbrev entry_ids : MergingEntry → List ExprId
entry_ids (static s k x nested value) = ids_of value_ids (one_or_none value)
entry_ids (source s e) = e ∷ []
entry_ids (dynamic s k v) = k ∷ v ∷ []

abbrev EntryBelow : ℕ → MergingEntry → Type 0
EntryBelow n e = AllBelow n (entry_ids e)

record OrderedSoFar (st : State) : Type 0 where
  ordered : Ordered st.exprs
  entries : All (EntryBelow (length st.exprs)) st.entries

record Grown {A : Type 0} (ids : A → List ExprId) (st : State) (r : A × State) : Type 0 where
  ready : OrderedSoFar r.1
  longer : length st.exprs ≤ length r.1.exprs
  known : AllBelow (length r.1.exprs) (ids r.0)

-- a step that keeps the order wherever there are n expressions or more, and gives numbers of expressions that there are
record Grows {A : Type 0} (ids : A → List ExprId) (n : ℕ) (p : Low A) : Type 0 where
  grows : (st : State) → OrderedSoFar st → n ≤ length st.exprs → Grown ids st (p st)

abbrev none_of : {A : Type 0} → A → List ExprId
none_of a = []

abbrev itself : ExprId → List ExprId
itself e = e ∷ []

module _ {n : ℕ} where
  grows_next : {A B : Type 0} {ids : A → List ExprId} {ids' : B → List ExprId} {p : Low A} {f : A → Low B}
      → Grows ids n p → ((a : A) (n' : ℕ) → n ≤ n' → AllBelow n' (ids a) → Grows ids' n' (f a)) → Grows ids' n (p >>= f)
  unfolding ◌>>=◌
  grows_next {ids} {ids'} {p} {f} h g = record { grows = λ st ready le. go st le (h.grows st ready le) }
    where
      go : (st : State) → n ≤ length st.exprs → Grown ids st (p st) → Grown ids' st (f (p st).0 (p st).1)
      go st le a =
          let l = a.longer in
          let b = (g (p st).0 (length (p st).1.exprs) (omega arith) a.known).grows (p st).1 a.ready (omega arith) in
          record { ready = b.ready; longer = (let k = b.longer in omega arith); known = b.known }

  grows_give : {A : Type 0} {ids : A → List ExprId} (a : A) → AllBelow n (ids a) → Grows ids n (give a)
  unfolding give
  grows_give {ids} a b = record { grows = λ st ready le. record { ready = ready; longer = omega arith; known = below_more le (ids a) b } }

  grows_asks : {A B : Type 0} {ids : B → List ExprId} (g : State → A) {f : A → Low B} → ((a : A) → Grows ids n (f a)) → Grows ids n (asks g >>= f)
  unfolding ◌>>=◌ asks
  grows_asks g h = record { grows = λ st ready le. (h (g st)).grows st ready le }

  grows_when : {A : Type 0} {ids : A → List ExprId} {p q : Low A} (b : Bool) → Grows ids n p → Grows ids n q → Grows ids n (when b p q)
  unfolding when
  grows_when true h g = h
  grows_when false h g = g

grows_each : {A B : Type 0} {ids : B → List ExprId} (src : A → List ExprId) {f : A → Low B}
    → ((x : A) (n : ℕ) → AllBelow n (src x) → Grows ids n (f x)) → (n : ℕ) (xs : List A) → AllBelow n (ids_of src xs) → Grows (ids_of ids) n (each f xs)
unfolding each
grows_each src h n [] a = grows_give [] tt
grows_each {ids} src h n (x ∷ xs) a =
    grows_next (h x n (all_left _ (src x) (ids_of src xs) a)) λ y n₁ l₁ b₁.
    grows_next (grows_each src h n₁ xs (below_more l₁ (ids_of src xs) (all_right _ (src x) (ids_of src xs) a))) λ ys n₂ l₂ b₂.
    grows_give (y ∷ ys) (all_append _ (ids y) (ids_of ids ys) (below_more l₂ (ids y) b₁) b₂)

nothing_below : {A : Type 0} (n : ℕ) (xs : List A) → AllBelow n (ids_of none_of xs)
nothing_below n [] = tt
nothing_below n (x ∷ xs) = nothing_below n xs

-- where nothing need be known
grows_all : {A B : Type 0} {ids : B → List ExprId} {f : A → Low B} → ((x : A) (n : ℕ) → Grows ids n (f x)) → (n : ℕ) (xs : List A)
    → Grows (ids_of ids) n (each f xs)
grows_all h n xs = grows_each none_of (λ x k _. h x k) n xs (nothing_below n xs)

grows_each_of : {A : Type 0} {f : A → Low (Unit {0})} → ((x : A) (n : ℕ) → Grows none_of n (f x)) → (n : ℕ) (xs : List A) → Grows none_of n (each_of f xs)
unfolding each_of
grows_each_of h n [] = grows_give tt tt
grows_each_of h n (x ∷ xs) = grows_next (h x n) λ _ n₁ _ _. grows_each_of h n₁ xs

-- ---- allocation
made_ordered : (es : List Made) (d : Made) → Ordered es → AllBelow (length es) (walked_by (form d.expr)) → Ordered (es ++ (d ∷ []))
made_ordered es d o b = record { children = λ i l. compared i (length es) (λ p. last i p) (λ n. earlier i (let k = length_snoc es d in omega arith)) }
  where
    last : (i : ℕ) → i ≡ length es → AllBelow i (walked_by (form (at (es ++ (d ∷ [])) i)))
    last i p =
        let q : at (es ++ (d ∷ [])) (length es) ≡ d.expr = ap (λ (k : Made). k.expr) (get_or-append_seam es d [] _) in
        rw p (subst (λ (x : Expr). AllBelow (length es) (walked_by (form x))) (sym q) b)

    earlier : (i : ℕ) → i < length es → AllBelow i (walked_by (form (at (es ++ (d ∷ [])) i)))
    earlier i l =
        let q : at (es ++ (d ∷ [])) i ≡ at es i = ap (λ (k : Made). k.expr) (get_or-append es (d ∷ []) _ i l) in
        subst (λ (x : Expr). AllBelow i (walked_by (form x))) (sym q) (o.children i l)

entries_more : {n n' : ℕ} → n ≤ n' → (es : List MergingEntry) → All (EntryBelow n) es → All (EntryBelow n') es
entries_more le es a = all_map _ _ (λ e b. below_more le (entry_ids e) b) es a

grows_made : {n : ℕ} (d : Made) → AllBelow n (walked_by (form d.expr)) → Grows itself n (new_made d)
unfolding new_made
grows_made d b =
    record {
      grows = λ st ready le.
          let k = length_snoc st.exprs d in
          record {
            ready = record {
              ordered = made_ordered st.exprs d ready.ordered (below_more le (walked_by (form d.expr)) b);
              entries = entries_more (omega arith) st.entries ready.entries;
            };
            longer = omega arith;
            known = (omega arith, tt);
          };
    }

grows_alloc : {n : ℕ} (e : Expr) (p : Pointer) → AllBelow n (walked_by (form e)) → Grows itself n (alloc_expr e p)
unfolding alloc_expr
grows_alloc e p b = grows_made (record { expr = e; pointer = some p }) b

grows_missing : {n : ℕ} → Grows itself n alloc_missing
unfolding alloc_missing form
grows_missing = grows_made (record { expr = missing; pointer = none }) tt

-- steps that leave the expressions and the entries as they are
unchanged : {A : Type 0} (st : State) (r : A × State) → r.1.exprs ≡ st.exprs → r.1.entries ≡ st.entries → OrderedSoFar st → Grown none_of st r
unchanged st r p q ready =
    record {
      ready = record { ordered = rw p ready.ordered; entries = rw (p, q) ready.entries };
      longer = rw p (omega arith);
      known = tt;
    }

grows_name : {n : ℕ} (t : Text) (k : NameKind) (p : Pointer) → Grows none_of n (alloc_name t k p)
unfolding alloc_name
grows_name t k p = record { grows = λ st ready le. unchanged st _ refl refl ready }

grows_set : {n : ℕ} (k : NameKind) (p : Pointer) → Grows none_of n (new_set k p)
unfolding new_set
grows_set k p = record { grows = λ st ready le. unchanged st _ refl refl ready }

grows_add : {n : ℕ} (e : MergingEntry) → AllBelow n (entry_ids e) → Grows none_of n (add_entry e)
unfolding add_entry set_entries ◌>>=◌ asks
grows_add e b =
    record {
      grows = λ st ready le.
          record {
            ready = record { ordered = ready.ordered; entries = all_append _ st.entries (e ∷ []) ready.entries (below_more le (entry_ids e) b, tt) };
            longer = omega arith;
            known = tt;
          };
    }

-- ---- the numbers in the parts of expressions
abbrev part_ids : InterpolPart → List ExprId
part_ids (literal_part t) = []
part_ids (interpol e) = e ∷ []

abbrev field_ids : Option NameId × Option ExprId → List ExprId
field_ids f = one_or_none f.1

abbrev param_ids : Option NameId × Option Pat → List ExprId
param_ids p = ids_of field_ids (pat_fields p.1)

abbrev static_ids : NameId × BindingValue → List ExprId
static_ids b = value_ids b.1

abbrev dynamic_ids : ExprId × ExprId → List ExprId
dynamic_ids d = d.0 ∷ d.1 ∷ []

abbrev bindings_ids : Bindings → List ExprId
bindings_ids bs = ids_of static_ids bs.statics ++ (bs.inherit_froms ++ ids_of dynamic_ids bs.dynamics)

parts_below : (n : ℕ) (ps : List InterpolPart) → AllBelow n (ids_of part_ids ps) → AllBelow n (interpolated ps)
unfolding interpolated
parts_below n [] a = tt
parts_below n (literal_part t ∷ ps) a = parts_below n ps a
parts_below n (interpol e ∷ ps) a = (a.0, parts_below n ps a.1)

defaults_below : (n : ℕ) (fs : List (Option NameId × Option ExprId)) → AllBelow n (ids_of field_ids fs) → AllBelow n (field_defaults fs)
unfolding field_defaults
defaults_below n [] a = tt
defaults_below n (f ∷ fs) a =
    all_append _ (one_or_none f.1) (field_defaults fs) (all_left _ (one_or_none f.1) _ a)
    (defaults_below n fs (all_right _ (one_or_none f.1) (ids_of field_ids fs) a))

inherited_below : (n : ℕ) (bs : List (NameId × BindingValue)) → AllBelow n (ids_of static_ids bs) → AllBelow n (inherited bs)
unfolding inherited if_inherited
inherited_below n [] a = tt
inherited_below n (b ∷ bs) a = go b.1 a (inherited_below n bs)
  where
    go : (v : BindingValue) → AllBelow n (value_ids v ++ ids_of static_ids bs)
        → (AllBelow n (ids_of static_ids bs) → AllBelow n (inherited bs)) → AllBelow n (if_inherited v ++ inherited bs)
    go (expr e) a f = f a.1
    go (inherit e) a f = (a.0, f a.1)
    go (inherit_from e) a f = f a.1

plain_below : (n : ℕ) (bs : List (NameId × BindingValue)) → AllBelow n (ids_of static_ids bs) → AllBelow n (plain_values bs)
unfolding plain_values if_plain
plain_below n [] a = tt
plain_below n (b ∷ bs) a = go b.1 a (plain_below n bs)
  where
    go : (v : BindingValue) → AllBelow n (value_ids v ++ ids_of static_ids bs)
        → (AllBelow n (ids_of static_ids bs) → AllBelow n (plain_values bs)) → AllBelow n (if_plain v ++ plain_values bs)
    go (expr e) a f = (a.0, f a.1)
    go (inherit e) a f = f a.1
    go (inherit_from e) a f = f a.1

dynamics_below : (n : ℕ) (ds : List (ExprId × ExprId)) → AllBelow n (ids_of dynamic_ids ds) → AllBelow n (keys_and_values ds)
unfolding keys_and_values
dynamics_below n [] a = tt
dynamics_below n (d ∷ ds) a = (a.0, (a.1.0, dynamics_below n ds a.1.1))

bound_below : (n : ℕ) (bs : Bindings) (body : Option ExprId) → AllBelow n (bindings_ids bs) → AllBelow n (one_or_none body) → AllBelow n (walked_by (bound bs body))
bound_below n bs body a b =
    let s = all_left _ (ids_of static_ids bs.statics) _ a in
    let r = all_right _ (ids_of static_ids bs.statics) (bs.inherit_froms ++ ids_of dynamic_ids bs.dynamics) a in
    let f = all_left _ bs.inherit_froms _ r in
    let d = all_right _ bs.inherit_froms (ids_of dynamic_ids bs.dynamics) r in
    all_append _ (inherited bs.statics) _ (inherited_below n bs.statics s)
    (all_append _ (plain_values bs.statics) _ (plain_below n bs.statics s)
    (all_append _ bs.inherit_froms _ f (all_append _ (keys_and_values bs.dynamics) _ (dynamics_below n bs.dynamics d) b)))

list_below : (n : ℕ) (es : List ExprId) → AllBelow n (ids_of itself es) → AllBelow n es
list_below n [] a = tt
list_below n (e ∷ es) a = (a.0, list_below n es a.1)

-- ---- the lowering functions
module _ (nodes : List Node) (lower : NodeId → Low ExprId) (merge : SetId → NodeId → Low (Unit {0})) (lowers : (n : ℕ) (m : NodeId) → Grows itself n (lower m)) where
  opt_grows : (n : ℕ) (m : Option NodeId) → Grows itself n (lower_opt nodes lower merge m)
  unfolding lower_opt
  opt_grows n none = grows_missing
  opt_grows n (some m) = lowers n m

  there_grows : (n : ℕ) (m : Option NodeId) → Grows one_or_none n (lower_if_there nodes lower merge m)
  unfolding lower_if_there one_or_none
  there_grows n none = grows_give none tt
  there_grows n (some m) = grows_next (lowers n m) λ e _ _ b. grows_give (some e) b

  part_grows : (m : NodeId) (n : ℕ) → Grows part_ids n (lower_part nodes lower merge m)
  unfolding lower_part
  part_grows m n = grows_when _ (grows_give (literal_part _) tt) (grows_next (opt_grows n _) λ e _ _ b. grows_give (interpol e) b)

  string_grows : (n : ℕ) (m : NodeId) → Grows itself n (lower_string nodes lower merge m)
  unfolding lower_string string_as form
  string_grows n m = go (get_str_literal nodes m)
    where
      go : (t : Option Text) → Grows itself n (string_as nodes lower merge m t)
      go (some t) = grows_alloc _ _ tt
      go none = grows_next (grows_all part_grows n _) λ ps k _ b. grows_alloc _ _ (parts_below k ps b)

  path_grows : (n : ℕ) (m : NodeId) → Grows itself n (lower_path nodes lower merge m)
  unfolding lower_path form
  path_grows n m = grows_when _ (grows_next (grows_all part_grows n _) λ ps k _ b. grows_alloc _ _ (parts_below k ps b)) (grows_alloc _ _ tt)

  attr_grows : (m : NodeId) (n : ℕ) → Grows itself n (lower_attr nodes lower merge m)
  unfolding lower_attr form
  attr_grows m n = grows_when _ (opt_grows n _) (grows_when _ (string_grows n m) (grows_when _ (grows_alloc _ _ tt) grows_missing))

  attrpath_grows : (n : ℕ) (p : Option NodeId) → Grows (ids_of itself) n (lower_attrpath_opt nodes lower merge p)
  unfolding lower_attrpath_opt
  attrpath_grows n p = grows_all attr_grows n _

  name_grows : (n : ℕ) (k : NameKind) (m : Option NodeId) → Grows none_of n (lower_name nodes lower merge k m)
  unfolding lower_name
  name_grows n k none = grows_give none tt
  name_grows n k (some i) = grows_next (grows_name _ _ _) λ x _ _ _. grows_give (some x) tt

  field_grows : (m : NodeId) (n : ℕ) → Grows field_ids n (lower_field nodes lower merge m)
  unfolding lower_field
  field_grows m n = grows_next (name_grows n _ _) λ x k _ _. grows_next (there_grows k _) λ e _ _ b. grows_give (x, e) b

  param_grows : (n : ℕ) (m : Option NodeId) → Grows param_ids n (lower_param nodes lower merge m)
  unfolding lower_param lower_pattern pat_fields
  param_grows n none = grows_give (none, none) tt
  param_grows n (some m) =
      grows_when _ (grows_next (name_grows n _ _) λ x _ _ _. grows_give (x, none) tt)
      (grows_next (name_grows n _ _) λ x k _ _. grows_next (grows_all field_grows k _) λ fs _ _ b. grows_give _ b)

  pair_grows : (f : ExprId → ExprId → Expr) → ((a b k : ℕ) → a < k → b < k → AllBelow k (walked_by (form (f a b)))) → (n : ℕ) (m : NodeId)
      → Grows itself n (pair nodes lower merge f m)
  unfolding pair
  pair_grows f h n m =
      grows_next (opt_grows n _) λ a k₁ _ x. grows_next (opt_grows k₁ _) λ b k₂ l y. grows_alloc _ _ (h a b k₂ (let z = x.0 in omega arith) y.0)

  if_grows : (n : ℕ) (m : NodeId) → Grows itself n (lower_if_else nodes lower merge m)
  unfolding lower_if_else form
  if_grows n m =
      grows_next (opt_grows n _) λ c k₁ _ x. grows_next (opt_grows k₁ _) λ t k₂ l y. grows_next (opt_grows k₂ _) λ e k₃ l' z. grows_alloc _ _ (omega arith)

  select_grows : (n : ℕ) (m : NodeId) → Grows itself n (lower_select nodes lower merge m)
  unfolding lower_select form
  select_grows n m =
      grows_next (opt_grows n _) λ s k₁ _ x. grows_next (attrpath_grows k₁ _) λ p k₂ l y. grows_next (there_grows k₂ _) λ d k₃ l' z.
      grows_alloc _ _ ((let w = x.0 in omega arith), all_append _ p (one_or_none d) (below_more l' p (list_below k₂ p y)) z)

  has_grows : (n : ℕ) (m : NodeId) → Grows itself n (lower_has_attr nodes lower merge m)
  unfolding lower_has_attr form
  has_grows n m =
      grows_next (opt_grows n _) λ s k₁ _ x. grows_next (attrpath_grows k₁ _) λ p k₂ l y. grows_alloc _ _ ((let w = x.0 in omega arith), list_below k₂ p y)

  lambda_grows : (n : ℕ) (m : NodeId) → Grows itself n (lower_lambda nodes lower merge m)
  unfolding lower_lambda form
  lambda_grows n m =
      grows_next (param_grows n _) λ p k₁ _ x. grows_next (opt_grows k₁ _) λ b k₂ l y.
      grows_alloc _ _
      (all_append _ (field_defaults (pat_fields p.1)) (b ∷ []) (below_more l (field_defaults (pat_fields p.1)) (defaults_below k₁ (pat_fields p.1) x)) y)

  ident_grows : (n : ℕ) (m : NodeId) → Grows itself n (lower_ident nodes lower merge m)
  unfolding lower_ident form
  ident_grows n m = grows_alloc _ _ (go (eqb (flag nodes m) 1))
    where
      go : (b : Bool) → AllBelow n (walked_by (form (pick b (reference (text nodes m)) missing)))
      go true = tt
      go false = tt

  module _ (merges : (n : ℕ) (k : NameKind) (m : NodeId) → Grows bindings_ids n (desugar nodes lower merge k m)) where
    let_grows : (n : ℕ) (m : NodeId) → Grows itself n (lower_let_in nodes lower merge m)
    unfolding lower_let_in form one_or_none
    let_grows n m =
        grows_next (merges n _ _) λ bs k₁ _ x. grows_next (opt_grows k₁ _) λ b k₂ l y.
        grows_alloc _ _ (bound_below k₂ bs (some b) (below_more l (bindings_ids bs) x) y)

    as_grows : (n k : ℕ) (m : NodeId) → Grows itself n (lower_as nodes lower merge k m)
    unfolding lower_as lower_float lower_integer lower_list lower_bin_op lower_attr_set lower_unary_op form one_or_none
    as_grows n k m =
        grows_when _ (pair_grows apply (λ a b j x y. (x, (y, tt))) n m)
        (grows_when _ (if_grows n m)
        (grows_when _ (select_grows n m)
        (grows_when _ (pair_grows with_in (λ a b j x y. (x, (y, tt))) n m)
        (grows_when _ (has_grows n m)
        (grows_when _ (string_grows n m)
        (grows_when _ (path_grows n m)
        (grows_when _ (grows_when _ (grows_alloc _ _ tt) grows_missing)
        (grows_when _ (grows_when _ (grows_alloc _ _ tt) grows_missing)
        (grows_when _ (grows_alloc _ _ tt)
        (grows_when _ (lambda_grows n m)
        (grows_when _ (let_grows n m)
        (grows_when _ (grows_next (grows_all (λ x j. lowers j x) n _) λ es k₁ _ x. grows_alloc _ _ (list_below k₁ es x))
        (grows_when _ (grows_next (opt_grows n _) λ a k₁ _ x. grows_when _ grows_missing (grows_next (opt_grows k₁ _) λ b k₂ l y. grows_alloc _ _ (omega arith)))
        (grows_when _ (opt_grows n _)
        (grows_when _ (grows_next (merges n _ _) λ bs k₁ _ x. grows_alloc _ _ (bound_below k₁ bs none x tt))
        (grows_when _ (grows_when _ grows_missing (grows_next (opt_grows n _) λ a k₁ _ x. grows_alloc _ _ x))
        (grows_when _ (ident_grows n m)
        (grows_when _ (pair_grows assert_in (λ a b j x y. (y, (x, tt))) n m)
        (grows_when _ (opt_grows n _)
        (grows_alloc _ _ tt))))))))))))))))))))

-- ---- entries changed in their place
set_below : (n : ℕ) (f : MergingEntry → MergingEntry) → ((e : MergingEntry) → EntryBelow n e → EntryBelow n (f e))
    → (es : List MergingEntry) (i : ℕ) (d : MergingEntry) → All (EntryBelow n) es → All (EntryBelow n) (set es i (f (get_or es i d)))
set_below n f h [] i d a = tt
set_below n f h (e ∷ es) zero d a = (h e a.0, a.1)
set_below n f h (e ∷ es) (suc i) d a = (a.0, set_below n f h es i d a.1)

value_below : (n : ℕ) (v : BindingValue) → AllBelow n (value_ids v) → (e : MergingEntry) → EntryBelow n e → EntryBelow n (with_value v e)
unfolding with_value one_or_none
value_below n v b (static s k x nested value) a = all_append _ (value_ids v) [] b tt
value_below n v b (source s e) a = a
value_below n v b (dynamic s k w) a = a

nested_below : (n : ℕ) (t : SetId) (e : MergingEntry) → EntryBelow n e → EntryBelow n (with_nested t e)
unfolding with_nested
nested_below n t (static s k x nested value) a = a
nested_below n t (source s e) a = a
nested_below n t (dynamic s k w) a = a

key_grows : (n : ℕ) (s : SetId) (key : Text) (p : Pointer) → Grows none_of n (name_key s key p)
unfolding name_key
key_grows n s key p = grows_asks _ λ k. grows_name _ _ _

static_grows : (n : ℕ) (s : SetId) (key : Text) (p : Pointer) (v : BindingValue) → AllBelow n (value_ids v) → Grows none_of n (merge_static_value s key p v)
unfolding merge_static_value merge_value_at entry_at add_duplicate set_entry set_entries ◌>>=◌ asks one_or_none
static_grows n s key p v b = grows_asks (find s key) go
  where
    go : (o : Option ℕ) → Grows none_of n (merge_value_at s key p v o)
    go none = grows_next (key_grows n s key p) λ x k l _. grows_add (static s key x none (some v)) (all_append _ (value_ids v) [] (below_more l (value_ids v) b) tt)
    go (some i) =
        record {
          grows = λ st ready le.
              record {
                ready = record {
                  ordered = ready.ordered;
                  entries = set_below _ (with_value v) (value_below _ v (below_more le (value_ids v) b)) st.entries i _ ready.entries;
                };
                longer = omega arith;
                known = tt;
              };
        }

nested_or_lem : (n i : ℕ) (p : Pointer) (o : Option SetId) → Grows none_of n (nested_or i p o)
unfolding nested_or new_nested new_set entry_at set_entry set_entries give ◌>>=◌ asks
nested_or_lem n i p (some t) = grows_give t tt
nested_or_lem n i p none =
    record {
      grows = λ st ready le.
          record {
            ready = record {
              ordered = ready.ordered;
              entries = set_below _ (with_nested (length st.sets)) (nested_below _ (length st.sets)) st.entries i _ ready.entries;
            };
            longer = omega arith;
            known = tt;
          };
    }

nested_at_lem : (n : ℕ) (s : SetId) (key : Text) (p : Pointer) (o : Option ℕ) → Grows none_of n (nested_static_at s key p o)
unfolding nested_static_at new_nested one_or_none
nested_at_lem n s key p none =
    grows_next (key_grows n s key p) λ x k l _. grows_next (grows_set _ _) λ t k₂ _ _.
    grows_next (grows_add (static s key x (some t) none) tt) λ _ _ _ _. grows_give t tt
nested_at_lem n s key p (some i) = grows_asks _ (nested_or_lem n i p)

nested_grows : (n : ℕ) (s : SetId) (key : Text) (p : Pointer) → Grows none_of n (get_or_create_nested_static s key p)
unfolding get_or_create_nested_static
nested_grows n s key p = grows_asks _ (nested_at_lem n s key p)

-- ---- finishing
abbrev key_ids : Static → List ExprId
key_ids x = ids_of value_ids (one_or_none x.value)

insert_below : (n : ℕ) (x : Static) (ys : List Static) → AllBelow n (key_ids x) → AllBelow n (ids_of key_ids ys) → AllBelow n (ids_of key_ids (insert_static x ys))
unfolding insert_static here_or_later
insert_below n x [] a b = all_append _ (key_ids x) [] a tt
insert_below n x (y ∷ ys) a b = go (order x.key y.key) (insert_below n x ys a)
  where
    go : (o : Ordering) → (AllBelow n (ids_of key_ids ys) → AllBelow n (ids_of key_ids (insert_static x ys)))
        → AllBelow n (ids_of key_ids (here_or_later o (x ∷ y ∷ ys) (y ∷ insert_static x ys)))
    go Less f = all_append _ (key_ids x) (ids_of key_ids (y ∷ ys)) a b
    go Equal f = all_append _ (key_ids x) (ids_of key_ids (y ∷ ys)) a b
    go Greater f =
        all_append _ (key_ids y) (ids_of key_ids (insert_static x ys)) (all_left _ (key_ids y) (ids_of key_ids ys) b) (f (all_right _ (key_ids y) (ids_of key_ids ys) b))

-- what the entries have for a set
record TakenBelow (n : ℕ) (s : SetId) (es : List MergingEntry) : Type 0 where
  statics : AllBelow n (ids_of key_ids (statics_of s es))
  sources : AllBelow n (sources_of s es)
  dynamics : AllBelow n (ids_of dynamic_ids (dynamics_of s es))

taken_below : (n : ℕ) (s : SetId) (es : List MergingEntry) → All (EntryBelow n) es → TakenBelow n s es
unfolding statics_of sources_of dynamics_of
taken_below n s [] a = record { statics = tt; sources = tt; dynamics = tt }
taken_below n s (static t k x nested value ∷ es) a =
    let h = taken_below n s es a.1 in
    record { statics = go (eqb t s) h.statics; sources = h.sources; dynamics = h.dynamics }
  where
    go : (b : Bool) → AllBelow n (ids_of key_ids (statics_of s es))
        → AllBelow n (ids_of key_ids (pick b (insert_static (record { key = k; name = x; nested = nested; value = value }) (statics_of s es)) (statics_of s es)))
    go true h = insert_below n _ (statics_of s es) a.0 h
    go false h = h
taken_below n s (source t e ∷ es) a =
    let h = taken_below n s es a.1 in
    record { statics = h.statics; sources = go (eqb t s) h.sources; dynamics = h.dynamics }
  where
    go : (b : Bool) → AllBelow n (sources_of s es) → AllBelow n (pick b (e ∷ sources_of s es) (sources_of s es))
    go true h = (a.0.0, h)
    go false h = h
taken_below n s (dynamic t k v ∷ es) a =
    let h = taken_below n s es a.1 in
    record { statics = h.statics; sources = h.sources; dynamics = go (eqb t s) h.dynamics }
  where
    go : (b : Bool) → AllBelow n (ids_of dynamic_ids (dynamics_of s es)) → AllBelow n (ids_of dynamic_ids (pick b ((k, v) ∷ dynamics_of s es) (dynamics_of s es)))
    go true h = (a.0.0, (a.0.1.0, h))
    go false h = h

module _ (fin : SetId → Low ExprId) (finishes : (n : ℕ) (t : SetId) → Grows itself n (fin t)) where
  value_finishes : (n : ℕ) (nested : Option SetId) (value : Option BindingValue) → AllBelow n (ids_of value_ids (one_or_none value))
      → Grows value_ids n (finish_value fin nested value)
  unfolding finish_value one_or_none
  value_finishes n (some t) value a = grows_next (finishes n t) λ e _ _ b. grows_give (expr e) b
  value_finishes n none (some v) a = grows_give v (all_left _ (value_ids v) [] a)
  value_finishes n none none a = grows_next grows_missing λ e _ _ b. grows_give (expr e) b

  static_finishes : (x : Static) (n : ℕ) → AllBelow n (key_ids x) → Grows static_ids n (finish_static fin x)
  unfolding finish_static
  static_finishes x n a = grows_next (value_finishes n x.nested x.value a) λ v _ _ b. grows_give (x.name, v) b

  with_finishes : (n : ℕ) (s : SetId) → Grows bindings_ids n (finish_with fin s)
  unfolding finish_with ◌>>=◌ asks
  with_finishes n s =
      record { grows = λ st ready le. (go st.entries (length st.exprs) (taken_below _ s st.entries ready.entries)).grows st ready (omega arith) }
    where
      go : (es : List MergingEntry) (k : ℕ) → TakenBelow k s es
          → Grows bindings_ids k
          (each (finish_static fin) (statics_of s es)
          >>= λ statics. give (record { statics = statics; inherit_froms = sources_of s es; dynamics = dynamics_of s es }))
      go es k h =
          grows_next (grows_each key_ids static_finishes k (statics_of s es) h.statics) λ statics k₁ l b.
          grows_give (record { statics = statics; inherit_froms = sources_of s es; dynamics = dynamics_of s es })
          (all_append _ (ids_of static_ids statics) _ b
          (all_append _ (sources_of s es) _ (below_more l (sources_of s es) h.sources) (below_more l (ids_of dynamic_ids (dynamics_of s es)) h.dynamics)))

to_finishes : (b n : ℕ) (s : SetId) → Grows itself n (finish_to b s)
unfolding finish_to form one_or_none
to_finishes zero n s = grows_missing
to_finishes (suc b) n s =
    grows_next (with_finishes (finish_to b) (to_finishes b) n s) λ bs k _ a. grows_asks _ λ p. grows_alloc (attr_set false bs) p (bound_below k bs none a tt)

expr_finishes : (n : ℕ) (s : SetId) → Grows itself n (finish_expr s)
unfolding finish_expr
expr_finishes n s = grows_asks _ λ b. to_finishes b n s

set_finishes : (n : ℕ) (s : SetId) → Grows bindings_ids n (finish s)
unfolding finish
set_finishes n s = grows_asks _ λ b. with_finishes (finish_to b) (to_finishes b) n s

-- a set of its own
all_take : {A : Type 0} (P : A → Type 0) (k : ℕ) (xs : List A) → All P xs → All P (take k xs)
all_take P zero xs a = tt
all_take P (suc k) [] a = tt
all_take P (suc k) (x ∷ xs) a = (a.0, all_take P k xs a.1)

inner_grows : {A : Type 0} {ids : A → List ExprId} {p : Low A} (n : ℕ) → Grows ids n p → Grows ids n (inner p)
unfolding inner cut give ◌>>=◌ asks
inner_grows {ids} {p} n h = record { grows = λ st ready le. go st (h.grows st ready le) }
  where
    go : (st : State) → Grown ids st (p st) → Grown ids st (inner p st)
    go st a =
        record {
          ready = record { ordered = a.ready.ordered; entries = all_take _ (length st.entries) (p st).1.entries a.ready.entries };
          longer = a.longer;
          known = a.known;
        }

-- ---- the entries
module _ (nodes : List Node) (lower : NodeId → Low ExprId) (merge : SetId → NodeId → Low (Unit {0})) (lowers : (n : ℕ) (m : NodeId) → Grows itself n (lower m))
    (merging : (n : ℕ) (s : SetId) (m : NodeId) → Grows none_of n (merge s m)) where
  opt : (n : ℕ) (m : Option NodeId) → Grows itself n (lower_opt nodes lower merge m)
  opt = opt_grows nodes lower merge lowers

  push_grows : (n : ℕ) (s : SetId) (key value : Option NodeId) → Grows none_of n (push_dynamic nodes lower merge s key value)
  unfolding push_dynamic
  push_grows n s key value = grows_next (opt n key) λ k k₁ _ x. grows_next (opt k₁ value) λ v k₂ l y. grows_add (dynamic s k v) (omega arith)

  lowered_grows : (n : ℕ) (s : SetId) (key : Text) (attr : NodeId) (value : Option NodeId) → Grows none_of n (merge_lowered nodes lower merge s key attr value)
  unfolding merge_lowered
  lowered_grows n s key attr value = grows_next (opt n value) λ e k _ b. static_grows k s key _ (expr e) b

  keyed_grows : (n : ℕ) (s : SetId) (key : Text) (attr : NodeId) (value : Option NodeId) → Grows none_of n (merge_keyed nodes lower merge s key attr value)
  unfolding merge_keyed merge_into
  keyed_grows n s key attr none = lowered_grows n s key attr none
  keyed_grows n s key attr (some value) = grows_when _ (grows_asks _ go) (lowered_grows n s key attr (some value))
    where
      go : (o : Option SetId) → Grows none_of n (merge_into nodes lower merge s key attr value o)
      go none = lowered_grows n s key attr (some value)
      go (some t) = merging n t value

  attr_value_grows : (n : ℕ) (s : SetId) (attr : NodeId) (value : Option NodeId) → Grows none_of n (merge_attr_value nodes lower merge s attr value)
  unfolding merge_attr_value merge_attr_as
  attr_value_grows n s attr value = go (attr_kind nodes attr)
    where
      go : (k : AttrKind) → Grows none_of n (merge_attr_as nodes lower merge s attr value k)
      go (static_key key) = keyed_grows n s key attr value
      go (dynamic_key key) = push_grows n s key value

  step_grows : (n : ℕ) (s : SetId) (attr : NodeId) (rest : SetId → Low (Unit {0})) → ((k : ℕ) (t : SetId) → Grows none_of k (rest t)) → (k : AttrKind)
      → Grows none_of n (merge_step_as nodes lower merge s attr rest k)
  unfolding merge_step_as new_nested
  step_grows n s attr rest h (static_key key) = grows_next (nested_grows n s key _) λ t k _ _. h k t
  step_grows n s attr rest h (dynamic_key key) =
      grows_next (inner_grows n (grows_next (grows_set _ _) λ t k _ _. grows_next (h k t) λ _ k₁ _ _. expr_finishes k₁ t)) λ e k₁ _ x.
      grows_next (opt k₁ key) λ k k₂ l y. grows_add (dynamic s k e) (omega arith)

  path_value_grows : (n : ℕ) (s : SetId) (attr : NodeId) (more : List NodeId) (value : Option NodeId)
      → Grows none_of n (merge_nested_attr_value nodes lower merge s attr more value)
  unfolding merge_nested_attr_value
  path_value_grows n s attr [] value = attr_value_grows n s attr value
  path_value_grows n s attr (a ∷ more) value = step_grows n s attr _ (λ k t. path_value_grows k t a more value) (attr_kind nodes attr)

  attrs_grow : (n : ℕ) (s : SetId) (attrs : List NodeId) (value : Option NodeId) → Grows none_of n (merge_path nodes lower merge s attrs value)
  unfolding merge_path
  attrs_grow n s [] value = push_grows n s none value
  attrs_grow n s (a ∷ more) value = path_value_grows n s a more value

  inherit_value_grows : (n : ℕ) (set : Option ExprId) → AllBelow n (one_or_none set) → (key : Text) (p : Pointer)
      → Grows value_ids n (inherit_value nodes lower merge set key p)
  unfolding inherit_value form one_or_none
  inherit_value_grows n none a key p = grows_next (grows_alloc _ _ tt) λ e _ _ b. grows_give (inherit e) b
  inherit_value_grows n (some set) a key p =
      grows_next (grows_alloc _ _ tt) λ l k₁ m x. grows_next (grows_alloc _ _ (let z = a.0 in (omega arith, (x.0, tt)))) λ e _ _ b. grows_give (inherit_from e) b

  inherit_grows : (s : SetId) (set : Option ExprId) (attr : NodeId) (n : ℕ) → AllBelow n (one_or_none set)
      → Grows none_of n (inherit_attr nodes lower merge s set attr)
  unfolding inherit_attr inherit_as
  inherit_grows s set attr n a = go (attr_kind nodes attr)
    where
      go : (k : AttrKind) → Grows none_of n (inherit_as nodes lower merge s set attr k)
      go (static_key key) = grows_next (inherit_value_grows n set a key (pointer nodes attr)) λ v k _ b. static_grows k s key _ v b
      go (dynamic_key e) = push_grows n s none e

  inherits_grow : (s : SetId) (set : Option ExprId) (n : ℕ) (attrs : List NodeId) → AllBelow n (one_or_none set)
      → Grows none_of n (each_of (inherit_attr nodes lower merge s set) attrs)
  unfolding each_of
  inherits_grow s set n [] a = grows_give tt tt
  inherits_grow s set n (x ∷ xs) a = grows_next (inherit_grows s set x n a) λ _ k l _. inherits_grow s set k xs (below_more l (one_or_none set) a)

  source_grows : (n : ℕ) (s : SetId) (from : Option NodeId) → Grows one_or_none n (inherit_source nodes lower merge s from)
  unfolding inherit_source one_or_none
  source_grows n s none = grows_give none tt
  source_grows n s (some from) = grows_next (opt n _) λ e k _ b. grows_next (grows_add (source s e) b) λ _ k₁ l _. grows_give (some e) (below_more l (e ∷ []) b)

  entry_grows : (s : SetId) (m : NodeId) (n : ℕ) → Grows none_of n (merge_entry nodes lower merge s m)
  unfolding merge_entry merge_inherit merge_attrpath_val
  entry_grows s m n = grows_when _ (grows_next (source_grows n s _) λ set k _ b. inherits_grow s set k _ b) (attrs_grow n s _ _)

  entries_grow : (n : ℕ) (s : SetId) (m : NodeId) → Grows none_of n (merge_entries nodes lower merge s m)
  unfolding merge_entries
  entries_grow n s m = grows_each_of (entry_grows s) n _

  desugar_grows : (n : ℕ) (k : NameKind) (m : NodeId) → Grows bindings_ids n (desugar nodes lower merge k m)
  unfolding desugar
  desugar_grows n k m = inner_grows n (grows_next (grows_set _ _) λ s k₁ _ _. grows_next (entries_grow k₁ s m) λ _ k₂ _ _. set_finishes k₂ s)

-- ---- the knot
module _ (nodes : List Node) where
  record AtDepth (depth : ℕ) : Type 0 where
    lowers : (n : ℕ) (m : NodeId) → Grows itself n (lower_expr nodes depth m)
    merges : (n : ℕ) (s : SetId) (m : NodeId) → Grows none_of n (merge_bindings nodes depth s m)

  at_depth : (depth : ℕ) → AtDepth depth
  unfolding lower_expr merge_bindings
  at_depth zero = record { lowers = λ n m. grows_missing; merges = λ n s m. grows_give tt tt }
  at_depth (suc depth) = go (at_depth depth)
    where
      go : AtDepth depth → AtDepth (suc depth)
      go h =
          let lower : NodeId → Low ExprId = λ m. lower_expr nodes depth m in
          let merge : SetId → NodeId → Low (Unit {0}) = λ s m. merge_bindings nodes depth s m in
          record {
            lowers = λ n m. as_grows nodes lower merge h.lowers (desugar_grows nodes lower merge h.lowers h.merges) n (kind nodes m) m;
            merges = λ n s m. entries_grow nodes lower merge h.lowers h.merges n s m;
          }

-- THEOREM. In a lowered module every child that is walked has a lower number than its parent, and the entry is an
-- expression of the module.
pub lowered_ordered : (nodes : List Node) → Ordered (lower_module nodes).exprs × ((lower_module nodes).entry < length (lower_module nodes).exprs)
unfolding lower_module module_of
lowered_ordered nodes =
    let g = ((at_depth nodes 256).lowers 0 0).grows empty (record { ordered = record { children = λ i l. absurd (omega arith) }; entries = tt }) (omega arith) in
    (g.ready.ordered, g.known.0)
