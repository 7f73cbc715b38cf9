-- In the module of an accepted sheet every BinOp has one of the fifteen operators, every UnaryOp one of the two.
-- Assumes nothing.
use mathlib.Core.Path.{◌≡◌, refl}
use mathlib.Core.Bool.{Bool, true, false}
use mathlib.Core.List.{List, [], ◌∷◌}
use mathlib.Core.Option.{Option, none, some}
use Prim.Native.Nat.{ℕ, zero, suc, ◌≤◌}
use native.Mathlib.Omega.{arith}
use lib.Dec.{eqb}
use lib.ListN.{get_or}
use borrow.Author.Tests.{eqb-true, eqb-false}
use Rattle.words.specs.Order.{pick}
use Rattle.spec.specs.Basics.{Text, NodeId, ExprId}
use Rattle.spec.specs.Kinds.{kinds, kind_of}
use Rattle.spec.specs.Keys.{AttrKind, static_key, dynamic_key, kind, flag, text, pointer, attr_kind, get_str_literal}
use Rattle.spec.specs.Sheet.{Node, accepted}
use Rattle.spec.specs.Tree.{judge}
use Rattle.spec.specs.Steps.{◌>>=◌, give, asks, when, each, each_of}
use Rattle.spec.specs.Module.{Pointer, BindingValue, expr, inherit, inherit_from, Expr, missing, apply, if_then_else, literal, lambda, let_in, list, bin_op, attr_set, unary_op, reference, select, has_attr, with_in, assert_in, string_interpolation, path_interpolation, Made, NameKind}
use Rattle.spec.specs.State.{SetId, MergingEntry, State, empty, Low, new_made, alloc_expr, alloc_missing, alloc_name, add_duplicate, new_set, set_entries, add_entry, set_entry, cut, inner}
use Rattle.spec.specs.Scopes.{made_at, expr_at}
use Rattle.spec.specs.Merge.{find, name_key, merge_value_at, merge_static_value, new_nested, nested_or, nested_static_at, get_or_create_nested_static, Static, statics_of, finish_value, finish_static, finish_with, finish_to, finish_expr, finish, lower_opt, push_dynamic, merge_lowered, merge_into, merge_keyed, merge_attr_as, merge_attr_value, merge_step_as, merge_nested_attr_value, merge_path, merge_attrpath_val, inherit_value, inherit_as, inherit_attr, inherit_source, merge_inherit, merge_entry, merge_entries, desugar}
use Rattle.spec.specs.Lower.{lower_if_there, lower_part, string_as, lower_string, lower_path, lower_attr, lower_attrpath_opt, lower_name, lower_field, lower_pattern, lower_param, pair, lower_if_else, lower_select, lower_has_attr, lower_float, lower_integer, lower_lambda, lower_let_in, lower_list, lower_bin_op, lower_attr_set, lower_unary_op, lower_ident, lower_as, lower_expr, merge_bindings, module_of, lower_module}
use Rattle.spec.proofs.general.Sums.{All, all_append}
use Rattle.spec.proofs.reading.Flags.{flags_held}

-- docs/RULES.md, "Kinds": "14 BinOp (.. 1–15 operators ..)", "17 UnaryOp (.. 1 not, 2 minus)"
abbrev pub OperatorIn : Expr → Type 0
OperatorIn missing = Unit {0}
OperatorIn (apply f x) = Unit {0}
OperatorIn (if_then_else c t e) = Unit {0}
OperatorIn (literal l) = Unit {0}
OperatorIn (lambda x p b) = Unit {0}
OperatorIn (let_in bs b) = Unit {0}
OperatorIn (list es) = Unit {0}
OperatorIn (bin_op l r op) = (1 ≤ op) × (op ≤ 15)
OperatorIn (attr_set is_rec bs) = Unit {0}
OperatorIn (unary_op op x) = (1 ≤ op) × (op ≤ 2)
OperatorIn (reference t) = Unit {0}
OperatorIn (select s p d) = Unit {0}
OperatorIn (has_attr s p) = Unit {0}
OperatorIn (with_in n b) = Unit {0}
OperatorIn (assert_in c b) = Unit {0}
OperatorIn (string_interpolation ps) = Unit {0}
OperatorIn (path_interpolation ps) = Unit {0}

-- ---- steps
-- every expression that was made has such an operator
record Good (es : List Made) : Type 0 where
  all : All (λ (d : Made). OperatorIn d.expr) es

-- a step that makes no others
record Makes {A : Type 0} (p : Low A) : Type 0 where
  makes : (st : State) → Good st.exprs → Good (p st).1.exprs

makes_next : {A B : Type 0} {p : Low A} {f : A → Low B} → Makes p → ((a : A) → Makes (f a)) → Makes (p >>= f)
unfolding ◌>>=◌
makes_next {p = p} h k = record { makes = λ st g. (k (p st).0).makes (p st).1 (h.makes st g) }

makes_give : {A : Type 0} (a : A) → Makes (give a)
unfolding give
makes_give a = record { makes = λ st g. g }

makes_asks : {A B : Type 0} (g : State → A) {f : A → Low B} → ((a : A) → Makes (f a)) → Makes (asks g >>= f)
unfolding ◌>>=◌ asks
makes_asks g h = record { makes = λ st i. (h (g st)).makes st i }

-- one of two steps, the test being known in each
makes_if : {A : Type 0} {p q : Low A} (b : Bool) → (b ≡ true → Makes p) → (b ≡ false → Makes q) → Makes (when b p q)
unfolding when
makes_if true h k = h refl
makes_if false h k = k refl

makes_when : {A : Type 0} {p q : Low A} (b : Bool) → Makes p → Makes q → Makes (when b p q)
makes_when b h k = makes_if b (λ _. h) (λ _. k)

makes_each : {A B : Type 0} {f : A → Low B} → ((x : A) → Makes (f x)) → (xs : List A) → Makes (each f xs)
unfolding each
makes_each h [] = makes_give []
makes_each h (x ∷ xs) = makes_next (h x) λ y. makes_next (makes_each h xs) λ ys. makes_give (y ∷ ys)

makes_each_of : {A : Type 0} {f : A → Low (Unit {0})} → ((x : A) → Makes (f x)) → (xs : List A) → Makes (each_of f xs)
unfolding each_of
makes_each_of h [] = makes_give tt
makes_each_of h (x ∷ xs) = makes_next (h x) λ _. makes_each_of h xs

-- ---- the steps that the others are made of
makes_made : (d : Made) → OperatorIn d.expr → Makes (new_made d)
unfolding new_made
makes_made d h = record { makes = λ st g. record { all = all_append _ st.exprs (d ∷ []) g.all (h, tt) } }

makes_alloc : (e : Expr) (p : Pointer) → OperatorIn e → Makes (alloc_expr e p)
unfolding alloc_expr
makes_alloc e p h = makes_made _ h

makes_missing : Makes alloc_missing
unfolding alloc_missing
makes_missing = makes_made _ tt

-- the others make no expression
makes_name : (t : Text) (k : NameKind) (p : Pointer) → Makes (alloc_name t k p)
unfolding alloc_name
makes_name t k p = record { makes = λ st g. g }

makes_duplicate : (t : Text) (p q : Pointer) → Makes (add_duplicate t p q)
unfolding add_duplicate
makes_duplicate t p q = record { makes = λ st g. g }

makes_set : (k : NameKind) (p : Pointer) → Makes (new_set k p)
unfolding new_set
makes_set k p = record { makes = λ st g. g }

makes_add : (e : MergingEntry) → Makes (add_entry e)
unfolding add_entry set_entries ◌>>=◌ asks
makes_add e = record { makes = λ st g. g }

makes_set_entry : (i : ℕ) (e : MergingEntry) → Makes (set_entry i e)
unfolding set_entry set_entries ◌>>=◌ asks
makes_set_entry i e = record { makes = λ st g. g }

makes_inner : {A : Type 0} {p : Low A} → Makes p → Makes (inner p)
unfolding inner cut give ◌>>=◌ asks
makes_inner h = record { makes = h.makes }

-- ---- merging a key, finishing a set
key_makes : (s : SetId) (key : Text) (p : Pointer) → Makes (name_key s key p)
unfolding name_key
key_makes s key p = makes_asks _ λ k. makes_name key k p

static_makes : (s : SetId) (key : Text) (p : Pointer) (v : BindingValue) → Makes (merge_static_value s key p v)
unfolding merge_static_value merge_value_at
static_makes s key p v = makes_asks (find s key) go
  where
    go : (o : Option ℕ) → Makes (merge_value_at s key p v o)
    go none = makes_next (key_makes s key p) λ x. makes_add _
    go (some i) = makes_asks _ λ e. makes_asks _ λ first. makes_next (makes_duplicate key first p) λ _. makes_set_entry i _

nested_or_lem : (i : ℕ) (p : Pointer) (o : Option SetId) → Makes (nested_or i p o)
unfolding nested_or new_nested
nested_or_lem i p (some t) = makes_give t
nested_or_lem i p none = makes_next (makes_set _ p) λ t. makes_asks _ λ e. makes_next (makes_set_entry i _) λ _. makes_give t

nested_at_lem : (s : SetId) (key : Text) (p : Pointer) (o : Option ℕ) → Makes (nested_static_at s key p o)
unfolding nested_static_at new_nested
nested_at_lem s key p none = makes_next (key_makes s key p) λ x. makes_next (makes_set _ p) λ t. makes_next (makes_add _) λ _. makes_give t
nested_at_lem s key p (some i) = makes_asks _ (nested_or_lem i p)

nested_makes : (s : SetId) (key : Text) (p : Pointer) → Makes (get_or_create_nested_static s key p)
unfolding get_or_create_nested_static
nested_makes s key p = makes_asks _ (nested_at_lem s key p)

module _ (fin : SetId → Low ExprId) (finishes : (t : SetId) → Makes (fin t)) where
  value_finishes : (nested : Option SetId) (value : Option BindingValue) → Makes (finish_value fin nested value)
  unfolding finish_value
  value_finishes (some t) value = makes_next (finishes t) λ e. makes_give (expr e)
  value_finishes none (some v) = makes_give v
  value_finishes none none = makes_next makes_missing λ e. makes_give (expr e)

  static_finishes : (x : Static) → Makes (finish_static fin x)
  unfolding finish_static
  static_finishes x = makes_next (value_finishes x.nested x.value) λ v. makes_give (x.name, v)

  with_finishes : (s : SetId) → Makes (finish_with fin s)
  unfolding finish_with
  with_finishes s = makes_asks _ λ es. makes_next (makes_each static_finishes (statics_of s es)) λ statics. makes_give _

to_finishes : (bound : ℕ) (s : SetId) → Makes (finish_to bound s)
unfolding finish_to
to_finishes zero s = makes_missing
to_finishes (suc bound) s = makes_next (with_finishes (finish_to bound) (to_finishes bound) s) λ bs. makes_asks _ λ p. makes_alloc (attr_set false bs) p tt

expr_finishes : (s : SetId) → Makes (finish_expr s)
unfolding finish_expr
expr_finishes s = makes_asks _ λ bound. to_finishes bound s

set_finishes : (s : SetId) → Makes (finish s)
unfolding finish
set_finishes s = makes_asks _ λ bound. with_finishes (finish_to bound) (to_finishes bound) s

-- ---- the entries
module _ (nodes : List Node) (lower : NodeId → Low ExprId) (merge : SetId → NodeId → Low (Unit {0})) (lowers : (m : NodeId) → Makes (lower m)) where
  opt_makes : (m : Option NodeId) → Makes (lower_opt nodes lower merge m)
  unfolding lower_opt
  opt_makes none = makes_missing
  opt_makes (some m) = lowers m

  module _ (merges : (s : SetId) (m : NodeId) → Makes (merge s m)) where
    push_makes : (s : SetId) (key value : Option NodeId) → Makes (push_dynamic nodes lower merge s key value)
    unfolding push_dynamic
    push_makes s key value = makes_next (opt_makes key) λ k. makes_next (opt_makes value) λ v. makes_add _

    lowered_makes : (s : SetId) (key : Text) (attr : NodeId) (value : Option NodeId) → Makes (merge_lowered nodes lower merge s key attr value)
    unfolding merge_lowered
    lowered_makes s key attr value = makes_next (opt_makes value) λ e. static_makes s key _ (expr e)

    keyed_makes : (s : SetId) (key : Text) (attr : NodeId) (value : Option NodeId) → Makes (merge_keyed nodes lower merge s key attr value)
    unfolding merge_keyed merge_into
    keyed_makes s key attr none = lowered_makes s key attr none
    keyed_makes s key attr (some value) = makes_when _ (makes_asks _ go) (lowered_makes s key attr (some value))
      where
        go : (o : Option SetId) → Makes (merge_into nodes lower merge s key attr value o)
        go none = lowered_makes s key attr (some value)
        go (some t) = merges t value

    attr_value_makes : (s : SetId) (attr : NodeId) (value : Option NodeId) → Makes (merge_attr_value nodes lower merge s attr value)
    unfolding merge_attr_value merge_attr_as
    attr_value_makes s attr value = go (attr_kind nodes attr)
      where
        go : (k : AttrKind) → Makes (merge_attr_as nodes lower merge s attr value k)
        go (static_key key) = keyed_makes s key attr value
        go (dynamic_key key) = push_makes s key value

    step_makes : (s : SetId) (attr : NodeId) (rest : SetId → Low (Unit {0})) → ((t : SetId) → Makes (rest t)) → (k : AttrKind)
        → Makes (merge_step_as nodes lower merge s attr rest k)
    unfolding merge_step_as new_nested
    step_makes s attr rest h (static_key key) = makes_next (nested_makes s key _) h
    step_makes s attr rest h (dynamic_key key) =
        makes_next (makes_inner (makes_next (makes_set _ _) λ t. makes_next (h t) λ _. expr_finishes t)) λ e. makes_next (opt_makes key) λ k. makes_add _

    path_value_makes : (s : SetId) (attr : NodeId) (more : List NodeId) (value : Option NodeId)
        → Makes (merge_nested_attr_value nodes lower merge s attr more value)
    unfolding merge_nested_attr_value
    path_value_makes s attr [] value = attr_value_makes s attr value
    path_value_makes s attr (a ∷ more) value = step_makes s attr _ (λ t. path_value_makes t a more value) (attr_kind nodes attr)

    attrs_make : (s : SetId) (attrs : List NodeId) (value : Option NodeId) → Makes (merge_path nodes lower merge s attrs value)
    unfolding merge_path
    attrs_make s [] value = push_makes s none value
    attrs_make s (a ∷ more) value = path_value_makes s a more value

    inherit_value_makes : (set : Option ExprId) (key : Text) (p : Pointer) → Makes (inherit_value nodes lower merge set key p)
    unfolding inherit_value
    inherit_value_makes none key p = makes_next (makes_alloc (reference key) p tt) λ e. makes_give (inherit e)
    inherit_value_makes (some set) key p = makes_next (makes_alloc _ p tt) λ l. makes_next (makes_alloc _ p tt) λ e. makes_give (inherit_from e)

    inherit_makes : (s : SetId) (set : Option ExprId) (attr : NodeId) → Makes (inherit_attr nodes lower merge s set attr)
    unfolding inherit_attr inherit_as
    inherit_makes s set attr = go (attr_kind nodes attr)
      where
        go : (k : AttrKind) → Makes (inherit_as nodes lower merge s set attr k)
        go (static_key key) = makes_next (inherit_value_makes set key (pointer nodes attr)) λ v. static_makes s key _ v
        go (dynamic_key e) = push_makes s none e

    source_makes : (s : SetId) (from : Option NodeId) → Makes (inherit_source nodes lower merge s from)
    unfolding inherit_source
    source_makes s none = makes_give none
    source_makes s (some from) = makes_next (opt_makes _) λ e. makes_next (makes_add _) λ _. makes_give (some e)

    entry_makes : (s : SetId) (m : NodeId) → Makes (merge_entry nodes lower merge s m)
    unfolding merge_entry merge_inherit merge_attrpath_val
    entry_makes s m = makes_when _ (makes_next (source_makes s _) λ set. makes_each_of (inherit_makes s set) _) (attrs_make s _ _)

    entries_make : (s : SetId) (m : NodeId) → Makes (merge_entries nodes lower merge s m)
    unfolding merge_entries
    entries_make s m = makes_each_of (entry_makes s) _

    desugar_makes : (k : NameKind) (m : NodeId) → Makes (desugar nodes lower merge k m)
    unfolding desugar
    desugar_makes k m = makes_inner (makes_next (makes_set k _) λ s. makes_next (entries_make s m) λ _. set_finishes s)

  -- ---- the lowering functions
  there_makes : (m : Option NodeId) → Makes (lower_if_there nodes lower merge m)
  unfolding lower_if_there
  there_makes none = makes_give none
  there_makes (some m) = makes_next (lowers m) λ e. makes_give (some e)

  part_makes : (m : NodeId) → Makes (lower_part nodes lower merge m)
  unfolding lower_part
  part_makes m = makes_when _ (makes_give _) (makes_next (opt_makes _) λ e. makes_give _)

  string_makes : (m : NodeId) → Makes (lower_string nodes lower merge m)
  unfolding lower_string string_as
  string_makes m = go (get_str_literal nodes m)
    where
      go : (t : Option Text) → Makes (string_as nodes lower merge m t)
      go (some t) = makes_alloc _ _ tt
      go none = makes_next (makes_each part_makes _) λ ps. makes_alloc _ _ tt

  path_makes : (m : NodeId) → Makes (lower_path nodes lower merge m)
  unfolding lower_path
  path_makes m = makes_when _ (makes_next (makes_each part_makes _) λ ps. makes_alloc _ _ tt) (makes_alloc _ _ tt)

  attr_makes : (m : NodeId) → Makes (lower_attr nodes lower merge m)
  unfolding lower_attr
  attr_makes m = makes_when _ (opt_makes _) (makes_when _ (string_makes m) (makes_when _ (makes_alloc _ _ tt) makes_missing))

  attrpath_makes : (p : Option NodeId) → Makes (lower_attrpath_opt nodes lower merge p)
  unfolding lower_attrpath_opt
  attrpath_makes p = makes_each attr_makes _

  name_makes : (k : NameKind) (m : Option NodeId) → Makes (lower_name nodes lower merge k m)
  unfolding lower_name
  name_makes k none = makes_give none
  name_makes k (some i) = makes_next (makes_name _ k _) λ x. makes_give (some x)

  field_makes : (m : NodeId) → Makes (lower_field nodes lower merge m)
  unfolding lower_field
  field_makes m = makes_next (name_makes _ _) λ x. makes_next (there_makes _) λ e. makes_give (x, e)

  param_makes : (m : Option NodeId) → Makes (lower_param nodes lower merge m)
  unfolding lower_param lower_pattern
  param_makes none = makes_give (none, none)
  param_makes (some m) =
      makes_when _ (makes_next (name_makes _ _) λ x. makes_give (x, none))
      (makes_next (name_makes _ _) λ x. makes_next (makes_each field_makes _) λ fs. makes_give _)

  pair_makes : (f : ExprId → ExprId → Expr) → ((a b : ExprId) → OperatorIn (f a b)) → (m : NodeId) → Makes (pair nodes lower merge f m)
  unfolding pair
  pair_makes f h m = makes_next (opt_makes _) λ a. makes_next (opt_makes _) λ b. makes_alloc (f a b) _ (h a b)

  ident_makes : (m : NodeId) → Makes (lower_ident nodes lower merge m)
  unfolding lower_ident
  ident_makes m = makes_alloc _ _ (go (eqb (flag nodes m) 1))
    where
      go : (b : Bool) → OperatorIn (pick b (reference (text nodes m)) missing)
      go true = tt
      go false = tt

  -- the operators: the flag of a node whose flags are those of its kind, and is not 0
  module _ (flags : (m : NodeId) → flag nodes m ≤ (kind_of (kind nodes m)).flags) where
    operator_of : (highest k : ℕ) (m : NodeId) → (kind_of k).flags ≡ highest → eqb (kind nodes m) k ≡ true → eqb (flag nodes m) 0 ≡ false
        → (1 ≤ flag nodes m) × (flag nodes m ≤ highest)
    operator_of highest k m h p q =
        let few : flag nodes m ≤ highest = rw (eqb-true (kind nodes m) k p, h) at (flags m) in
        let some_flag = eqb-false (flag nodes m) 0 q in
        (omega arith, few)

    bin_makes : (m : NodeId) → eqb (kind nodes m) 14 ≡ true → Makes (lower_bin_op nodes lower merge m)
    unfolding lower_bin_op kind_of kinds
    bin_makes m p =
        makes_next (opt_makes _) λ l. makes_if _ (λ _. makes_missing) λ q. makes_next (opt_makes _) λ r.
        makes_alloc (bin_op l r (flag nodes m)) _ (operator_of 15 14 m refl p q)

    unary_makes : (m : NodeId) → eqb (kind nodes m) 17 ≡ true → Makes (lower_unary_op nodes lower merge m)
    unfolding lower_unary_op kind_of kinds
    unary_makes m p =
        makes_if _ (λ _. makes_missing) λ q. makes_next (opt_makes _) λ x. makes_alloc (unary_op (flag nodes m) x) _ (operator_of 2 17 m refl p q)

    module _ (bindings : (k : NameKind) (m : NodeId) → Makes (desugar nodes lower merge k m)) where
      as_makes : (m : NodeId) → Makes (lower_as nodes lower merge (kind nodes m) m)
      unfolding lower_as lower_if_else lower_select lower_has_attr lower_float lower_integer lower_lambda lower_let_in lower_list lower_attr_set
      as_makes m =
          makes_when _ (pair_makes apply (λ _ _. tt) m)
          (makes_when _ (makes_next (opt_makes _) λ c. makes_next (opt_makes _) λ t. makes_next (opt_makes _) λ e. makes_alloc _ _ tt)
          (makes_when _ (makes_next (opt_makes _) λ s. makes_next (attrpath_makes _) λ p. makes_next (there_makes _) λ d. makes_alloc _ _ tt)
          (makes_when _ (pair_makes with_in (λ _ _. tt) m)
          (makes_when _ (makes_next (opt_makes _) λ s. makes_next (attrpath_makes _) λ p. makes_alloc _ _ tt)
          (makes_when _ (string_makes m)
          (makes_when _ (path_makes m)
          (makes_when _ (makes_when _ (makes_alloc _ _ tt) makes_missing)
          (makes_when _ (makes_when _ (makes_alloc _ _ tt) makes_missing)
          (makes_when _ (makes_alloc _ _ tt)
          (makes_when _ (makes_next (param_makes _) λ p. makes_next (opt_makes _) λ b. makes_alloc _ _ tt)
          (makes_when _ (makes_next (bindings _ m) λ bs. makes_next (opt_makes _) λ b. makes_alloc _ _ tt)
          (makes_when _ (makes_next (makes_each lowers _) λ es. makes_alloc _ _ tt)
          (makes_if _ (bin_makes m) λ _.
          (makes_when _ (opt_makes _)
          (makes_when _ (makes_next (bindings _ m) λ bs. makes_alloc _ _ tt)
          (makes_if _ (unary_makes m) λ _.
          (makes_when _ (ident_makes m)
          (makes_when _ (pair_makes assert_in (λ _ _. tt) m)
          (makes_when _ (opt_makes _)
          (makes_alloc _ _ tt))))))))))))))))))))

-- ---- the knot
module _ (nodes : List Node) (flags : (m : NodeId) → flag nodes m ≤ (kind_of (kind nodes m)).flags) where
  record AtDepth (depth : ℕ) : Type 0 where
    lowers : (m : NodeId) → Makes (lower_expr nodes depth m)
    merges : (s : SetId) (m : NodeId) → Makes (merge_bindings nodes depth s m)

  at_depth : (depth : ℕ) → AtDepth depth
  unfolding lower_expr merge_bindings
  at_depth zero = record { lowers = λ m. makes_missing; merges = λ s m. makes_give tt }
  at_depth (suc depth) = go (at_depth depth)
    where
      go : AtDepth depth → AtDepth (suc depth)
      go h =
          let lower : NodeId → Low ExprId = λ m. lower_expr nodes depth m in
          let merge : SetId → NodeId → Low (Unit {0}) = λ s m. merge_bindings nodes depth s m in
          record {
            lowers = as_makes nodes lower merge h.lowers flags (desugar_makes nodes lower merge h.lowers h.merges);
            merges = entries_make nodes lower merge h.lowers h.merges;
          }

-- what holds of every expression that was made holds of every number's
good_at : (es : List Made) → Good es → (e : ExprId) → OperatorIn (get_or es e (record { expr = missing; pointer = none })).expr
good_at [] g e = tt
good_at (d ∷ es) g zero = g.all.0
good_at (d ∷ es) g (suc e) = good_at es (record { all = g.all.1 }) e

-- THEOREM. In the module of an accepted sheet every operator is one of document 01's (docs/RULES.md, "Kinds").
pub operators_in : (sheet : List ℕ) (nodes : List Node) → judge sheet ≡ accepted nodes → (e : ExprId) → OperatorIn (expr_at (lower_module nodes) e)
unfolding lower_module module_of expr_at made_at
operators_in sheet nodes judged e = good_at _ (((at_depth nodes (flags_held sheet nodes judged) 256).lowers 0).makes empty (record { all = tt })) e
