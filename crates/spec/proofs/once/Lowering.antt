-- Every function that lowers a node makes an expression that weighs no more than has been paid meanwhile, if merging
-- does so. Assumes nothing.
use mathlib.Core.Path.{◌≡◌, refl}
use mathlib.Core.Bool.{Bool, true, false}
use mathlib.Core.List.{List, [], ◌∷◌, ◌++◌}
use mathlib.Core.Option.{Option, none, some}
use Prim.Native.Nat.{ℕ, ◌+◌, ◌≤◌}
use native.Mathlib.Omega.{arith}
use lib.Dec.{eqb}
use Rattle.words.specs.Order.{pick}
use Rattle.spec.specs.Basics.{Text, NodeId, ExprId, NameId}
use Rattle.spec.specs.Keys.{flag, text}
use Rattle.spec.specs.Sheet.{Node}
use Rattle.spec.specs.Module.{InterpolPart, literal_part, interpol, BindingValue, expr, inherit, inherit_from, Bindings, Pat, Expr, missing, apply, reference, with_in, assert_in, NameKind}
use Rattle.spec.specs.State.{SetId, MergingEntry, Low}
use Rattle.spec.specs.Scopes.{one_or_none, field_names, field_defaults, pat_fields, interpolated, if_inherited, inherited, if_plain, plain_values, keys_and_values, bound, form}
use Rattle.spec.specs.Merge.{lower_opt, desugar}
use Rattle.spec.specs.Lower.{lower_if_there, lower_part, string_as, lower_string, lower_path, lower_attr, lower_attrpath_opt, lower_name, lower_field, lower_pattern, lower_param, pair, lower_if_else, lower_select, lower_has_attr, lower_float, lower_integer, lower_lambda, lower_let_in, lower_list, lower_bin_op, lower_attr_set, lower_unary_op, lower_ident, lower_as}
use Rattle.spec.proofs.general.Sums.{sum_by, sum_append, sum_add}
use Rattle.spec.proofs.once.Once.{entered_by, walked_by}
use Rattle.spec.proofs.once.NameWeights.{defined_weigh}
use Rattle.spec.proofs.once.Weights.{Scale, form_weight, MakesWhere, lowers_next, lowers_give, lowers_when, lowers_all, lowers_alloc, lowers_missing, lowers_name}

-- ---- the weights of what an expression is made of
module _ (σ : Scale) where
  abbrev pub opt_weight : Option ExprId → ℕ
  opt_weight e = sum_by σ.weight (one_or_none e)

  abbrev pub opt_name_weight : Option NameId → ℕ
  opt_name_weight x = sum_by σ.of_name (one_or_none x)

  abbrev pub part_weight : InterpolPart → ℕ
  part_weight (literal_part t) = 0
  part_weight (interpol e) = σ.weight e

  abbrev pub field_weight : Option NameId × Option ExprId → ℕ
  field_weight f = opt_name_weight f.0 + opt_weight f.1

  abbrev pub param_weight : Option NameId × Option Pat → ℕ
  param_weight p = opt_name_weight p.0 + sum_by field_weight (pat_fields p.1)

  -- the Select of an inherit from a set is not walked
  abbrev pub value_weight : BindingValue → ℕ
  value_weight (expr e) = σ.weight e
  value_weight (inherit e) = σ.weight e
  value_weight (inherit_from e) = 0

  abbrev pub static_weight : NameId × BindingValue → ℕ
  static_weight b = σ.of_name b.0 + value_weight b.1

  abbrev pub dynamic_weight : ExprId × ExprId → ℕ
  dynamic_weight d = σ.weight d.0 + σ.weight d.1

  abbrev pub bindings_weight : Bindings → ℕ
  bindings_weight bs = sum_by static_weight bs.statics + (sum_by σ.weight bs.inherit_froms + sum_by dynamic_weight bs.dynamics)

  parts_weigh : (ps : List InterpolPart) → sum_by σ.weight (interpolated ps) ≡ sum_by part_weight ps
  unfolding interpolated
  parts_weigh [] = refl
  parts_weigh (literal_part t ∷ ps) = let h = parts_weigh ps in omega arith
  parts_weigh (interpol e ∷ ps) = let h = parts_weigh ps in omega arith

  fields_weigh : (fs : List (Option NameId × Option ExprId)) → sum_by σ.of_name (field_names fs) + sum_by σ.weight (field_defaults fs) ≡ sum_by field_weight fs
  unfolding field_names field_defaults
  fields_weigh [] = refl
  fields_weigh (f ∷ fs) =
      let h = fields_weigh fs in
      let i = sum_append σ.of_name (one_or_none f.0) (field_names fs) in
      let j = sum_append σ.weight (one_or_none f.1) (field_defaults fs) in
      omega arith

  dynamics_weigh : (ds : List (ExprId × ExprId)) → sum_by σ.weight (keys_and_values ds) ≡ sum_by dynamic_weight ds
  unfolding keys_and_values
  dynamics_weigh [] = refl
  dynamics_weigh (d ∷ ds) = let h = dynamics_weigh ds in omega arith

  values_weigh : (bs : List (NameId × BindingValue)) → sum_by σ.weight (inherited bs) + sum_by σ.weight (plain_values bs) ≤ sum_by (λ b. value_weight b.1) bs
  unfolding inherited plain_values if_inherited if_plain
  values_weigh [] = omega arith
  values_weigh (b ∷ bs) = go b.1 (values_weigh bs)
    where
      go : (v : BindingValue) → sum_by σ.weight (inherited bs) + sum_by σ.weight (plain_values bs) ≤ sum_by (λ b. value_weight b.1) bs
          → sum_by σ.weight (if_inherited v ++ inherited bs) + sum_by σ.weight (if_plain v ++ plain_values bs) ≤ value_weight v + sum_by (λ b. value_weight b.1) bs
      go (expr e) h = omega arith
      go (inherit e) h = omega arith
      go (inherit_from e) h = omega arith

  -- bindings enter and are walked to no more than they weigh
  pub bound_weigh : (bs : Bindings) (body : Option ExprId)
      → sum_by σ.of_name (entered_by σ.lowered (bound bs body)) + sum_by σ.weight (walked_by (bound bs body)) ≤ bindings_weight bs + opt_weight body
  bound_weigh bs body =
      let c = σ.weight in
      let k = sum_append c (inherited bs.statics) (plain_values bs.statics ++ (bs.inherit_froms ++ (keys_and_values bs.dynamics ++ one_or_none body))) in
      let l = sum_append c (plain_values bs.statics) (bs.inherit_froms ++ (keys_and_values bs.dynamics ++ one_or_none body)) in
      let i = sum_append c bs.inherit_froms (keys_and_values bs.dynamics ++ one_or_none body) in
      let j = sum_append c (keys_and_values bs.dynamics) (one_or_none body) in
      let d = dynamics_weigh bs.dynamics in
      let v = values_weigh bs.statics in
      let n = defined_weigh σ bs.statics in
      let s = sum_add (λ (b : NameId × BindingValue). σ.of_name b.0) (λ (b : NameId × BindingValue). value_weight b.1) bs.statics in
      omega arith

-- ---- the lowering functions
module _ {σ : Scale} (nodes : List Node) (lower : NodeId → Low ExprId) (merge : SetId → NodeId → Low (Unit {0})) (E : List MergingEntry)
    (lowers : (n : NodeId) → MakesWhere σ E 0 σ.weight (lower n)) where
  pub opt_lowers : (n : Option NodeId) → MakesWhere σ E 0 σ.weight (lower_opt nodes lower merge n)
  unfolding lower_opt
  opt_lowers none = lowers_missing
  opt_lowers (some n) = lowers n

  there_lowers : (n : Option NodeId) → MakesWhere σ E 0 (opt_weight σ) (lower_if_there nodes lower merge n)
  unfolding lower_if_there one_or_none
  there_lowers none = lowers_give none (omega arith)
  there_lowers (some n) = lowers_next (lowers n) λ e. lowers_give (some e) (omega arith)

  part_lowers : (p : NodeId) → MakesWhere σ E 0 (part_weight σ) (lower_part nodes lower merge p)
  unfolding lower_part
  part_lowers p = lowers_when _ (lowers_give (literal_part _) (omega arith)) (lowers_next (opt_lowers _) λ e. lowers_give (interpol e) (omega arith))

  string_as_lem : (n : NodeId) (t : Option Text) → MakesWhere σ E 0 σ.weight (string_as nodes lower merge n t)
  unfolding string_as form
  string_as_lem n (some t) = lowers_alloc _ _ (omega arith)
  string_as_lem n none = lowers_next (lowers_all part_lowers _) λ ps. lowers_alloc _ _ (let h = parts_weigh σ ps in omega arith)

  string_lowers : (n : NodeId) → MakesWhere σ E 0 σ.weight (lower_string nodes lower merge n)
  unfolding lower_string
  string_lowers n = string_as_lem n _

  path_lowers : (n : NodeId) → MakesWhere σ E 0 σ.weight (lower_path nodes lower merge n)
  unfolding lower_path form
  path_lowers n =
      lowers_when _
      (lowers_next (lowers_all part_lowers _) λ ps. lowers_alloc _ _ (let h = parts_weigh σ ps in omega arith))
      (lowers_alloc _ _ (omega arith))

  attr_lowers : (a : NodeId) → MakesWhere σ E 0 σ.weight (lower_attr nodes lower merge a)
  unfolding lower_attr form
  attr_lowers a = lowers_when _ (opt_lowers _) (lowers_when _ (string_lowers a) (lowers_when _ (lowers_alloc _ _ (omega arith)) lowers_missing))

  attrpath_lowers : (p : Option NodeId) → MakesWhere σ E 0 (sum_by σ.weight) (lower_attrpath_opt nodes lower merge p)
  unfolding lower_attrpath_opt
  attrpath_lowers p = lowers_all attr_lowers _

  name_lowers : (k : NameKind) (n : Option NodeId) → MakesWhere σ E 0 (opt_name_weight σ) (lower_name nodes lower merge k n)
  unfolding lower_name one_or_none
  name_lowers k none = lowers_give none (omega arith)
  name_lowers k (some i) = lowers_next (lowers_name _ _ _) λ x. lowers_give (some x) (omega arith)

  field_lowers : (n : NodeId) → MakesWhere σ E 0 (field_weight σ) (lower_field nodes lower merge n)
  unfolding lower_field
  field_lowers n = lowers_next (name_lowers _ _) λ x. lowers_next (there_lowers _) λ e. lowers_give (x, e) (omega arith)

  pattern_lowers : (n : NodeId) → MakesWhere σ E 0 (param_weight σ) (lower_pattern nodes lower merge n)
  unfolding lower_pattern pat_fields
  pattern_lowers n = lowers_next (name_lowers _ _) λ x. lowers_next (lowers_all field_lowers _) λ fs. lowers_give _ (omega arith)

  param_lowers : (n : Option NodeId) → MakesWhere σ E 0 (param_weight σ) (lower_param nodes lower merge n)
  unfolding lower_param pat_fields one_or_none
  param_lowers none = lowers_give (none, none) (omega arith)
  param_lowers (some n) = lowers_when _ (lowers_next (name_lowers _ _) λ x. lowers_give (x, none) (omega arith)) (pattern_lowers n)

  pair_lowers : (f : ExprId → ExprId → Expr) → ((a b : ExprId) → form_weight σ (f a b) ≤ σ.weight a + σ.weight b) → (n : NodeId)
      → MakesWhere σ E 0 σ.weight (pair nodes lower merge f n)
  unfolding pair
  pair_lowers f h n = lowers_next (opt_lowers _) λ a. lowers_next (opt_lowers _) λ b. lowers_alloc _ _ (let i = h a b in omega arith)

  if_lowers : (n : NodeId) → MakesWhere σ E 0 σ.weight (lower_if_else nodes lower merge n)
  unfolding lower_if_else form
  if_lowers n = lowers_next (opt_lowers _) λ c. lowers_next (opt_lowers _) λ t. lowers_next (opt_lowers _) λ e. lowers_alloc _ _ (omega arith)

  select_lowers : (n : NodeId) → MakesWhere σ E 0 σ.weight (lower_select nodes lower merge n)
  unfolding lower_select form
  select_lowers n =
      lowers_next (opt_lowers _) λ s. lowers_next (attrpath_lowers _) λ p. lowers_next (there_lowers _) λ d.
      lowers_alloc _ _ (let h = sum_append σ.weight p (one_or_none d) in omega arith)

  has_lowers : (n : NodeId) → MakesWhere σ E 0 σ.weight (lower_has_attr nodes lower merge n)
  unfolding lower_has_attr form
  has_lowers n = lowers_next (opt_lowers _) λ s. lowers_next (attrpath_lowers _) λ p. lowers_alloc _ _ (omega arith)

  float_lowers : (n : NodeId) → MakesWhere σ E 0 σ.weight (lower_float nodes lower merge n)
  unfolding lower_float form
  float_lowers n = lowers_when _ (lowers_alloc _ _ (omega arith)) lowers_missing

  integer_lowers : (n : NodeId) → MakesWhere σ E 0 σ.weight (lower_integer nodes lower merge n)
  unfolding lower_integer form
  integer_lowers n = lowers_when _ (lowers_alloc _ _ (omega arith)) lowers_missing

  lambda_lowers : (n : NodeId) → MakesWhere σ E 0 σ.weight (lower_lambda nodes lower merge n)
  unfolding lower_lambda form
  lambda_lowers n =
      lowers_next (param_lowers _) λ p. lowers_next (opt_lowers _) λ b. lowers_alloc _ _
      (let h = fields_weigh σ (pat_fields p.1) in
      let i = sum_append σ.of_name (one_or_none p.0) (field_names (pat_fields p.1)) in
      let j = sum_append σ.weight (field_defaults (pat_fields p.1)) (b ∷ []) in
      omega arith)

  list_lowers : (n : NodeId) → MakesWhere σ E 0 σ.weight (lower_list nodes lower merge n)
  unfolding lower_list form
  list_lowers n = lowers_next (lowers_all lowers _) λ es. lowers_alloc _ _ (omega arith)

  binary_lowers : (n : NodeId) → MakesWhere σ E 0 σ.weight (lower_bin_op nodes lower merge n)
  unfolding lower_bin_op form
  binary_lowers n = lowers_next (opt_lowers _) λ l. lowers_when _ lowers_missing (lowers_next (opt_lowers _) λ r. lowers_alloc _ _ (omega arith))

  unary_lowers : (n : NodeId) → MakesWhere σ E 0 σ.weight (lower_unary_op nodes lower merge n)
  unfolding lower_unary_op form
  unary_lowers n = lowers_when _ lowers_missing (lowers_next (opt_lowers _) λ e. lowers_alloc _ _ (omega arith))

  ident_lowers : (n : NodeId) → MakesWhere σ E 0 σ.weight (lower_ident nodes lower merge n)
  unfolding lower_ident form
  ident_lowers n = lowers_alloc _ _ (go (eqb (flag nodes n) 1))
    where
      go : (b : Bool) → form_weight σ (pick b (reference (text nodes n)) missing) ≤ 0
      go true = omega arith
      go false = omega arith

  -- the bindings of a let and of a set, if merging makes them so
  module _ (merges : (k : NameKind) (n : NodeId) → MakesWhere σ E 0 (bindings_weight σ) (desugar nodes lower merge k n)) where
    let_lowers : (n : NodeId) → MakesWhere σ E 0 σ.weight (lower_let_in nodes lower merge n)
    unfolding lower_let_in form one_or_none
    let_lowers n = lowers_next (merges _ _) λ bs. lowers_next (opt_lowers _) λ b. lowers_alloc _ _ (let h = bound_weigh σ bs (some b) in omega arith)

    set_lowers : (n : NodeId) → MakesWhere σ E 0 σ.weight (lower_attr_set nodes lower merge n)
    unfolding lower_attr_set form one_or_none
    set_lowers n = lowers_next (merges _ _) λ bs. lowers_alloc _ _ (let h = bound_weigh σ bs none in omega arith)

    -- THEOREM. So does every kind of node.
    pub as_lowers : (k : ℕ) (n : NodeId) → MakesWhere σ E 0 σ.weight (lower_as nodes lower merge k n)
    unfolding lower_as form
    as_lowers k n =
        lowers_when _ (pair_lowers apply (λ a b. omega arith) n)
        (lowers_when _ (if_lowers n)
        (lowers_when _ (select_lowers n)
        (lowers_when _ (pair_lowers with_in (λ a b. omega arith) n)
        (lowers_when _ (has_lowers n)
        (lowers_when _ (string_lowers n)
        (lowers_when _ (path_lowers n)
        (lowers_when _ (float_lowers n)
        (lowers_when _ (integer_lowers n)
        (lowers_when _ (lowers_alloc _ _ (omega arith))
        (lowers_when _ (lambda_lowers n)
        (lowers_when _ (let_lowers n)
        (lowers_when _ (list_lowers n)
        (lowers_when _ (binary_lowers n)
        (lowers_when _ (opt_lowers _)
        (lowers_when _ (set_lowers n)
        (lowers_when _ (unary_lowers n)
        (lowers_when _ (ident_lowers n)
        (lowers_when _ (pair_lowers assert_in (λ a b. omega arith) n)
        (lowers_when _ (opt_lowers _)
        (lowers_alloc _ _ (omega arith)))))))))))))))))))))
