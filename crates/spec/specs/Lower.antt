-- docs/RULES.md, "Lowering" ("From nodes to expressions"): `impl LowerCtx` of lower.rs, in its order.
use Rattle.std.specs.Prelude.{Bool, false, ◌||◌, List, [], ◌∷◌, ℕ, zero, suc, eqb, leb, if◌then◌else◌}
use Rattle.std.proofs.Math.Option.{Option, none, some}
use Rattle.spec.specs.Basics.{Text, NodeId, ExprId, NameId}
use Rattle.spec.specs.Keys.{kind, flag, text, pointer, kid, kid_of, items, items_after, get_str_literal}
use Rattle.spec.specs.Merge.{lower_opt, attributes, merge_entries, desugar}
use Rattle.spec.specs.Module.{float, integer, string, path, uri, InterpolPart, literal_part, interpol, Pat, Expr, missing, apply, if_then_else, literal, lambda, let_in, list, bin_op, attr_set, unary_op, reference, select, has_attr, with_in, assert_in, string_interpolation, path_interpolation, NameKind, LetIn, PlainAttrset, RecAttrset, Param, PatField, Module}
use Rattle.spec.specs.Sheet.{Node, bits_from, value_from}
use Rattle.spec.specs.Steps.{◌>>=◌, give, when, each}
use Rattle.spec.specs.State.{SetId, State, empty, Low, alloc_expr, alloc_missing, alloc_name}

module _ (nodes : List Node) (lower : NodeId → Low ExprId) (merge : SetId → NodeId → Low (Unit {0})) where
  -- lower_expr_opt, and an expression that may be left out
  abbrev opt : Option NodeId → Low ExprId
  opt = lower_opt nodes lower merge

  unfoldable pub lower_if_there : Option NodeId → Low (Option ExprId)
  lower_if_there none = give none
  lower_if_there (some n) = lower n >>= λ e. give (some e)

  -- ---- strings and paths
  unfoldable pub lower_part : NodeId → Low InterpolPart
  lower_part p = when (eqb (kind nodes p) 32) (give (literal_part (text nodes p))) (opt (kid nodes 0 p) >>= λ e. give (interpol e))

  unfoldable pub string_as : NodeId → Option Text → Low ExprId
  string_as n (some t) = alloc_expr (literal (string t)) (pointer nodes n)
  string_as n none = do
    ps ← each lower_part (items nodes n)
    alloc_expr (string_interpolation ps) (pointer nodes n)

  unfoldable pub lower_string : NodeId → Low ExprId
  lower_string n = string_as n (get_str_literal nodes n)

  unfoldable pub has_interpolation : List NodeId → Bool
  has_interpolation [] = false
  has_interpolation (p ∷ ps) = eqb (kind nodes p) 33 || has_interpolation ps

  unfoldable pub lower_path : NodeId → Low ExprId
  lower_path n =
      when (has_interpolation (items nodes n))
      (do
        ps ← each lower_part (items nodes n)
        alloc_expr (path_interpolation ps) (pointer nodes n))
      (alloc_expr (literal (path (text nodes n))) (pointer nodes n))

  -- ---- lower_attrpath_opt: "a flag-0 Ident as a path attribute gives Missing without a pointer"
  unfoldable pub lower_attr : NodeId → Low ExprId
  lower_attr a =
      when (eqb (kind nodes a) 24) (opt (kid nodes 0 a))
      (when (eqb (kind nodes a) 6) (lower_string a)
      (when (eqb (flag nodes a) 1) (alloc_expr (literal (string (text nodes a))) (pointer nodes a)) alloc_missing))

  unfoldable pub lower_attrpath_opt : Option NodeId → Low (List ExprId)
  lower_attrpath_opt p = each lower_attr (attributes nodes lower merge p)

  -- ---- lower_lambda: the parameter's name, then each field's name and its default
  unfoldable pub lower_name : NameKind → Option NodeId → Low (Option NameId)
  lower_name k none = give none
  lower_name k (some i) = alloc_name (text nodes i) k (pointer nodes i) >>= λ x. give (some x)

  unfoldable pub lower_field : NodeId → Low (Option NameId × Option ExprId)
  lower_field n = do
    x ← lower_name PatField (kid nodes 0 n)
    e ← lower_if_there (kid nodes 1 n)
    give (x, e)

  unfoldable pub lower_pattern : NodeId → Low (Option NameId × Option Pat)
  lower_pattern n = do
    x ← lower_name Param (kid_of nodes 0 (kid nodes 0 n))
    fs ← each lower_field (items_after nodes n)
    give (x, some (record { fields = fs; ellipsis = eqb (flag nodes n) 1 }))

  unfoldable pub lower_param : Option NodeId → Low (Option NameId × Option Pat)
  lower_param none = give (none, none)
  lower_param (some n) =
      when (eqb (kind nodes n) 28)
      (lower_name Param (kid nodes 0 n) >>= λ x. give (x, none))
      (lower_pattern n)

  -- ---- lower_expr_inner, by the kind of the node
  unfoldable pub pair : (ExprId → ExprId → Expr) → NodeId → Low ExprId
  pair f n = do
    a ← opt (kid nodes 0 n)
    b ← opt (kid nodes 1 n)
    alloc_expr (f a b) (pointer nodes n)

  unfoldable pub lower_if_else : NodeId → Low ExprId
  lower_if_else n = do
    c ← opt (kid nodes 0 n)
    t ← opt (kid nodes 1 n)
    e ← opt (kid nodes 2 n)
    alloc_expr (if_then_else c t e) (pointer nodes n)

  unfoldable pub lower_select : NodeId → Low ExprId
  lower_select n = do
    s ← opt (kid nodes 0 n)
    p ← lower_attrpath_opt (kid nodes 1 n)
    d ← lower_if_there (kid nodes 2 n)
    alloc_expr (select s p d) (pointer nodes n)

  unfoldable pub lower_has_attr : NodeId → Low ExprId
  lower_has_attr n = do
    s ← opt (kid nodes 0 n)
    p ← lower_attrpath_opt (kid nodes 1 n)
    alloc_expr (has_attr s p) (pointer nodes n)

  -- "a flag-0 Float", "an Integer above 9223372036854775807"
  unfoldable pub lower_float : NodeId → Low ExprId
  lower_float n = when (eqb (flag nodes n) 1) (alloc_expr (literal (float (bits_from 0 (text nodes n)))) (pointer nodes n)) alloc_missing

  unfoldable pub lower_integer : NodeId → Low ExprId
  lower_integer n =
      when (leb (value_from 0 (text nodes n)) 9223372036854775807)
      (alloc_expr (literal (integer (value_from 0 (text nodes n)))) (pointer nodes n))
      alloc_missing

  unfoldable pub lower_lambda : NodeId → Low ExprId
  lower_lambda n = do
    p ← lower_param (kid nodes 0 n)
    b ← opt (kid nodes 1 n)
    alloc_expr (lambda p.0 p.1 b) (pointer nodes n)

  unfoldable pub lower_let_in : NodeId → Low ExprId
  lower_let_in n = do
    bs ← desugar nodes lower merge LetIn n
    b ← opt (kid nodes 0 n)
    alloc_expr (let_in bs b) (pointer nodes n)

  unfoldable pub lower_list : NodeId → Low ExprId
  lower_list n = do
    es ← each lower (items nodes n)
    alloc_expr (list es) (pointer nodes n)

  -- "A flag-0 BinOp lowers its left side first."
  unfoldable pub lower_bin_op : NodeId → Low ExprId
  lower_bin_op n = do
    l ← opt (kid nodes 0 n)
    when (eqb (flag nodes n) 0) alloc_missing (do
      r ← opt (kid nodes 1 n)
      alloc_expr (bin_op l r (flag nodes n)) (pointer nodes n))

  unfoldable pub lower_attr_set : NodeId → Low ExprId
  lower_attr_set n = do
    let is_rec = eqb (flag nodes n) 1
    bs ← desugar nodes lower merge (if is_rec then RecAttrset else PlainAttrset) n
    alloc_expr (attr_set is_rec bs) (pointer nodes n)

  unfoldable pub lower_unary_op : NodeId → Low ExprId
  lower_unary_op n = when (eqb (flag nodes n) 0) alloc_missing (do
    e ← opt (kid nodes 0 n)
    alloc_expr (unary_op (flag nodes n) e) (pointer nodes n))

  -- "a flag-0 Ident gives Missing with a pointer"
  unfoldable pub lower_ident : NodeId → Low ExprId
  lower_ident n = alloc_expr (if eqb (flag nodes n) 1 then reference (text nodes n) else missing) (pointer nodes n)

  unfoldable pub lower_as : ℕ → NodeId → Low ExprId
  lower_as k n =
      when (eqb k 1) (pair apply n)
      (when (eqb k 2) (lower_if_else n)
      (when (eqb k 3) (lower_select n)
      (when (eqb k 4) (pair with_in n)
      (when (eqb k 5) (lower_has_attr n)
      (when (eqb k 6) (lower_string n)
      (when (eqb k 7) (lower_path n)
      (when (eqb k 8) (lower_float n)
      (when (eqb k 9) (lower_integer n)
      (when (eqb k 10) (alloc_expr (literal uri) (pointer nodes n))
      (when (eqb k 11) (lower_lambda n)
      (when (eqb k 12) (lower_let_in n)
      (when (eqb k 13) (lower_list n)
      (when (eqb k 14) (lower_bin_op n)
      (when (eqb k 15) (opt (kid nodes 0 n))
      (when (eqb k 16) (lower_attr_set n)
      (when (eqb k 17) (lower_unary_op n)
      (when (eqb k 18) (lower_ident n)
      (when (eqb k 19) (pair assert_in n)
      (when (eqb k 21) (opt (kid nodes 0 n))
      -- Error and LegacyLet
      (alloc_expr missing (pointer nodes n)))))))))))))))))))))

-- ---- The knot: nodes are nested at most 256 deep in an accepted sheet, so that the bound is never met.
module _ (nodes : List Node) where
  unfoldable mutual
    pub lower_expr : ℕ → NodeId → Low ExprId
    lower_expr zero n = alloc_missing
    lower_expr (suc depth) n = lower_as nodes (λ m. lower_expr depth m) (λ s m. merge_bindings depth s m) (kind nodes n) n

    pub merge_bindings : ℕ → SetId → NodeId → Low (Unit {0})
    merge_bindings zero s n = give tt
    merge_bindings (suc depth) s n = merge_entries nodes (λ m. lower_expr depth m) (λ t m. merge_bindings depth t m) s n

-- the module of an accepted sheet's nodes
unfoldable pub module_of : ExprId → State → Module
module_of e st = record { entry = e; exprs = st.exprs; names = st.names; diagnostics = st.diagnostics; lost = st.lost }

unfoldable pub lower_module : List Node → Module
lower_module nodes = let r = lower_expr nodes 256 0 empty in module_of r.0 r.1
