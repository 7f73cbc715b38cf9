-- Lowering a subtree makes at most two list items for each node below its first, and one Reference for each node.
-- Assumes nothing.
use mathlib.Core.Path.{◌≡◌, refl}
use mathlib.Core.Bool.{Bool, true, false}
use mathlib.Core.List.{List, [], ◌∷◌}
use mathlib.Core.Option.{Option, none, some}
use Prim.Native.Nat.{ℕ, zero, suc, ◌+◌, ◌*◌, ◌-◌, ◌≤◌, ◌<◌}
use native.Mathlib.Omega.{arith}
use lib.ListN.{length}
use lib.Dec.{eqb}
use borrow.Author.Tests.{eqb-true}
use Rattle.words.specs.Order.{pick}
use Rattle.spec.specs.Basics.{Text, NodeId, ExprId, NameId}
use Rattle.spec.specs.Kinds.{Slot, expression, path, attribute, entry, part, parameter, from, ident, bind, pattern_entry, takes, kind_of, kinds}
use Rattle.spec.specs.Sheet.{Node, accepted}
use Rattle.spec.specs.Module.{Pointer, string, expr, inherit, inherit_from, Pat, Expr, missing, apply, lambda, let_in, list, attr_set, literal, reference, select, has_attr, with_in, assert_in, string_interpolation, path_interpolation, NameKind, Param, PatField, PlainAttrset}
use Rattle.spec.specs.Keys.{AttrKind, static_key, dynamic_key, kind, flag, text, pointer, kid, items, items_after, get_str_literal, attr_kind}
use Rattle.spec.specs.Steps.{◌>>=◌, asks, each, each_of}
use Rattle.spec.specs.Tree.{met, walk_to, judge_tree}
use Rattle.spec.specs.State.{SetId, MergingSet, MergingEntry, source, dynamic, State, empty, Low, alloc_expr, add_entry}
use Rattle.spec.specs.Scopes.{pat_fields}
use Rattle.spec.specs.Answer.{reference_text}
use Rattle.spec.specs.Merge.{find, nested_in, nested_at, new_nested, finish, finish_expr, lower_opt, push_dynamic, merge_lowered, merge_into, merge_keyed, merge_attr_as, merge_attr_value, merge_step_as, merge_nested_attr_value, merge_path, attributes, merge_attrpath_val, inherit_value, inherit_as, inherit_attr, inherit_source, merge_inherit, merge_entry, entries_of, merge_entries, desugar}
use Rattle.spec.specs.Lower.{lower_if_there, lower_part, string_as, lower_string, lower_path, lower_attr, lower_attrpath_opt, lower_name, lower_field, lower_pattern, lower_param, pair, lower_if_else, lower_select, lower_has_attr, lower_float, lower_integer, lower_lambda, lower_let_in, lower_list, lower_bin_op, lower_attr_set, lower_unary_op, lower_ident, lower_as, lower_expr, merge_bindings, lower_module, module_of}
use Rattle.spec.proofs.general.Sums.{sum_by}
use Rattle.spec.proofs.once.Weights.{Between, Known}
use Rattle.spec.proofs.once.Merging.{Inside, Base, nested_between}
use Rattle.spec.proofs.tree.Subtrees.{Sub, Here, Place, absent, here, Items, done, item, sub_more, sub_le, place_le, items_le, one_of, two_of, three_of, items_of_lem, one_then_of, walked_all}
use Rattle.spec.proofs.tree.Keyed.{entry_kind, part_kind, parameter_kind, nowhere, somewhere, KeyExpr, whole, within, Key, key_of_lem}
use Rattle.spec.proofs.steps.Filling.{binding_items, items_in, referring, list_items, references_in, Filled, Fills, light, each_one, sum_ones, fills_next, fills_more, fills_pay, fills_worth, fills_give, fills_when, fills_alloc, fills_missing, fills_name, expr_fills, finish_fills}
use Rattle.spec.proofs.steps.Gathering.{Gathered, Gathers, gathers_then, gathers_next, gathers_more, gathers_give, gathers_when, gathers_add, gathers_value, gathers_nested, fills_own_set}

-- the expressions of the nodes with fewer than b levels below them
record LowersFew (nodes : List Node) (b : ℕ) (lower : NodeId → Low ExprId) : Type 0 where
  fills : (E : List MergingEntry) (n h : ℕ) → Sub nodes b n h → Fills E 0 light (2 * (h - n)) (h - n + 1) (lower n)

-- and the entries of such sets
record MergesFew (nodes : List Node) (b : ℕ) (merge : SetId → NodeId → Low (Unit {0})) : Type 0 where
  gathers : (s : SetId) (n h : ℕ) → kind nodes n ≡ 16 → Sub nodes b n h → Gathers (2 * (h - n)) (h - n) s (merge s n)

-- what a parameter has in hand: its fields
abbrev param_items : Option NameId × Option Pat → ℕ
param_items p = length (pat_fields p.1)

module _ (nodes : List Node) (b : ℕ) (lower : NodeId → Low ExprId) (merge : SetId → NodeId → Low (Unit {0})) (lowers : LowersFew nodes b lower) where
  module _ {E : List MergingEntry} where
    -- ---- places and lists
    opt_fills : {slot : Slot} {p : Option NodeId} {a h : ℕ} → Place nodes b slot p a h → Fills E 0 light (2 * (h - a)) (h - a) (lower_opt nodes lower merge p)
    unfolding lower_opt
    opt_fills absent = fills_more _ _ (omega arith) (omega arith) fills_missing
    opt_fills (here {k = k} {h = h} z) = let j = sub_le nodes z.sub in fills_more _ _ (omega (arith, z.next)) (omega (arith, z.next)) (lowers.fills E k h z.sub)

    there_fills : {slot : Slot} {p : Option NodeId} {a h : ℕ} → Place nodes b slot p a h → Fills E 0 light (2 * (h - a)) (h - a) (lower_if_there nodes lower merge p)
    unfolding lower_if_there
    there_fills absent = fills_more _ _ (omega arith) (omega arith) (fills_give none (omega arith))
    there_fills (here {k = k} {h = h} z) =
        let j = sub_le nodes z.sub in
        fills_more _ _ (omega (arith, z.next)) (omega (arith, z.next)) (fills_next (lowers.fills E k h z.sub) λ e. fills_give {w = light} (some e) (omega arith))

    -- a list whose items are each in hand
    items_fill : {A : Type 0} (slot : Slot) (f : NodeId → Low A) → ((k a m : ℕ) → Here nodes b slot k a m → Fills E 0 light (2 * (m - k) + 1) (m - a) (f k))
        → {ks : List NodeId} {a h : ℕ} → Items nodes b slot ks a h → Fills E 0 (sum_by each_one) (2 * (h - a)) (h - a) (each f ks)
    unfolding each
    items_fill slot f w done = fills_more _ _ (omega arith) (omega arith) (fills_give [] (omega arith))
    items_fill slot f w (item {k = k} {a = a} {m = m} {h = h} z r) =
        let i = items_le nodes r in
        let j = sub_le nodes z.sub in
        fills_more _ _ (omega (arith, z.next)) (omega (arith, z.next))
        (fills_next (fills_worth each_one 1 (λ x. omega arith) (w k a m z)) λ x. fills_next (items_fill slot f w r) λ xs. fills_give (x ∷ xs) (omega arith))

    -- ---- strings and paths
    part_fills : (k a m : ℕ) → Here nodes b part k a m → Fills E 0 light (2 * (m - k) + 1) (m - a) (lower_part nodes lower merge k)
    unfolding lower_part kind_of kinds
    part_fills k a m z = fills_when (λ e. fills_more _ _ (omega arith) (omega arith) (fills_give _ (omega arith))) (λ e.
        let o = one_of nodes 33 expression (sub_more nodes (suc b) (omega arith) z.sub) (part_kind (kind nodes k) z.taken e) refl in
        let i = place_le nodes o.first in
        fills_more _ _ (omega (arith, o.ends)) (omega (arith, z.next, o.ends)) (fills_next (opt_fills o.first) λ e. fills_give {w = light} _ (omega arith)))

    string_fills : (n h : ℕ) → Sub nodes (suc b) n h → kind nodes n ≡ 6 → Fills E 0 light (2 * (h - n)) (h - n) (lower_string nodes lower merge n)
    unfolding lower_string string_as kind_of kinds reference_text
    string_fills n h s e = go (get_str_literal nodes n)
      where
        go : (t : Option Text) → Fills E 0 light (2 * (h - n)) (h - n) (string_as nodes lower merge n t)
        go none =
            fills_more _ _ (omega arith) (omega arith)
            (fills_next (items_fill part (lower_part nodes lower merge) part_fills (items_of_lem nodes 6 part s e refl refl)) λ ps.
            fills_alloc (string_interpolation ps) (pointer nodes n) (omega (arith, sum_ones ps)))
        go (some t) = fills_more _ _ (omega arith) (omega arith) (fills_alloc (literal (string t)) (pointer nodes n) (omega arith))

    path_fills : (n h : ℕ) → Sub nodes (suc b) n h → kind nodes n ≡ 7 → Fills E 0 light (2 * (h - n)) (h - n) (lower_path nodes lower merge n)
    unfolding lower_path kind_of kinds reference_text
    path_fills n h s e = fills_when
        (λ _. fills_more _ _ (omega arith) (omega arith) (fills_next (items_fill part _ part_fills (items_of_lem nodes 7 part s e refl refl)) λ ps. fills_alloc (path_interpolation ps) _ (omega (arith, sum_ones ps))))
        (λ _. fills_more _ _ (omega arith) (omega arith) (fills_alloc _ _ (omega arith)))

    -- ---- attribute paths
    attr_fills : (k a m : ℕ) → Here nodes b attribute k a m → Fills E 0 light (2 * (m - k) + 1) (m - a) (lower_attr nodes lower merge k)
    unfolding lower_attr kind_of kinds reference_text
    attr_fills k a m z =
        let s = sub_more nodes (suc b) (omega arith) z.sub in
        let j = sub_le nodes z.sub in
        fills_when (λ e.
        let o = one_of nodes 24 expression s (eqb-true (kind nodes k) 24 e) refl in
        let i = place_le nodes o.first in
        fills_more _ _ (omega (arith, o.ends)) (omega (arith, z.next, o.ends)) (opt_fills o.first))
        (λ _. fills_when (λ e. fills_more _ _ (omega arith) (omega (arith, z.next)) (string_fills k m s (eqb-true (kind nodes k) 6 e)))
        (λ _. fills_when (λ _. fills_more _ _ (omega arith) (omega arith) (fills_alloc _ _ (omega arith))) (λ _. fills_more _ _ (omega arith) (omega arith) fills_missing)))

    attrpath_fills : {p : Option NodeId} {a h : ℕ} → Place nodes b path p a h
        → Fills E 0 (sum_by each_one) (2 * (h - a)) (h - a) (lower_attrpath_opt nodes lower merge p)
    unfolding lower_attrpath_opt attributes kind_of kinds takes
    attrpath_fills absent = items_fill attribute _ attr_fills done
    attrpath_fills (here {k = k} {h = h} z) =
        fills_more _ _ (omega (arith, z.next)) (omega (arith, z.next))
        (items_fill attribute _ attr_fills (items_of_lem nodes 23 attribute (sub_more nodes (suc b) (omega arith) z.sub) (eqb-true (kind nodes k) 23 z.taken) refl refl))

    -- ---- parameters
    name_fills : (k : NameKind) (p : Option NodeId) → Fills E 0 light 0 0 (lower_name nodes lower merge k p)
    unfolding lower_name
    name_fills k none = fills_give none (omega arith)
    name_fills k (some i) = fills_next (fills_name _ k _) λ x. fills_give {w = light} (some x) (omega arith)

    field_fills : (k a m : ℕ) → Here nodes b pattern_entry k a m → Fills E 0 light (2 * (m - k) + 1) (m - a) (lower_field nodes lower merge k)
    unfolding lower_field kind_of kinds takes
    field_fills k a m z =
        let o = two_of nodes 31 ident expression (sub_more nodes (suc b) (omega arith) z.sub) (eqb-true (kind nodes k) 31 z.taken) refl in
        let i = place_le nodes o.first in
        let j = place_le nodes o.second in
        fills_more _ _ (omega (arith, o.ends)) (omega (arith, z.next, o.ends))
        (fills_next (name_fills PatField _) λ x. fills_next (there_fills o.second) λ e. fills_give {w = light} (x, e) (omega arith))

    pattern_fills : (n h : ℕ) → Sub nodes (suc b) n h → kind nodes n ≡ 29 → Fills E 0 param_items (2 * (h - n)) (h - n) (lower_pattern nodes lower merge n)
    unfolding lower_pattern kind_of kinds pat_fields
    pattern_fills n h s e =
        let o = one_then_of nodes 29 bind pattern_entry s e refl refl in
        let i = place_le nodes o.first in
        let j = items_le nodes o.rest in
        fills_more _ _ (omega arith) (omega arith)
        (fills_next (name_fills Param _) λ x. fills_next (items_fill pattern_entry _ field_fills o.rest) λ fs. fills_give {w = param_items} _ (omega (arith, sum_ones fs)))

    param_fills : {p : Option NodeId} {a h : ℕ} → Place nodes b parameter p a h → Fills E 0 param_items (2 * (h - a)) (h - a) (lower_param nodes lower merge p)
    unfolding lower_param kind_of kinds pat_fields
    param_fills absent = fills_more _ _ (omega arith) (omega arith) (fills_give (none, none) (omega arith))
    param_fills (here {k = k} {h = h} z) =
        let s = sub_more nodes (suc b) (omega arith) z.sub in
        fills_when
        (λ e. fills_more _ _ (omega arith) (omega arith) (fills_next (name_fills Param _) λ x. fills_give {w = param_items} (x, none) (omega arith)))
        (λ e. fills_more _ _ (omega (arith, z.next)) (omega (arith, z.next)) (pattern_fills k h s (parameter_kind (kind nodes k) z.taken e)))

    -- ---- keys
    key_fills : {a h : ℕ} {p : Option NodeId} → Sub nodes b a h → KeyExpr nodes b a h p → Fills E 0 light (2 * (h - a)) (h - a + 1) (lower_opt nodes lower merge p)
    unfolding lower_opt
    key_fills {a = a} {h = h} s (whole e) = lowers.fills E a h s
    key_fills s (within nowhere) = fills_more _ _ (omega arith) (omega arith) fills_missing
    key_fills s (within (somewhere {k = k} {m = m} i j w)) = let l = sub_le nodes w in fills_more _ _ (omega arith) (omega arith) (lowers.fills E k m w)

    -- ---- expressions of counted places
    pair_fills : (f : ExprId → ExprId → Expr) → ((x y : ExprId) → items_in (f x y) ≡ 0) → ((x y : ExprId) → referring (f x y) ≡ 0)
        → (k n h : ℕ) → Sub nodes (suc b) n h → kind nodes n ≡ k → (kind_of k).counted ≡ expression ∷ expression ∷ []
        → Fills E 0 light (2 * (h - n)) (h - n) (pair nodes lower merge f n)
    unfolding pair
    pair_fills f no_items no_refs k n h s e c =
        let o = two_of nodes k expression expression s e c in
        let i = place_le nodes o.first in
        let j = place_le nodes o.second in
        fills_more _ _ (omega (arith, o.ends)) (omega (arith, o.ends))
        (fills_next (opt_fills o.first) λ x. fills_next (opt_fills o.second) λ y. fills_more 0 0 (omega arith) (omega (arith, no_refs x y)) (fills_alloc (f x y) _ (omega (arith, no_items x y))))

    if_fills : (n h : ℕ) → Sub nodes (suc b) n h → kind nodes n ≡ 2 → Fills E 0 light (2 * (h - n)) (h - n) (lower_if_else nodes lower merge n)
    unfolding lower_if_else kind_of kinds reference_text
    if_fills n h s e =
        let o = three_of nodes 2 expression expression expression s e refl in
        let i = place_le nodes o.first in
        let j = place_le nodes o.second in
        let k = place_le nodes o.third in
        fills_more _ _ (omega (arith, o.ends)) (omega (arith, o.ends))
        (fills_next (opt_fills o.first) λ x. fills_next (opt_fills o.second) λ y. fills_next (opt_fills o.third) λ z. fills_alloc _ _ (omega arith))

    select_fills : (n h : ℕ) → Sub nodes (suc b) n h → kind nodes n ≡ 3 → Fills E 0 light (2 * (h - n)) (h - n) (lower_select nodes lower merge n)
    unfolding lower_select kind_of kinds reference_text
    select_fills n h s e =
        let o = three_of nodes 3 expression path expression s e refl in
        let i = place_le nodes o.first in
        let j = place_le nodes o.second in
        let k = place_le nodes o.third in
        fills_more _ _ (omega (arith, o.ends)) (omega (arith, o.ends))
        (fills_next (opt_fills o.first) λ x. fills_next (attrpath_fills o.second) λ y. fills_next (there_fills o.third) λ z.
        fills_alloc (select x y z) _ (omega (arith, sum_ones y)))

    has_attr_fills : (n h : ℕ) → Sub nodes (suc b) n h → kind nodes n ≡ 5 → Fills E 0 light (2 * (h - n)) (h - n) (lower_has_attr nodes lower merge n)
    unfolding lower_has_attr kind_of kinds reference_text
    has_attr_fills n h s e =
        let o = two_of nodes 5 expression path s e refl in
        let i = place_le nodes o.first in
        let j = place_le nodes o.second in
        fills_more _ _ (omega (arith, o.ends)) (omega (arith, o.ends))
        (fills_next (opt_fills o.first) λ x. fills_next (attrpath_fills o.second) λ y. fills_alloc (has_attr x y) _ (omega (arith, sum_ones y)))

    lambda_fills : (n h : ℕ) → Sub nodes (suc b) n h → kind nodes n ≡ 11 → Fills E 0 light (2 * (h - n)) (h - n) (lower_lambda nodes lower merge n)
    unfolding lower_lambda kind_of kinds reference_text
    lambda_fills n h s e =
        let o = two_of nodes 11 parameter expression s e refl in
        let i = place_le nodes o.first in
        let j = place_le nodes o.second in
        fills_more _ _ (omega (arith, o.ends)) (omega (arith, o.ends))
        (fills_next (param_fills o.first) λ x. fills_next (opt_fills o.second) λ y. fills_alloc (lambda x.0 x.1 y) _ (omega arith))

    bin_op_fills : (n h : ℕ) → Sub nodes (suc b) n h → kind nodes n ≡ 14 → Fills E 0 light (2 * (h - n)) (h - n) (lower_bin_op nodes lower merge n)
    unfolding lower_bin_op kind_of kinds reference_text
    bin_op_fills n h s e =
        let o = two_of nodes 14 expression expression s e refl in
        let i = place_le nodes o.first in
        let j = place_le nodes o.second in
        fills_more _ _ (omega (arith, o.ends)) (omega (arith, o.ends)) (fills_next (opt_fills o.first) λ x. fills_when
        (λ _. fills_more (2 * (o.last - o.mid)) (o.last - o.mid) (omega arith) (omega arith) fills_missing)
        (λ _. fills_more _ _ (omega arith) (omega arith) (fills_next (opt_fills o.second) λ y. fills_alloc _ _ (omega arith))))

    unary_fills : (n h : ℕ) → Sub nodes (suc b) n h → kind nodes n ≡ 17 → Fills E 0 light (2 * (h - n)) (h - n) (lower_unary_op nodes lower merge n)
    unfolding lower_unary_op kind_of kinds reference_text
    unary_fills n h s e =
        let o = one_of nodes 17 expression s e refl in
        let i = place_le nodes o.first in
        fills_when (λ _. fills_more _ _ (omega arith) (omega arith) fills_missing)
        (λ _. fills_more _ _ (omega (arith, o.ends)) (omega (arith, o.ends)) (fills_next (opt_fills o.first) λ x. fills_alloc _ _ (omega arith)))

    inside_fills : (k n h : ℕ) → Sub nodes (suc b) n h → kind nodes n ≡ k → (kind_of k).counted ≡ expression ∷ []
        → Fills E 0 light (2 * (h - n)) (h - n) (lower_opt nodes lower merge (kid nodes 0 n))
    inside_fills k n h s e c =
        let o = one_of nodes k expression s e c in
        let i = place_le nodes o.first in
        fills_more _ _ (omega (arith, o.ends)) (omega (arith, o.ends)) (opt_fills o.first)

    list_fills : (n h : ℕ) → Sub nodes (suc b) n h → kind nodes n ≡ 13 → Fills E 0 light (2 * (h - n)) (h - n) (lower_list nodes lower merge n)
    unfolding lower_list kind_of kinds reference_text
    list_fills n h s e =
        fills_more _ _ (omega arith) (omega arith) (fills_next (items_fill expression lower
        (λ k a m z. let j = sub_le nodes z.sub in fills_more _ _ (omega arith) (omega (arith, z.next)) (lowers.fills E k m z.sub))
        (items_of_lem nodes 13 expression s e refl refl)) λ xs. fills_alloc (list xs) _ (omega (arith, sum_ones xs)))

  -- ---- Merging
  module _ (all : MergesFew nodes b merge) where
    dynamic_gathers : (s : SetId) (k v : ExprId) → Gathers 1 0 s (add_entry (dynamic s k v))
    unfolding nested_in
    dynamic_gathers s k v = gathers_add (dynamic s k v) refl refl

    source_gathers : (s : SetId) (e : ExprId) → Gathers 1 0 s (add_entry (source s e))
    unfolding nested_in
    source_gathers s e = gathers_add (source s e) refl refl

    push_gathers : {u v u' v' : ℕ} (s : SetId) (k x : Option NodeId) → ((E : List MergingEntry) → Fills E 0 light u v (lower_opt nodes lower merge k))
        → ((E : List MergingEntry) → Fills E 0 light u' v' (lower_opt nodes lower merge x))
        → Gathers (u + (u' + 1)) (v + (v' + 0)) s (push_dynamic nodes lower merge s k x)
    unfolding push_dynamic
    push_gathers s k x f g = gathers_next _ _ f λ y. gathers_more _ _ (omega arith) (omega arith) (gathers_next 1 0 g λ z. gathers_more _ _ (omega arith) (omega arith) (dynamic_gathers s y z))

    lowered_gathers : (s : SetId) (key : Text) (attr : NodeId) {v : Option NodeId} {a h : ℕ} → Place nodes b expression v a h
        → Gathers (2 * (h - a) + 1) (h - a) s (merge_lowered nodes lower merge s key attr v)
    unfolding merge_lowered
    lowered_gathers s key attr p =
        gathers_more _ _ (omega arith) (omega arith) (gathers_next 1 0 (λ E. opt_fills p) λ e. gathers_more _ _ (omega arith) (omega arith) (gathers_value s key (pointer nodes attr) (expr e)))

    keyed_gathers : (s : SetId) (key : Text) (attr : NodeId) {v : Option NodeId} {a h : ℕ} → Place nodes b expression v a h
        → Gathers (2 * (h - a) + 1) (h - a) s (merge_keyed nodes lower merge s key attr v)
    unfolding merge_keyed merge_into ◌>>=◌ asks
    keyed_gathers s key attr absent = lowered_gathers s key attr {a = _} absent
    keyed_gathers s key attr (here {k = k} {a = a} {h = h} z) =
        gathers_when (λ e. record { gathers = λ E Z st base I i. go e E Z st base I i (nested_at (find s key st) st) refl }) (λ _. lowered_gathers s key attr (here z))
      where
        go : eqb (kind nodes k) 16 ≡ true → (E : List MergingEntry) (Z : List MergingSet) (st : State) → Base E Z → Inside E Z st
            → Between (length Z) (length st.sets) s
            → (o : Option SetId) → nested_at (find s key st) st ≡ o → Gathered E Z (2 * (h - a) + 1) (h - a) st (merge_into nodes lower merge s key attr k o st).1
        go e E Z st base I i none q = (lowered_gathers s key attr (here z)).gathers E Z st base I i
        go e E Z st base I i (some t) q =
            let m : Gathers (2 * (h - a) + 1) (h - a) t (merge t k) =
            gathers_more _ _ (omega (arith, z.next)) (omega (arith, z.next)) (all.gathers t k h (eqb-true (kind nodes k) 16 e) z.sub) in
            m.gathers E Z st base I (nested_between st base I s i key t q)

    -- the last attribute of a path, from a to m, and the value, from m to h
    attr_gathers : (s : SetId) {k : NodeId} {v : Option NodeId} {a m h : ℕ} → Here nodes b attribute k a m → Place nodes b expression v m h
        → Gathers (2 * (h - a)) (h - a) s (merge_attr_value nodes lower merge s k v)
    unfolding merge_attr_value merge_attr_as
    attr_gathers s {k} {v} {a} {m} {h} z p = go (attr_kind nodes k) (key_of_lem nodes z.sub z.taken) (place_le nodes p) (sub_le nodes z.sub)
      where
        go : (t : AttrKind) → Key nodes b k m t → m ≤ h → k ≤ m → Gathers (2 * (h - a)) (h - a) s (merge_attr_as nodes lower merge s k v t)
        go (static_key key) y i j = gathers_more _ _ (omega (arith, z.next)) (omega (arith, z.next)) (keyed_gathers s key k p)
        go (dynamic_key q) y i j = gathers_more _ _ (omega (arith, z.next)) (omega (arith, z.next)) (push_gathers s q v (λ E. key_fills z.sub y) (λ E. opt_fills p))

    -- an attribute before the last, from a to m, and what comes after it
    step_gathers : (s : SetId) {k : NodeId} {a m : ℕ} → Here nodes b attribute k a m → {u v : ℕ} (rest : SetId → Low (Unit {0}))
        → ((t : SetId) → Gathers u v t (rest t))
        → (t : AttrKind) → Key nodes b k m t → Gathers (2 * (m - a) + u) (m - a + v) s (merge_step_as nodes lower merge s k rest t)
    unfolding merge_step_as new_nested
    step_gathers s {k} z rest r (static_key key) y =
        let j = sub_le nodes z.sub in gathers_more _ _ (omega (arith, z.next)) (omega (arith, z.next)) (gathers_nested s key (pointer nodes k) rest r)
    step_gathers s {k} {a} {m} z {u} {v} rest r (dynamic_key q) y =
        let j = sub_le nodes z.sub in
        gathers_more _ _ (omega (arith, z.next)) (omega (arith, z.next))
        (gathers_next (2 * (m - k) + 1) (m - k + 1) (fills_own_set {w = light} PlainAttrset (pointer nodes k) rest finish_expr r expr_fills) λ e.
        gathers_more _ _ (omega arith) (omega arith) (gathers_next 1 0 (λ E. key_fills z.sub y) λ w. gathers_more _ _ (omega arith) (omega arith) (dynamic_gathers s w e)))

    nested_gathers : (s : SetId) (k : NodeId) (more : List NodeId) (v : Option NodeId) {a m c h : ℕ} → Here nodes b attribute k a m
        → Items nodes b attribute more m c
        → Place nodes b expression v c h → Gathers (2 * (h - a)) (h - a) s (merge_nested_attr_value nodes lower merge s k more v)
    unfolding merge_nested_attr_value
    nested_gathers s k [] v z done p = attr_gathers s z p
    nested_gathers s k (j ∷ more) v z (item y r) p =
        let i = place_le nodes p in
        let u = items_le nodes r in
        let w = sub_le nodes z.sub in
        let x = sub_le nodes y.sub in
        gathers_more _ _ (omega (arith, z.next, y.next)) (omega (arith, z.next, y.next))
        (step_gathers s z (λ t. merge_nested_attr_value nodes lower merge t j more v) (λ t. nested_gathers t j more v y r p) (attr_kind nodes k) (key_of_lem nodes z.sub z.taken))

    attrpath_gathers : (s : SetId) (k a h : ℕ) → Here nodes b entry k a h → kind nodes k ≡ 25
        → Gathers (2 * (h - a)) (h - a) s (merge_attrpath_val nodes lower merge s k)
    unfolding merge_attrpath_val attributes merge_path lower_opt kind_of kinds takes
    attrpath_gathers s k a h z e =
        let o = two_of nodes 25 path expression (sub_more nodes (suc b) (omega arith) z.sub) e refl in
        let i = place_le nodes o.first in
        let j = place_le nodes o.second in
        gathers_more _ _ (omega (arith, z.next, o.ends)) (omega (arith, z.next, o.ends)) (go (kid nodes 0 k) o.first o.second)
      where
        -- no attribute
        none_there : {v : Option NodeId} {c d m : ℕ} → c ≤ d → Place nodes b expression v d m
            → Gathers (2 * (m - c) + 1) (m - c) s (push_dynamic nodes lower merge s none v)
        none_there {v} u y = let w = place_le nodes y in gathers_more _ _ (omega arith) (omega arith) (push_gathers s none v (λ E. fills_missing) (λ E. opt_fills y))

        listed : (ks : List NodeId) {v : Option NodeId} {c d m : ℕ} → Items nodes b attribute ks c d → Place nodes b expression v d m
            → Gathers (2 * (m - c) + 1) (m - c) s (merge_path nodes lower merge s ks v)
        listed [] done y = none_there (omega arith) y
        listed (q ∷ qs) {v = v} (item x r) y = gathers_more _ _ (omega arith) (omega arith) (nested_gathers s q qs v x r y)

        go : (p : Option NodeId) {v : Option NodeId} {c d m : ℕ} → Place nodes b path p c d → Place nodes b expression v d m
            → Gathers (2 * (m - c) + 1) (m - c) s (merge_path nodes lower merge s (attributes nodes lower merge p) v)
        go none absent y = none_there (omega arith) y
        go (some q) (here x) y =
            let w = place_le nodes y in
            let j = sub_le nodes x.sub in
            gathers_more _ _ (omega (arith, x.next)) (omega (arith, x.next))
            (listed (items nodes q) (items_of_lem nodes 23 attribute (sub_more nodes (suc b) (omega arith) x.sub) (eqb-true (kind nodes q) 23 x.taken) refl refl) y)

    -- ---- inherit: a Reference, or a Select by a path of one
    inherit_value_fills : {E : List MergingEntry} (set : Option ExprId) (key : Text) (p : Pointer) → Fills E 0 light 1 1 (inherit_value nodes lower merge set key p)
    unfolding inherit_value reference_text
    inherit_value_fills none key p = fills_more _ _ (omega arith) (omega arith) (fills_next (fills_alloc (reference key) p (omega arith)) λ e. fills_give {w = light} (inherit e) (omega arith))
    inherit_value_fills (some set) key p =
        fills_more _ _ (omega arith) (omega arith)
        (fills_next (fills_alloc (literal (string key)) p (omega arith)) λ l.
        fills_next (fills_pay 1 (fills_alloc (select set (l ∷ []) none) p (omega arith))) λ e. fills_give {w = light} (inherit_from e) (omega arith))

    inherit_attr_gathers : (s : SetId) (set : Option ExprId) (k a m : ℕ) → Here nodes b attribute k a m
        → Gathers (2 * (m - a)) (m - a) s (inherit_attr nodes lower merge s set k)
    unfolding inherit_attr inherit_as lower_opt
    inherit_attr_gathers s set k a m z = go (attr_kind nodes k) (key_of_lem nodes z.sub z.taken) (sub_le nodes z.sub)
      where
        go : (t : AttrKind) → Key nodes b k m t → k ≤ m → Gathers (2 * (m - a)) (m - a) s (inherit_as nodes lower merge s set k t)
        go (static_key key) y j =
            gathers_more _ _ (omega (arith, z.next)) (omega (arith, z.next))
            (gathers_next 1 0 (λ E. inherit_value_fills set key (pointer nodes k)) λ v. gathers_more _ _ (omega arith) (omega arith) (gathers_value s key (pointer nodes k) v))
        go (dynamic_key q) y j = gathers_more _ _ (omega (arith, z.next)) (omega (arith, z.next)) (push_gathers s none q (λ E. fills_missing) (λ E. key_fills z.sub y))

    from_gathers : (s : SetId) {p : Option NodeId} {a m : ℕ} → Place nodes b from p a m → Gathers (2 * (m - a)) (m - a) s (inherit_source nodes lower merge s p)
    unfolding inherit_source kind_of kinds takes
    from_gathers s absent = gathers_more _ _ (omega arith) (omega arith) (gathers_give none)
    from_gathers s (here {k = k} z) =
        let o = one_of nodes 27 expression (sub_more nodes (suc b) (omega arith) z.sub) (eqb-true (kind nodes k) 27 z.taken) refl in
        let i = place_le nodes o.first in
        gathers_more _ _ (omega (arith, z.next, o.ends)) (omega (arith, z.next, o.ends))
        (gathers_next 1 0 (λ E. opt_fills o.first) λ e. gathers_more _ _ (omega arith) (omega arith) (gathers_then (source_gathers s e) λ _. gathers_give (some e)))

    items_gather : (s : SetId) (slot : Slot) (f : NodeId → Low (Unit {0})) → ((k a m : ℕ) → Here nodes b slot k a m → Gathers (2 * (m - a)) (m - a) s (f k))
        → {ks : List NodeId} {a h : ℕ} → Items nodes b slot ks a h → Gathers (2 * (h - a)) (h - a) s (each_of f ks)
    unfolding each_of
    items_gather s slot f w done = gathers_more _ _ (omega arith) (omega arith) (gathers_give tt)
    items_gather s slot f w (item {k = k} {a = a} {m = m} z r) =
        let i = items_le nodes r in
        let j = sub_le nodes z.sub in
        gathers_more _ _ (omega (arith, z.next)) (omega (arith, z.next)) (gathers_then (w k a m z) λ _. items_gather s slot f w r)

    inherit_gathers : (s : SetId) (k a h : ℕ) → Here nodes b entry k a h → kind nodes k ≡ 26 → Gathers (2 * (h - a)) (h - a) s (merge_inherit nodes lower merge s k)
    unfolding merge_inherit kind_of kinds
    inherit_gathers s k a h z e =
        let o = one_then_of nodes 26 from attribute (sub_more nodes (suc b) (omega arith) z.sub) e refl refl in
        let i = place_le nodes o.first in
        let j = items_le nodes o.rest in
        gathers_more _ _ (omega (arith, z.next)) (omega (arith, z.next)) (gathers_then (from_gathers s o.first) λ set. items_gather s attribute _ (inherit_attr_gathers s set) o.rest)

    -- ---- the entries of a set or a let, from a to h
    entry_gathers : (s : SetId) (k a h : ℕ) → Here nodes b entry k a h → Gathers (2 * (h - a)) (h - a) s (merge_entry nodes lower merge s k)
    unfolding merge_entry
    entry_gathers s k a h z = gathers_when (λ e. inherit_gathers s k a h z (eqb-true (kind nodes k) 26 e)) (λ e. attrpath_gathers s k a h z (entry_kind (kind nodes k) z.taken e))

    let_gathers : (s : SetId) (n : NodeId) {a h : ℕ} → kind nodes n ≡ 12 → Items nodes b entry (items_after nodes n) a h
        → Gathers (2 * (h - a)) (h - a) s (merge_entries nodes lower merge s n)
    unfolding merge_entries entries_of
    let_gathers s n e r = rw e (items_gather s entry _ (entry_gathers s) r)

    set_gathers : (s : SetId) {n h : ℕ} → kind nodes n ≡ 16 → Sub nodes (suc b) n h → Gathers (2 * (h - n)) (h - n) s (merge_entries nodes lower merge s n)
    unfolding merge_entries entries_of kind_of kinds
    set_gathers s e w = rw e (items_gather s entry _ (entry_gathers s) (items_of_lem nodes 16 entry w e refl refl))

    -- ---- sets and lets
    module _ {E : List MergingEntry} where
      let_fills : (n h : ℕ) → Sub nodes (suc b) n h → kind nodes n ≡ 12 → Fills E 0 light (2 * (h - n)) (h - n) (lower_let_in nodes lower merge n)
      unfolding lower_let_in desugar kind_of kinds reference_text
      let_fills n h s e =
          let o = one_then_of nodes 12 expression entry s e refl refl in
          let i = place_le nodes o.first in
          let j = items_le nodes o.rest in
          fills_more _ _ (omega arith) (omega arith)
          (fills_next (fills_own_set {w = binding_items} _ (pointer nodes n) (λ t. merge_entries nodes lower merge t n) finish (λ t. let_gathers t n e o.rest) finish_fills E) λ bs.
          fills_next (opt_fills o.first) λ x. fills_alloc (let_in bs x) _ (omega arith))

      set_fills : (n h : ℕ) → Sub nodes (suc b) n h → kind nodes n ≡ 16 → Fills E 0 light (2 * (h - n)) (h - n) (lower_attr_set nodes lower merge n)
      unfolding lower_attr_set desugar reference_text
      set_fills n h s e =
          fills_more _ _ (omega arith) (omega arith)
          (fills_next (fills_own_set {w = binding_items} _ (pointer nodes n) (λ t. merge_entries nodes lower merge t n) finish (λ t. set_gathers t e s) finish_fills E) λ bs.
          fills_alloc (attr_set (eqb (flag nodes n) 1) bs) _ (omega arith))

      -- ---- an expression
      few : {p : Low ExprId} {u v : ℕ} → Fills E 0 light u v p → Fills E 0 light u (v + 1) p
      few w = fills_more _ _ (omega arith) (omega arith) w

      ident_fills : (n h : ℕ) (t : Bool) → Fills E 0 light (2 * (h - n)) (h - n + 1) (alloc_expr (pick t (reference (text nodes n)) missing) (pointer nodes n))
      unfolding reference_text
      ident_fills n h true = fills_more _ _ (omega arith) (omega arith) (fills_alloc (reference (text nodes n)) (pointer nodes n) (omega arith))
      ident_fills n h false = fills_more _ _ (omega arith) (omega arith) (fills_alloc missing (pointer nodes n) (omega arith))

      as_fills : (n h : ℕ) → Sub nodes (suc b) n h → Fills E 0 light (2 * (h - n)) (h - n + 1) (lower_as nodes lower merge (kind nodes n) n)
      unfolding lower_as lower_float lower_integer lower_ident kind_of kinds reference_text
      as_fills n h s =
          let is = eqb-true (kind nodes n) in
          fills_when (λ e. few (pair_fills apply (λ x y. refl) (λ x y. refl) 1 n h s (is 1 e) refl)) λ _.
          fills_when (λ e. few (if_fills n h s (is 2 e))) λ _.
          fills_when (λ e. few (select_fills n h s (is 3 e))) λ _.
          fills_when (λ e. few (pair_fills with_in (λ x y. refl) (λ x y. refl) 4 n h s (is 4 e) refl)) λ _.
          fills_when (λ e. few (has_attr_fills n h s (is 5 e))) λ _.
          fills_when (λ e. few (string_fills n h s (is 6 e))) λ _.
          fills_when (λ e. few (path_fills n h s (is 7 e))) λ _.
          fills_when (λ e. fills_when (λ _. fills_more _ _ (omega arith) (omega arith) (fills_alloc _ _ (omega arith))) (λ _. fills_more _ _ (omega arith) (omega arith) fills_missing)) λ _.
          fills_when (λ e. fills_when (λ _. fills_more _ _ (omega arith) (omega arith) (fills_alloc _ _ (omega arith))) (λ _. fills_more _ _ (omega arith) (omega arith) fills_missing)) λ _.
          fills_when (λ e. fills_more _ _ (omega arith) (omega arith) (fills_alloc _ _ (omega arith))) λ _.
          fills_when (λ e. few (lambda_fills n h s (is 11 e))) λ _.
          fills_when (λ e. few (let_fills n h s (is 12 e))) λ _.
          fills_when (λ e. few (list_fills n h s (is 13 e))) λ _.
          fills_when (λ e. few (bin_op_fills n h s (is 14 e))) λ _.
          fills_when (λ e. few (inside_fills 15 n h s (is 15 e) refl)) λ _.
          fills_when (λ e. few (set_fills n h s (is 16 e))) λ _.
          fills_when (λ e. few (unary_fills n h s (is 17 e))) λ _.
          fills_when (λ e. ident_fills n h (eqb (flag nodes n) 1)) λ _.
          fills_when (λ e. few (pair_fills assert_in (λ x y. refl) (λ x y. refl) 19 n h s (is 19 e) refl)) λ _.
          fills_when (λ e. few (inside_fills 21 n h s (is 21 e) refl)) λ _.
          fills_more _ _ (omega arith) (omega arith) (fills_alloc missing _ (omega arith))

-- ---- The knot
record BothFew (nodes : List Node) (d : ℕ) : Type 0 where
  lowers : LowersFew nodes d (lower_expr nodes d)
  merges : MergesFew nodes d (merge_bindings nodes d)

both_few : (nodes : List Node) (d : ℕ) → BothFew nodes d
unfolding lower_expr
both_few nodes zero = record {
  lowers = record { fills = λ E n h s. absurd (omega (arith, s.fewer)) };
  merges = record { gathers = λ t n h e s. absurd (omega (arith, s.fewer)) };
}
both_few nodes (suc d) =
    let r = both_few nodes d in
    record {
      lowers = record { fills = λ E n h s. as_fills nodes d (lower_expr nodes d) (merge_bindings nodes d) r.lowers r.merges n h s };
      merges = record { gathers = λ t n h e s. set_gathers nodes d (lower_expr nodes d) (merge_bindings nodes d) r.lowers r.merges t e s };
    }

-- ---- The theorem
-- Lowering the node n, whose subtree is n to h: two list items for each node below it, and one Reference for each node;
-- both stacks are as they were.
pub lower_items : (nodes : List Node) (d left n h : ℕ) → left < d → walk_to nodes left n ≡ met h → (st : State) → Known st
    → Filled 0 light (2 * (h - n)) (h - n + 1) st (lower_expr nodes d n st)
lower_items nodes d left n h l w st known = ((both_few nodes d).lowers.fills st.entries n h (record { levels = left; fewer = l; walked = w })).fills st refl known

-- Merging the entries of the AttrSet n into a set, on top of any others: list items and entries together two for each
-- node below it, References one.
pub merge_items : (nodes : List Node) (d left n h : ℕ) → left < d → walk_to nodes left n ≡ met h → kind nodes n ≡ 16
    → (E : List MergingEntry) (Z : List MergingSet) (s : SetId) (st : State) → Base E Z → Inside E Z st → Between (length Z) (length st.sets) s
    → Gathered E Z (2 * (h - n)) (h - n) st (merge_bindings nodes d s n st).1
merge_items nodes d left n h l w e E Z s st base I b =
    ((both_few nodes d).merges.gathers s n h e (record { levels = left; fewer = l; walked = w })).gathers E Z st base I b

-- of every list of nodes that the walk accepts
pub item_room : (nodes : List Node) → judge_tree (accepted nodes) ≡ accepted nodes
    → (list_items (lower_module nodes).exprs ≤ 2 * length nodes) × (references_in (lower_module nodes).exprs ≤ length nodes)
unfolding lower_module module_of
item_room nodes e =
    let z = walked_all nodes e in
    let f = lower_items nodes 256 255 0 z.0 (omega arith) z.1 empty tt in
    (omega (arith, f.items_few, z.2), omega (arith, f.refs_few, z.2))
