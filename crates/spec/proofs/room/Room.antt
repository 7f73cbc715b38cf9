-- "Four expressions, one name and one scope per node always suffice" (docs/RULES.md, "Room"): what lowering adds for
-- the nodes of a subtree. Assumes nothing.
-- An expression n whose subtree ends at h adds at most 4 for each node, and a string at most 1 for itself. Names,
-- diagnostics, sets and entries come from the nodes below it, one for each.
use mathlib.Core.Path.{◌≡◌, refl}
use mathlib.Core.Bool.{Bool, true, false}
use mathlib.Core.List.{List, [], ◌∷◌}
use mathlib.Core.Option.{Option, none, some}
use Prim.Native.Nat.{ℕ, zero, suc, ◌+◌, ◌*◌, ◌-◌, ◌≤◌, ◌<◌}
use native.Mathlib.Omega.{arith}
use lib.ListN.{length}
use lib.Dec.{eqb}
use borrow.Author.Tests.{eqb-true}
use Rattle.words.specs.Order.{pick}
use Rattle.spec.specs.Basics.{Text, NodeId, ExprId}
use Rattle.spec.specs.Kinds.{Slot, expression, path, attribute, entry, part, parameter, from, ident, bind, pattern_entry, takes, kind_of, kinds}
use Rattle.spec.specs.Sheet.{Node, accepted}
use Rattle.spec.specs.Module.{Pointer, Expr, apply, with_in, assert_in, NameKind, Param, PatField, PlainAttrset}
use Rattle.spec.specs.Keys.{AttrKind, static_key, dynamic_key, kind, pointer, kid, kid_of, items, items_after, get_str_literal, attr_kind}
use Rattle.spec.specs.Steps.{each, each_of}
use Rattle.spec.specs.Tree.{met, walk_to, judge_tree}
use Rattle.spec.specs.State.{SetId, MergingSet, MergingEntry, source, dynamic, State, empty, Low, add_entry}
use Rattle.spec.specs.Merge.{find, nested_at, new_nested, finish, finish_expr, lower_opt, push_dynamic, merge_lowered, merge_into, merge_keyed, merge_attr_as, merge_attr_value, merge_step_as, merge_nested_attr_value, merge_path, attributes, merge_attrpath_val, inherit_value, inherit_as, inherit_attr, inherit_source, merge_inherit, merge_entry, entries_of, merge_entries, desugar}
use Rattle.spec.specs.Lower.{lower_if_there, lower_part, string_as, lower_string, lower_path, lower_attr, lower_attrpath_opt, lower_name, lower_field, lower_pattern, lower_param, pair, lower_if_else, lower_select, lower_has_attr, lower_float, lower_integer, lower_lambda, lower_let_in, lower_list, lower_bin_op, lower_attr_set, lower_unary_op, lower_ident, lower_as, lower_expr, merge_bindings, lower_module, module_of}
use Rattle.spec.proofs.steps.Forest.{NestedOnce}
use Rattle.spec.proofs.steps.Through.{Through, through_entry}
use Rattle.spec.proofs.steps.Adds.{Added, Adds, adds_give, adds_more, adds_then, adds_when, adds_expr, adds_missing, adds_name, Merges, merges_after, merges_more, merges_then, merges_when, merges_asks, merges_give, Over, Merged, merged_more, merged_entry, adds_own_set}
use Rattle.spec.proofs.room.IfRoom.{if_last}
use Rattle.spec.proofs.steps.Finish.{finish_adds, finish_expr_adds}
use Rattle.spec.proofs.tree.Subtrees.{Sub, Here, Place, absent, here, Items, done, item, sub_more, sub_le, place_le, items_le, one_of, two_of, three_of, items_of_lem, one_then_of, walked_all}
use Rattle.spec.proofs.steps.RoomMerging.{value_merges, finds_then, nested_finds, nested_there}
use Rattle.spec.proofs.tree.Keyed.{entry_kind, part_kind, parameter_kind, nowhere, somewhere, KeyExpr, whole, within, Key, key_of_lem}

-- what an expression of such a kind may add for itself
abbrev own : ℕ → ℕ
own k = pick (eqb k 6) 1 4

own_le : (k : ℕ) → own k ≤ 4
own_le k = go (eqb k 6)
  where
    go : (b : Bool) → pick b 1 4 ≤ 4
    go true = omega arith
    go false = omega arith

-- the expressions of the nodes with fewer than b levels below them are lowered within their room
pub record LowersWithin (nodes : List Node) (b : ℕ) (lower : NodeId → Low ExprId) : Type 1 where
  pub adds : (ss : List MergingSet) (es : List MergingEntry) → NestedOnce (length ss) es → (n h : ℕ) → Sub nodes b n h → Adds ss es 1 (4 * (h - n) + own (kind nodes n)) (h - n) (lower n)

-- and the entries of such sets are merged within theirs
pub record MergesAll (nodes : List Node) (b : ℕ) (merge : SetId → NodeId → Low (Unit {0})) : Type 1 where
  pub merges : (first : List MergingSet) (old : List MergingEntry) (s : SetId) → length first ≤ s → (n h : ℕ) → kind nodes n ≡ 16 → Sub nodes b n h → Merges first old s (4 * (h - n)) (h - n) (merge s n)

module _ (nodes : List Node) (b : ℕ) (lower : NodeId → Low ExprId) (merge : SetId → NodeId → Low (Unit {0})) (lowers : LowersWithin nodes b lower) where
  module _ {ss : List MergingSet} {es : List MergingEntry} (fine : NestedOnce (length ss) es) where
    -- ---- places and lists
    pub opt_adds : {slot : Slot} {p : Option NodeId} {a h : ℕ} → Place nodes b slot p a h → Adds ss es 1 (4 * (h - a) + 1) (h - a) (lower_opt nodes lower merge p)
    unfolding lower_opt
    opt_adds absent = adds_more _ _ (omega arith) (omega arith) adds_missing
    opt_adds (here {k = k} {h = h} z) = adds_more _ _ (omega (arith, z.next, sub_le nodes z.sub, own_le (kind nodes k))) (omega (arith, z.next)) (lowers.adds ss es fine k h z.sub)

    pub there_adds : {slot : Slot} {p : Option NodeId} {a h : ℕ} → Place nodes b slot p a h → Adds ss es 1 (4 * (h - a)) (h - a) (lower_if_there nodes lower merge p)
    unfolding lower_if_there
    there_adds absent = adds_more _ _ (omega arith) (omega arith) (adds_give none)
    there_adds (here {k = k} {h = h} z) = adds_more _ _ (omega (arith, z.next, sub_le nodes z.sub, own_le (kind nodes k))) (omega (arith, z.next)) (adds_then (lowers.adds ss es fine k h z.sub) λ e. adds_give (some e))

    items_adds : {A : Type 0} (slot : Slot) (f : NodeId → Low A) → ((k a m : ℕ) → Here nodes b slot k a m → Adds ss es 1 (4 * (m - a)) (m - a) (f k)) → {ks : List NodeId} {a h : ℕ} → Items nodes b slot ks a h → Adds ss es 1 (4 * (h - a)) (h - a) (each f ks)
    unfolding each
    items_adds slot f w done = adds_more _ _ (omega arith) (omega arith) (adds_give [])
    items_adds slot f w (item {k = k} {a = a} {m = m} {h = h} z r) =
        let i = items_le nodes r in
        let j = sub_le nodes z.sub in
        adds_more _ _ (omega (arith, z.next)) (omega (arith, z.next)) (adds_then (w k a m z) λ x. adds_then (items_adds slot f w r) λ xs. adds_give (x ∷ xs))

    -- ---- strings and paths
    pub part_adds : (k a m : ℕ) → Here nodes b part k a m → Adds ss es 1 (4 * (m - a)) (m - a) (lower_part nodes lower merge k)
    unfolding lower_part kind_of kinds
    part_adds k a m z = adds_when (λ e. adds_more _ _ (omega arith) (omega arith) (adds_give _)) (λ e.
        let o = one_of nodes 33 expression (sub_more nodes (suc b) (omega arith) z.sub) (part_kind (kind nodes k) z.taken e) refl in
        let i = place_le nodes o.first in
        adds_more _ _ (omega (arith, z.next, o.ends)) (omega (arith, z.next, o.ends)) (adds_then (opt_adds o.first) λ e. adds_give _))

    pub string_adds : (n h : ℕ) → Sub nodes (suc b) n h → kind nodes n ≡ 6 → Adds ss es 1 (4 * (h - n) + 1) (h - n) (lower_string nodes lower merge n)
    unfolding lower_string string_as kind_of kinds
    string_adds n h s e = go (get_str_literal nodes n)
      where
        go : (t : Option Text) → Adds ss es 1 (4 * (h - n) + 1) (h - n) (string_as nodes lower merge n t)
        go none = adds_more _ _ (omega arith) (omega arith) (adds_then (items_adds part _ part_adds (items_of_lem nodes 6 part s e refl refl)) λ ps. adds_expr _ _)
        go (some t) = adds_more _ _ (omega arith) (omega arith) (adds_expr _ _)

    pub path_adds : (n h : ℕ) → Sub nodes (suc b) n h → kind nodes n ≡ 7 → Adds ss es 1 (4 * (h - n) + 1) (h - n) (lower_path nodes lower merge n)
    unfolding lower_path kind_of kinds
    path_adds n h s e = adds_when
        (λ _. adds_more _ _ (omega arith) (omega arith) (adds_then (items_adds part _ part_adds (items_of_lem nodes 7 part s e refl refl)) λ ps. adds_expr _ _))
        (λ _. adds_more _ _ (omega arith) (omega arith) (adds_expr _ _))

    -- ---- attribute paths
    pub attr_adds : (k a m : ℕ) → Here nodes b attribute k a m → Adds ss es 1 (4 * (m - a)) (m - a) (lower_attr nodes lower merge k)
    unfolding lower_attr kind_of kinds
    attr_adds k a m z =
        let s = sub_more nodes (suc b) (omega arith) z.sub in
        let j = sub_le nodes z.sub in
        adds_when (λ e.
        let o = one_of nodes 24 expression s (eqb-true (kind nodes k) 24 e) refl in
        let i = place_le nodes o.first in
        adds_more _ _ (omega (arith, z.next, o.ends)) (omega (arith, z.next, o.ends)) (opt_adds o.first))
        (λ _. adds_when (λ e. adds_more _ _ (omega (arith, z.next)) (omega (arith, z.next)) (string_adds k m s (eqb-true (kind nodes k) 6 e)))
        (λ _. adds_when (λ _. adds_more _ _ (omega (arith, z.next)) (omega arith) (adds_expr _ _)) (λ _. adds_more _ _ (omega (arith, z.next)) (omega arith) adds_missing)))

    pub attrpath_adds : {p : Option NodeId} {a h : ℕ} → Place nodes b path p a h → Adds ss es 1 (4 * (h - a)) (h - a) (lower_attrpath_opt nodes lower merge p)
    unfolding lower_attrpath_opt attributes kind_of kinds takes
    attrpath_adds absent = items_adds attribute _ attr_adds done
    attrpath_adds (here {k = k} {h = h} z) = adds_more _ _ (omega (arith, z.next)) (omega (arith, z.next)) (items_adds attribute _ attr_adds (items_of_lem nodes 23 attribute (sub_more nodes (suc b) (omega arith) z.sub) (eqb-true (kind nodes k) 23 z.taken) refl refl))

    -- ---- parameters
    pub name_adds : (k : NameKind) {slot : Slot} {p : Option NodeId} {a h : ℕ} → Place nodes b slot p a h → Adds ss es 1 0 (h - a) (lower_name nodes lower merge k p)
    unfolding lower_name
    name_adds k absent = adds_more _ _ (omega arith) (omega arith) (adds_give none)
    name_adds k (here z) = adds_more _ _ (omega arith) (omega (arith, z.next, sub_le nodes z.sub)) (adds_then (adds_name _ k _) λ x. adds_give _)

    pub field_adds : (k a m : ℕ) → Here nodes b pattern_entry k a m → Adds ss es 1 (4 * (m - a)) (m - a) (lower_field nodes lower merge k)
    unfolding lower_field kind_of kinds takes
    field_adds k a m z =
        let o = two_of nodes 31 ident expression (sub_more nodes (suc b) (omega arith) z.sub) (eqb-true (kind nodes k) 31 z.taken) refl in
        let i = place_le nodes o.first in
        let j = place_le nodes o.second in
        adds_more _ _ (omega (arith, z.next, o.ends)) (omega (arith, z.next, o.ends)) (adds_then (name_adds PatField o.first) λ x. adds_then (there_adds o.second) λ e. adds_give _)

    bind_adds : {p : Option NodeId} {a h : ℕ} → Place nodes b bind p a h → Adds ss es 1 0 (h - a) (lower_name nodes lower merge Param (kid_of nodes 0 p))
    unfolding kid_of kind_of kinds takes
    bind_adds absent = name_adds Param {slot = ident} absent
    bind_adds (here {k = k} z) =
        let o = one_of nodes 30 ident (sub_more nodes (suc b) (omega arith) z.sub) (eqb-true (kind nodes k) 30 z.taken) refl in
        adds_more _ _ (omega arith) (omega (arith, z.next, o.ends)) (name_adds Param o.first)

    pub pattern_adds : (n h : ℕ) → Sub nodes (suc b) n h → kind nodes n ≡ 29 → Adds ss es 1 (4 * (h - n)) (h - n) (lower_pattern nodes lower merge n)
    unfolding lower_pattern kind_of kinds
    pattern_adds n h s e =
        let o = one_then_of nodes 29 bind pattern_entry s e refl refl in
        let i = place_le nodes o.first in
        let j = items_le nodes o.rest in
        adds_more _ _ (omega arith) (omega arith) (adds_then (bind_adds o.first) λ x. adds_then (items_adds pattern_entry _ field_adds o.rest) λ fs. adds_give _)

    pub param_adds : {p : Option NodeId} {a h : ℕ} → Place nodes b parameter p a h → Adds ss es 1 (4 * (h - a)) (h - a) (lower_param nodes lower merge p)
    unfolding lower_param kind_of kinds
    param_adds absent = adds_more _ _ (omega arith) (omega arith) (adds_give _)
    param_adds (here {k = k} {h = h} z) =
        let s = sub_more nodes (suc b) (omega arith) z.sub in
        adds_when
        (λ e. let o = one_of nodes 28 ident s (eqb-true (kind nodes k) 28 e) refl in adds_more _ _ (omega arith) (omega (arith, z.next, o.ends)) (adds_then (name_adds Param o.first) λ x. adds_give _))
        (λ e. adds_more _ _ (omega (arith, z.next)) (omega (arith, z.next)) (pattern_adds k h s (parameter_kind (kind nodes k) z.taken e)))

    -- ---- keys
    pub key_adds : {a h : ℕ} {p : Option NodeId} → Sub nodes b a h → KeyExpr nodes b a h p → Adds ss es 1 (4 * (h - a) + 1) (h - a) (lower_opt nodes lower merge p)
    unfolding lower_opt
    key_adds {a = a} {h = h} s (whole e) = adds_more _ _ (rw e (omega arith)) (omega arith) (lowers.adds ss es fine a h s)
    key_adds s (within nowhere) = adds_more _ _ (omega arith) (omega arith) adds_missing
    key_adds s (within (somewhere {k = k} {m = m} i j w)) = adds_more _ _ (omega (arith, sub_le nodes w, own_le (kind nodes k))) (omega arith) (lowers.adds ss es fine k m w)

    -- ---- expressions of counted places
    pub pair_adds : (f : ExprId → ExprId → Expr) (k n h : ℕ) → Sub nodes (suc b) n h → kind nodes n ≡ k → (kind_of k).counted ≡ expression ∷ expression ∷ [] → Adds ss es 1 (4 * (h - n) + 4) (h - n) (pair nodes lower merge f n)
    unfolding pair
    pair_adds f k n h s e c =
        let o = two_of nodes k expression expression s e c in
        let i = place_le nodes o.first in
        let j = place_le nodes o.second in
        adds_more _ _ (omega (arith, o.ends)) (omega (arith, o.ends)) (adds_then (opt_adds o.first) λ x. adds_then (opt_adds o.second) λ y. adds_expr _ _)

    pub if_adds : (n h : ℕ) → Sub nodes (suc b) n h → kind nodes n ≡ 2 → Adds ss es 1 (4 * (h - n) + 4) (h - n) (lower_if_else nodes lower merge n)
    unfolding lower_if_else kind_of kinds
    if_adds n h s e =
        let o = three_of nodes 2 expression expression expression s e refl in
        let i = place_le nodes o.first in
        let j = place_le nodes o.second in
        let k = place_le nodes o.third in
        adds_more _ _ (omega (arith, o.ends)) (omega (arith, o.ends)) (adds_then (opt_adds o.first) λ x. adds_then (opt_adds o.second) λ y. if_last x y (pointer nodes n) (opt_adds o.third))

    pub select_adds : (n h : ℕ) → Sub nodes (suc b) n h → kind nodes n ≡ 3 → Adds ss es 1 (4 * (h - n) + 4) (h - n) (lower_select nodes lower merge n)
    unfolding lower_select kind_of kinds
    select_adds n h s e =
        let o = three_of nodes 3 expression path expression s e refl in
        let i = place_le nodes o.first in
        let j = place_le nodes o.second in
        let k = place_le nodes o.third in
        adds_more _ _ (omega (arith, o.ends)) (omega (arith, o.ends)) (adds_then (opt_adds o.first) λ x. adds_then (attrpath_adds o.second) λ y. adds_then (there_adds o.third) λ z. adds_expr _ _)

    pub has_attr_adds : (n h : ℕ) → Sub nodes (suc b) n h → kind nodes n ≡ 5 → Adds ss es 1 (4 * (h - n) + 4) (h - n) (lower_has_attr nodes lower merge n)
    unfolding lower_has_attr kind_of kinds
    has_attr_adds n h s e =
        let o = two_of nodes 5 expression path s e refl in
        let i = place_le nodes o.first in
        let j = place_le nodes o.second in
        adds_more _ _ (omega (arith, o.ends)) (omega (arith, o.ends)) (adds_then (opt_adds o.first) λ x. adds_then (attrpath_adds o.second) λ y. adds_expr _ _)

    pub lambda_adds : (n h : ℕ) → Sub nodes (suc b) n h → kind nodes n ≡ 11 → Adds ss es 1 (4 * (h - n) + 4) (h - n) (lower_lambda nodes lower merge n)
    unfolding lower_lambda kind_of kinds
    lambda_adds n h s e =
        let o = two_of nodes 11 parameter expression s e refl in
        let i = place_le nodes o.first in
        let j = place_le nodes o.second in
        adds_more _ _ (omega (arith, o.ends)) (omega (arith, o.ends)) (adds_then (param_adds o.first) λ x. adds_then (opt_adds o.second) λ y. adds_expr _ _)

    pub bin_op_adds : (n h : ℕ) → Sub nodes (suc b) n h → kind nodes n ≡ 14 → Adds ss es 1 (4 * (h - n) + 4) (h - n) (lower_bin_op nodes lower merge n)
    unfolding lower_bin_op kind_of kinds
    bin_op_adds n h s e =
        let o = two_of nodes 14 expression expression s e refl in
        let i = place_le nodes o.first in
        let j = place_le nodes o.second in
        adds_more _ _ (omega (arith, o.ends)) (omega (arith, o.ends)) (adds_then (opt_adds o.first) λ x. adds_when
        (λ _. adds_more (4 * (o.last - o.mid) + 2) (o.last - o.mid) (omega arith) (omega arith) adds_missing)
        (λ _. adds_more _ _ (omega arith) (omega arith) (adds_then (opt_adds o.second) λ y. adds_expr _ _)))

    pub unary_adds : (n h : ℕ) → Sub nodes (suc b) n h → kind nodes n ≡ 17 → Adds ss es 1 (4 * (h - n) + 4) (h - n) (lower_unary_op nodes lower merge n)
    unfolding lower_unary_op kind_of kinds
    unary_adds n h s e =
        let o = one_of nodes 17 expression s e refl in
        let i = place_le nodes o.first in
        adds_when (λ _. adds_more _ _ (omega arith) (omega arith) adds_missing)
        (λ _. adds_more _ _ (omega (arith, o.ends)) (omega (arith, o.ends)) (adds_then (opt_adds o.first) λ x. adds_expr _ _))

    pub inside_adds : (k n h : ℕ) → Sub nodes (suc b) n h → kind nodes n ≡ k → (kind_of k).counted ≡ expression ∷ [] → Adds ss es 1 (4 * (h - n) + 4) (h - n) (lower_opt nodes lower merge (kid nodes 0 n))
    inside_adds k n h s e c =
        let o = one_of nodes k expression s e c in
        let i = place_le nodes o.first in
        adds_more _ _ (omega (arith, o.ends)) (omega (arith, o.ends)) (opt_adds o.first)

    pub list_adds : (n h : ℕ) → Sub nodes (suc b) n h → kind nodes n ≡ 13 → Adds ss es 1 (4 * (h - n) + 4) (h - n) (lower_list nodes lower merge n)
    unfolding lower_list kind_of kinds
    list_adds n h s e = adds_more _ _ (omega arith) (omega arith) (adds_then (items_adds expression lower
        (λ k a m z. adds_more _ _ (omega (arith, z.next, sub_le nodes z.sub, own_le (kind nodes k))) (omega (arith, z.next)) (lowers.adds ss es fine k m z.sub))
        (items_of_lem nodes 13 expression s e refl refl)) λ xs. adds_expr _ _)

  -- ---- Merging
  module _ (all : MergesAll nodes b merge) where
    dynamic_merges : {first : List MergingSet} {old : List MergingEntry} {n : ℕ} (s : SetId) (k v : ExprId) → Merges first old n 0 1 (add_entry (dynamic s k v))
    dynamic_merges s k v = record {
      from = λ st o i. merged_entry (dynamic s k v) st o tt (λ j. omega (arith, o.fine.once j));
      through = λ l st o i u w. through_entry _ (record { sets_held = omega arith; entries_held = omega arith }) w;
    }

    source_merges : {first : List MergingSet} {old : List MergingEntry} {n : ℕ} (s : SetId) (e : ExprId) → Merges first old n 0 1 (add_entry (source s e))
    source_merges s e = record {
      from = λ st o i. merged_entry (source s e) st o tt (λ j. omega (arith, o.fine.once j));
      through = λ l st o i u w. through_entry _ (record { sets_held = omega arith; entries_held = omega arith }) w;
    }

    pub push_merges : {first : List MergingSet} {old : List MergingEntry} {n e x e' x' : ℕ} (s : SetId) (k v : Option NodeId) → ((ss : List MergingSet) (es : List MergingEntry) → NestedOnce (length ss) es → Adds ss es 1 e x (lower_opt nodes lower merge k)) → ((ss : List MergingSet) (es : List MergingEntry) → NestedOnce (length ss) es → Adds ss es 1 e' x' (lower_opt nodes lower merge v)) → Merges first old n (e + e') (x + x' + 1) (push_dynamic nodes lower merge s k v)
    unfolding push_dynamic
    push_merges s k v f g = merges_more _ _ (omega arith) (omega arith) (merges_after (omega arith) f λ x. merges_after (omega arith) g λ y. dynamic_merges s x y)

    pub lowered_merges : {first : List MergingSet} {old : List MergingEntry} (s : SetId) (key : Text) (attr : NodeId) → length first ≤ s → {v : Option NodeId} {a h : ℕ} → Place nodes b expression v a h → Merges first old s (4 * (h - a) + 1) (h - a + 1) (merge_lowered nodes lower merge s key attr v)
    unfolding merge_lowered
    lowered_merges s key attr l p = merges_more _ _ (omega arith) (omega arith) (merges_after (omega arith) (λ ss es f. opt_adds f p) λ e. value_merges s key _ _ l)

    pub keyed_merges : {first : List MergingSet} {old : List MergingEntry} (s : SetId) (key : Text) (attr : NodeId) → length first ≤ s → {v : Option NodeId} {a h : ℕ} → Place nodes b expression v a h → Merges first old s (4 * (h - a) + 1) (h - a + 1) (merge_keyed nodes lower merge s key attr v)
    unfolding merge_keyed merge_into
    keyed_merges s key attr l absent = lowered_merges s key attr l {a = _} absent
    keyed_merges {first} {old} s key attr l (here {k = k} {a = a} {h = h} z) = merges_when
        (λ e. merges_asks (λ st. nested_at (find s key st) st) _ (λ st o i. go e st o i (nested_at (find s key st) st) refl) (λ n st o i u w. way e n st o i u w (nested_at (find s key st) st) refl))
        (λ _. lowered_merges s key attr l (here z))
      where
        go : eqb (kind nodes k) 16 ≡ true → (st : State) → Over first old st → s < length st.sets → (r : Option SetId) → nested_at (find s key st) st ≡ r → Merged first old (4 * (h - a) + 1) (h - a + 1) st (merge_into nodes lower merge s key attr k r st).1
        go e st o i none f = (lowered_merges s key attr l (here z)).from st o i
        go e st o i (some t) f =
            let y = nested_there s key st t o l f in
            merged_more _ _ (omega (arith, z.next)) (omega (arith, z.next)) ((all.merges first old t y.0 k h (eqb-true (kind nodes k) 16 e) z.sub).from st o y.1)

        way : eqb (kind nodes k) 16 ≡ true → (n : ℕ) (st : State) → Over first old st → s < length st.sets → length st.sets + (h - a + 1) ≤ n → length st.entries + (h - a + 1) ≤ n → (r : Option SetId) → nested_at (find s key st) st ≡ r → Through n (Unit {0}) (merge_into nodes lower merge s key attr k r) st
        way e n st o i u w none f = (lowered_merges s key attr l (here z)).through n st o i u w
        way e n st o i u w (some t) f =
            let y = nested_there s key st t o l f in
            (all.merges first old t y.0 k h (eqb-true (kind nodes k) 16 e) z.sub).through n st o y.1 (omega (arith, z.next)) (omega (arith, z.next))

    -- the last attribute of a path, from a to m, and the value, from m to h
    pub attr_merges : {first : List MergingSet} {old : List MergingEntry} (s : SetId) → length first ≤ s → {k : NodeId} {v : Option NodeId} {a m h : ℕ} → Here nodes b attribute k a m → Place nodes b expression v m h → Merges first old s (4 * (h - a)) (h - a) (merge_attr_value nodes lower merge s k v)
    unfolding merge_attr_value merge_attr_as
    attr_merges {first} {old} s l {k} {v} {a} {m} {h} z p = go (attr_kind nodes k) (key_of_lem nodes z.sub z.taken)
      where
        go : (t : AttrKind) → Key nodes b k m t → Merges first old s (4 * (h - a)) (h - a) (merge_attr_as nodes lower merge s k v t)
        go (static_key key) y = let i = place_le nodes p in let j = sub_le nodes z.sub in merges_more _ _ (omega (arith, z.next)) (omega (arith, z.next)) (keyed_merges s key k l p)
        go (dynamic_key q) y = let i = place_le nodes p in let j = sub_le nodes z.sub in merges_more _ _ (omega (arith, z.next)) (omega (arith, z.next)) (push_merges s q v (λ ss es f. key_adds f z.sub y) (λ ss es f. opt_adds f p))

    -- an attribute before the last, from a to m, and what comes after it
    pub step_merges : {first : List MergingSet} {old : List MergingEntry} (s : SetId) → length first ≤ s → {k : NodeId} {a m : ℕ} → Here nodes b attribute k a m → {e x : ℕ} (rest : SetId → Low (Unit {0})) → ((first : List MergingSet) (old : List MergingEntry) (t : SetId) → length first ≤ t → Merges first old t e x (rest t)) → (t : AttrKind) → Key nodes b k m t → Merges first old s (4 * (m - a) + e) (m - a + x) (merge_step_as nodes lower merge s k rest t)
    unfolding merge_step_as new_nested
    step_merges {first} {old} s l {k} {a} {m} z {e} {x} rest r (static_key key) y = let j = sub_le nodes z.sub in merges_more _ _ (omega (arith, z.next)) (omega (arith, z.next)) (finds_then (nested_finds s key _ l) λ t i. r first old t i)
    step_merges {first} {old} s l {k} {a} {m} z {e} {x} rest r (dynamic_key q) y =
        let j = sub_le nodes z.sub in
        merges_more _ _ (omega (arith, z.next)) (omega (arith, z.next)) (merges_after (omega arith) (λ ss es f. adds_own_set e x 1 PlainAttrset (pointer nodes k) rest finish_expr f r (λ first old s g i. finish_expr_adds s g i)) λ u. merges_after (omega arith) (λ ss es f. key_adds f z.sub y) λ w. dynamic_merges s w u)

    pub nested_merges : (first : List MergingSet) (old : List MergingEntry) (s : SetId) → length first ≤ s → (k : NodeId) (more : List NodeId) (v : Option NodeId) {a m c h : ℕ} → Here nodes b attribute k a m → Items nodes b attribute more m c → Place nodes b expression v c h → Merges first old s (4 * (h - a)) (h - a) (merge_nested_attr_value nodes lower merge s k more v)
    unfolding merge_nested_attr_value
    nested_merges first old s l k [] v z done p = attr_merges s l z p
    nested_merges first old s l k (j ∷ more) v z (item y r) p =
        let i = place_le nodes p in
        let u = items_le nodes r in
        let w = sub_le nodes z.sub in
        let x = sub_le nodes y.sub in
        merges_more _ _ (omega (arith, z.next, y.next)) (omega (arith, z.next, y.next)) (step_merges s l z (λ t. merge_nested_attr_value nodes lower merge t j more v) (λ first old t i. nested_merges first old t i j more v y r p) (attr_kind nodes k) (key_of_lem nodes z.sub z.taken))

    pub attrpath_merges : {first : List MergingSet} {old : List MergingEntry} (s : SetId) → length first ≤ s → (k a h : ℕ) → Here nodes b entry k a h → kind nodes k ≡ 25 → Merges first old s (4 * (h - a)) (h - a) (merge_attrpath_val nodes lower merge s k)
    unfolding merge_attrpath_val attributes merge_path lower_opt kind_of kinds takes
    attrpath_merges {first} {old} s l k a h z e =
        let o = two_of nodes 25 path expression (sub_more nodes (suc b) (omega arith) z.sub) e refl in
        let i = place_le nodes o.first in
        let j = place_le nodes o.second in
        merges_more _ _ (omega (arith, z.next, o.ends)) (omega (arith, z.next, o.ends)) (go (kid nodes 0 k) o.first o.second)
      where
        -- no attribute
        bare : {v : Option NodeId} {c d m : ℕ} → c ≤ d → Place nodes b expression v d m → Merges first old s (4 * (m - c) + 4) (m - c + 1) (push_dynamic nodes lower merge s none v)
        bare {v} u y = let w = place_le nodes y in merges_more _ _ (omega arith) (omega arith) (push_merges s none v (λ ss es f. adds_missing) (λ ss es f. opt_adds f y))

        listed : (ks : List NodeId) {v : Option NodeId} {c d m : ℕ} → Items nodes b attribute ks c d → Place nodes b expression v d m → Merges first old s (4 * (m - c) + 4) (m - c + 1) (merge_path nodes lower merge s ks v)
        listed [] done y = bare (omega arith) y
        listed (q ∷ qs) {v = v} (item x r) y = merges_more _ _ (omega arith) (omega arith) (nested_merges first old s l q qs v x r y)

        go : (p : Option NodeId) {v : Option NodeId} {c d m : ℕ} → Place nodes b path p c d → Place nodes b expression v d m → Merges first old s (4 * (m - c) + 4) (m - c + 1) (merge_path nodes lower merge s (attributes nodes lower merge p) v)
        go none absent y = bare (omega arith) y
        go (some q) (here x) y =
            let w = place_le nodes y in
            merges_more _ _ (omega (arith, x.next)) (omega (arith, x.next)) (listed (items nodes q) (items_of_lem nodes 23 attribute (sub_more nodes (suc b) (omega arith) x.sub) (eqb-true (kind nodes q) 23 x.taken) refl refl) y)

    -- ---- inherit
    pub inherit_value_adds : {ss : List MergingSet} {es : List MergingEntry} (set : Option ExprId) (key : Text) (p : Pointer) → Adds ss es 1 2 0 (inherit_value nodes lower merge set key p)
    unfolding inherit_value
    inherit_value_adds none key p = adds_more _ _ (omega arith) (omega arith) (adds_then (adds_expr _ _) λ e. adds_give _)
    inherit_value_adds (some set) key p = adds_more _ _ (omega arith) (omega arith) (adds_then (adds_expr _ _) λ x. adds_then (adds_expr _ _) λ e. adds_give _)

    pub inherit_attr_merges : {first : List MergingSet} {old : List MergingEntry} (s : SetId) → length first ≤ s → (set : Option ExprId) (k a m : ℕ) → Here nodes b attribute k a m → Merges first old s (4 * (m - a)) (m - a) (inherit_attr nodes lower merge s set k)
    unfolding inherit_attr inherit_as lower_opt
    inherit_attr_merges {first} {old} s l set k a m z = go (attr_kind nodes k) (key_of_lem nodes z.sub z.taken) (sub_le nodes z.sub)
      where
        go : (t : AttrKind) → Key nodes b k m t → k ≤ m → Merges first old s (4 * (m - a)) (m - a) (inherit_as nodes lower merge s set k t)
        go (static_key key) y j = merges_more _ _ (omega (arith, z.next)) (omega (arith, z.next)) (merges_after (omega arith) (λ ss es f. inherit_value_adds set key _) λ v. value_merges s key _ v l)
        go (dynamic_key q) y j = merges_more _ _ (omega (arith, z.next)) (omega (arith, z.next)) (push_merges s none q (λ ss es f. adds_missing) (λ ss es f. key_adds f z.sub y))

    pub source_adds : {first : List MergingSet} {old : List MergingEntry} {n : ℕ} (s : SetId) {p : Option NodeId} {a m : ℕ} → Place nodes b from p a m → Merges first old n (4 * (m - a)) (m - a) (inherit_source nodes lower merge s p)
    unfolding inherit_source kind_of kinds takes
    source_adds s absent = merges_more _ _ (omega arith) (omega arith) (merges_give none)
    source_adds s (here {k = k} z) =
        let o = one_of nodes 27 expression (sub_more nodes (suc b) (omega arith) z.sub) (eqb-true (kind nodes k) 27 z.taken) refl in
        let i = place_le nodes o.first in
        merges_more _ _ (omega (arith, z.next, o.ends)) (omega (arith, z.next, o.ends)) (merges_after (omega arith) (λ ss es f. opt_adds f o.first) λ e. merges_then (source_merges s e) λ _. merges_give _)

    items_merge : {first : List MergingSet} {old : List MergingEntry} {n : ℕ} (slot : Slot) (f : NodeId → Low (Unit {0})) → ((k a m : ℕ) → Here nodes b slot k a m → Merges first old n (4 * (m - a)) (m - a) (f k)) → {ks : List NodeId} {a h : ℕ} → Items nodes b slot ks a h → Merges first old n (4 * (h - a)) (h - a) (each_of f ks)
    unfolding each_of
    items_merge slot f w done = merges_more _ _ (omega arith) (omega arith) (merges_give tt)
    items_merge slot f w (item {k = k} {a = a} {m = m} z r) =
        let i = items_le nodes r in
        let j = sub_le nodes z.sub in
        merges_more _ _ (omega (arith, z.next)) (omega (arith, z.next)) (merges_then (w k a m z) λ _. items_merge slot f w r)

    pub inherit_merges : {first : List MergingSet} {old : List MergingEntry} (s : SetId) → length first ≤ s → (k a h : ℕ) → Here nodes b entry k a h → kind nodes k ≡ 26 → Merges first old s (4 * (h - a)) (h - a) (merge_inherit nodes lower merge s k)
    unfolding merge_inherit kind_of kinds
    inherit_merges s l k a h z e =
        let o = one_then_of nodes 26 from attribute (sub_more nodes (suc b) (omega arith) z.sub) e refl refl in
        let i = place_le nodes o.first in
        let j = items_le nodes o.rest in
        merges_more _ _ (omega (arith, z.next)) (omega (arith, z.next)) (merges_then (source_adds s o.first) λ set. items_merge attribute _ (inherit_attr_merges s l set) o.rest)

    -- ---- the entries of a set or a let, from a to h
    pub entry_merges : {first : List MergingSet} {old : List MergingEntry} (s : SetId) → length first ≤ s → (k a h : ℕ) → Here nodes b entry k a h → Merges first old s (4 * (h - a)) (h - a) (merge_entry nodes lower merge s k)
    unfolding merge_entry
    entry_merges s l k a h z = merges_when (λ e. inherit_merges s l k a h z (eqb-true (kind nodes k) 26 e)) (λ e. attrpath_merges s l k a h z (entry_kind (kind nodes k) z.taken e))

    pub let_entries : {first : List MergingSet} {old : List MergingEntry} (s : SetId) → length first ≤ s → (n : NodeId) {a h : ℕ} → kind nodes n ≡ 12 → Items nodes b entry (items_after nodes n) a h → Merges first old s (4 * (h - a)) (h - a) (merge_entries nodes lower merge s n)
    unfolding merge_entries entries_of
    let_entries s l n e r = rw e (items_merge entry _ (entry_merges s l) r)

    pub set_entries_lem : {first : List MergingSet} {old : List MergingEntry} (s : SetId) → length first ≤ s → {n h : ℕ} → kind nodes n ≡ 16 → Sub nodes (suc b) n h → Merges first old s (4 * (h - n)) (h - n) (merge_entries nodes lower merge s n)
    unfolding merge_entries entries_of kind_of kinds
    set_entries_lem s l e w = rw e (items_merge entry _ (entry_merges s l) (items_of_lem nodes 16 entry w e refl refl))

    -- ---- sets and lets
    module _ {ss : List MergingSet} {es : List MergingEntry} (fine : NestedOnce (length ss) es) where
      pub let_adds : (n h : ℕ) → Sub nodes (suc b) n h → kind nodes n ≡ 12 → Adds ss es 1 (4 * (h - n) + 4) (h - n) (lower_let_in nodes lower merge n)
      unfolding lower_let_in desugar kind_of kinds
      let_adds n h s e =
          let o = one_then_of nodes 12 expression entry s e refl refl in
          let i = place_le nodes o.first in
          let j = items_le nodes o.rest in
          adds_more _ _ (omega arith) (omega arith) (adds_then (adds_own_set (4 * (h - o.mid)) (h - o.mid) 0 _ (pointer nodes n) (λ t. merge_entries nodes lower merge t n) finish fine (λ first old t l. let_entries t l n e o.rest) (λ first old t g k. finish_adds t g k)) λ bs. adds_then (opt_adds fine o.first) λ x. adds_expr _ _)

      pub set_adds : (n h : ℕ) → Sub nodes (suc b) n h → kind nodes n ≡ 16 → Adds ss es 1 (4 * (h - n) + 4) (h - n) (lower_attr_set nodes lower merge n)
      unfolding lower_attr_set desugar
      set_adds n h s e = adds_more _ _ (omega arith) (omega arith) (adds_then (adds_own_set (4 * (h - n)) (h - n) 0 _ (pointer nodes n) (λ t. merge_entries nodes lower merge t n) finish fine (λ first old t l. set_entries_lem t l e s) (λ first old t g k. finish_adds t g k)) λ bs. adds_expr _ _)

      -- ---- an expression
      -- of a kind that may add 4 for itself
      four : {A : Type 0} {p : Low A} (n h k : ℕ) → kind nodes n ≡ k → own k ≡ 4 → Adds ss es 1 (4 * (h - n) + 4) (h - n) p → Adds ss es 1 (4 * (h - n) + own (kind nodes n)) (h - n) p
      four n h k e i w = rw (e, i) w

      one_adds : {p : Low ExprId} (n h : ℕ) → Adds ss es 1 1 0 p → Adds ss es 1 (4 * (h - n) + own (kind nodes n)) (h - n) p
      one_adds n h w = adds_more _ _ (omega (arith, some_own (eqb (kind nodes n) 6))) (omega arith) w
        where
          some_own : (t : Bool) → 1 ≤ pick t 1 4
          some_own true = omega arith
          some_own false = omega arith

      pub as_adds : (n h : ℕ) → Sub nodes (suc b) n h → Adds ss es 1 (4 * (h - n) + own (kind nodes n)) (h - n) (lower_as nodes lower merge (kind nodes n) n)
      unfolding lower_as lower_float lower_integer lower_ident kind_of kinds
      as_adds n h s =
          let is = eqb-true (kind nodes n) in
          adds_when (λ e. four n h 1 (is 1 e) refl (pair_adds fine apply 1 n h s (is 1 e) refl)) λ _.
          adds_when (λ e. four n h 2 (is 2 e) refl (if_adds fine n h s (is 2 e))) λ _.
          adds_when (λ e. four n h 3 (is 3 e) refl (select_adds fine n h s (is 3 e))) λ _.
          adds_when (λ e. four n h 4 (is 4 e) refl (pair_adds fine with_in 4 n h s (is 4 e) refl)) λ _.
          adds_when (λ e. four n h 5 (is 5 e) refl (has_attr_adds fine n h s (is 5 e))) λ _.
          adds_when (λ e. rw (is 6 e) (string_adds fine n h s (is 6 e))) λ _.
          adds_when (λ e. four n h 7 (is 7 e) refl (adds_more _ _ (omega arith) (omega arith) (path_adds fine n h s (is 7 e)))) λ _.
          adds_when (λ e. adds_when (λ _. one_adds n h (adds_expr _ _)) (λ _. one_adds n h adds_missing)) λ _.
          adds_when (λ e. adds_when (λ _. one_adds n h (adds_expr _ _)) (λ _. one_adds n h adds_missing)) λ _.
          adds_when (λ e. one_adds n h (adds_expr _ _)) λ _.
          adds_when (λ e. four n h 11 (is 11 e) refl (lambda_adds fine n h s (is 11 e))) λ _.
          adds_when (λ e. four n h 12 (is 12 e) refl (let_adds n h s (is 12 e))) λ _.
          adds_when (λ e. four n h 13 (is 13 e) refl (list_adds fine n h s (is 13 e))) λ _.
          adds_when (λ e. four n h 14 (is 14 e) refl (bin_op_adds fine n h s (is 14 e))) λ _.
          adds_when (λ e. four n h 15 (is 15 e) refl (inside_adds fine 15 n h s (is 15 e) refl)) λ _.
          adds_when (λ e. four n h 16 (is 16 e) refl (set_adds n h s (is 16 e))) λ _.
          adds_when (λ e. four n h 17 (is 17 e) refl (unary_adds fine n h s (is 17 e))) λ _.
          adds_when (λ e. one_adds n h (adds_expr _ _)) λ _.
          adds_when (λ e. four n h 19 (is 19 e) refl (pair_adds fine assert_in 19 n h s (is 19 e) refl)) λ _.
          adds_when (λ e. four n h 21 (is 21 e) refl (inside_adds fine 21 n h s (is 21 e) refl)) λ _.
          one_adds n h (adds_expr _ _)

-- ---- The knot
record Both (nodes : List Node) (d : ℕ) : Type 1 where
  lowers : LowersWithin nodes d (lower_expr nodes d)
  merges : MergesAll nodes d (merge_bindings nodes d)

both : (nodes : List Node) (d : ℕ) → Both nodes d
unfolding lower_expr
both nodes zero = record {
  lowers = record { adds = λ ss es f n h s. absurd (omega (arith, s.fewer)) };
  merges = record { merges = λ first old t l n h e s. absurd (omega (arith, s.fewer)) };
}
both nodes (suc d) =
    let r = both nodes d in
    record {
      lowers = record { adds = λ ss es f n h s. as_adds nodes d (lower_expr nodes d) (merge_bindings nodes d) r.lowers r.merges f n h s };
      merges = record { merges = λ first old t l n h e s. set_entries_lem nodes d (lower_expr nodes d) (merge_bindings nodes d) r.lowers r.merges t l e s };
    }

-- ---- The theorem
-- Lowering the node n, whose subtree is n to h, from any state with sound stacks: four expressions for each node, one
-- name and one diagnostic for each below it; both stacks are as they were.
pub lower_room : (nodes : List Node) (d left n h : ℕ) → left < d → walk_to nodes left n ≡ met h → (st : State) → NestedOnce (length st.sets) st.entries → Added (4 * (h + 1 - n)) (h - n) st (lower_expr nodes d n st).1
lower_room nodes d left n h l w st f =
    let s : Sub nodes d n h = record { levels = left; fewer = l; walked = w } in
    let i = sub_le nodes s in
    (adds_more (4 * (h + 1 - n)) (h - n) (omega (arith, own_le (kind nodes n))) (omega arith) ((both nodes d).lowers.adds st.sets st.entries f n h s)).from st refl refl

-- On the way each stack holds one more at most for each node.
pub lower_through : (nodes : List Node) (d left n h : ℕ) → left < d → walk_to nodes left n ≡ met h → (st : State) → NestedOnce (length st.sets) st.entries → (l : ℕ) → length st.sets + (h + 1 - n) ≤ l → length st.entries + (h + 1 - n) ≤ l → Through l ExprId (lower_expr nodes d n) st
lower_through nodes d left n h l w st f m u v =
    let s : Sub nodes d n h = record { levels = left; fewer = l; walked = w } in
    let i = sub_le nodes s in
    ((both nodes d).lowers.adds st.sets st.entries f n h s).through m (omega arith) (omega arith) st refl refl

-- Merging the entries of the AttrSet n into a set, on top of any sound stacks: four expressions and nested sets
-- together for each node below it, one name, one diagnostic, one nested set and one entry; and what was below in the
-- stacks is as it was.
pub merge_room : (nodes : List Node) (d left n h : ℕ) → left < d → walk_to nodes left n ≡ met h → kind nodes n ≡ 16 → (first : List MergingSet) (old : List MergingEntry) (s : SetId) → length first ≤ s → (st : State) → Over first old st → s < length st.sets → Merged first old (4 * (h - n)) (h - n) st (merge_bindings nodes d s n st).1
merge_room nodes d left n h l w e first old s i st o j = ((both nodes d).merges.merges first old s i n h e (record { levels = left; fewer = l; walked = w })).from st o j

pub merge_through : (nodes : List Node) (d left n h : ℕ) → left < d → walk_to nodes left n ≡ met h → kind nodes n ≡ 16 → (first : List MergingSet) (old : List MergingEntry) (s : SetId) → length first ≤ s → (st : State) → Over first old st → s < length st.sets → (l : ℕ) → length st.sets + (h - n) ≤ l → length st.entries + (h - n) ≤ l → Through l (Unit {0}) (merge_bindings nodes d s n) st
merge_through nodes d left n h l w e first old s i st o j m u v = ((both nodes d).merges.merges first old s i n h e (record { levels = left; fewer = l; walked = w })).through m st o j u v

-- "Four expressions, one name and one scope per node always suffice": in the module, and in the stacks while it is
-- made.
pub record Room (nodes : List Node) : Type 1 where
  pub exprs_few : length (lower_module nodes).exprs ≤ 4 * length nodes
  pub names_few : length (lower_module nodes).names ≤ length nodes
  pub diagnostics_few : length (lower_module nodes).diagnostics ≤ length nodes
  pub lost_few : length (lower_module nodes).lost ≤ length nodes
  pub stacks_few : Through (length nodes) ExprId (lower_expr nodes 256 0) empty

met_all : (nodes : List Node) (h : ℕ) → walk_to nodes 255 0 ≡ met h → h + 1 ≡ length nodes → Room nodes
unfolding lower_module module_of
met_all nodes h w e =
    let f : NestedOnce 0 [] = record { all = tt; once = λ k. omega arith } in
    let z = lower_room nodes 256 255 0 h (omega arith) w empty f in
    record {
      exprs_few = omega (arith, z.exprs_few);
      names_few = omega (arith, z.names_few);
      diagnostics_few = omega (arith, z.diagnostics_few);
      lost_few = omega (arith, z.lost_few);
      stacks_few = lower_through nodes 256 255 0 h (omega arith) w empty f (length nodes) (omega arith) (omega arith);
    }

-- of every list of nodes that the walk accepts
pub room : (nodes : List Node) → judge_tree (accepted nodes) ≡ accepted nodes → Room nodes
room nodes e = let z = walked_all nodes e in met_all nodes z.0 z.1 z.2
