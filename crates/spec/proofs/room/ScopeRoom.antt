-- "One scope per node" (docs/RULES.md, "Room"): walking what is lowered from the nodes of a subtree opens at most one
-- scope for each of them. Assumes nothing.
-- An expression weighs what walking it opens; what is given for a node and for its entries weighs at most one for each
-- node, and a string nothing for itself.
use mathlib.Core.Path.{◌≡◌, refl}
use mathlib.Core.Bool.{Bool, true, false}
use mathlib.Core.List.{List, [], ◌∷◌}
use mathlib.Core.Option.{Option, none, some}
use Prim.Native.Nat.{ℕ, zero, suc, ◌+◌, ◌-◌, ◌≤◌, ◌<◌}
use native.Mathlib.Omega.{arith}
use lib.ListN.{length}
use lib.Dec.{eqb}
use borrow.Author.Tests.{eqb-true}
use Rattle.words.specs.Order.{pick}
use Rattle.spec.specs.Basics.{Text, NodeId, ExprId, NameId}
use Rattle.spec.specs.Kinds.{Slot, expression, path, attribute, entry, part, parameter, from, ident, bind, pattern_entry, takes, kind_of, kinds}
use Rattle.spec.specs.Sheet.{Node, accepted}
use Rattle.spec.specs.Module.{Pointer, expr, inherit, inherit_from, string, InterpolPart, literal_part, interpol, Pat, Expr, missing, apply, if_then_else, literal, lambda, let_in, list, bin_op, attr_set, unary_op, reference, select, has_attr, with_in, assert_in, string_interpolation, path_interpolation, Made, NameKind, Param, PatField, PlainAttrset}
use Rattle.spec.specs.Keys.{AttrKind, static_key, dynamic_key, kind, flag, text, pointer, kid, items, items_after, get_str_literal, attr_kind}
use Rattle.spec.specs.Steps.{each, each_of}
use Rattle.spec.specs.Tree.{met, walk_to, judge_tree}
use Rattle.spec.specs.State.{SetId, MergingSet, MergingEntry, State, empty, Low, alloc_expr}
use Rattle.spec.specs.Merge.{find, nested_at, new_nested, finish, finish_expr, lower_opt, push_dynamic, merge_lowered, merge_into, merge_keyed, merge_attr_as, merge_attr_value, merge_step_as, merge_nested_attr_value, merge_path, attributes, merge_attrpath_val, inherit_value, inherit_as, inherit_attr, inherit_source, merge_inherit, merge_entry, entries_of, merge_entries, desugar}
use Rattle.spec.specs.Lower.{lower_if_there, lower_part, string_as, lower_string, lower_path, lower_attr, lower_attrpath_opt, lower_name, lower_field, lower_pattern, lower_param, pair, lower_if_else, lower_select, lower_has_attr, lower_float, lower_integer, lower_lambda, lower_let_in, lower_list, lower_bin_op, lower_attr_set, lower_unary_op, lower_ident, lower_as, lower_expr, merge_bindings, lower_module, module_of}
use Rattle.spec.specs.Scopes.{form, one_or_none, field_defaults, pat_fields, interpolated, scopes_of}
use Rattle.spec.proofs.steps.Forest.{NestedOnce}
use Rattle.spec.proofs.tree.Subtrees.{Sub, Here, Place, absent, here, Items, done, item, sub_more, sub_le, place_le, items_le, one_of, two_of, three_of, items_of_lem, one_then_of, walked_all}
use Rattle.spec.proofs.steps.RoomMerging.{nested_there}
use Rattle.spec.proofs.tree.Keyed.{entry_kind, part_kind, parameter_kind, nowhere, somewhere, KeyExpr, whole, within, Key, key_of_lem}
use Rattle.spec.proofs.steps.Opened.{opens, walks, form_in, scopes_in, scopes_own, scopes_opened}
use Rattle.spec.proofs.steps.RoomWeights.{value_weighs, weighs_from}
use Rattle.spec.proofs.steps.Weighing.{Grown, grown_same, Weighs, weighs_give, weighs_more, weighs_then, weighs_when, weighs_name, expr_weighs, missing_weighs, set_weighs_lem, let_weighs, finish_weighs, finish_expr_weighs, Sound, Going, Gains, gains_give, gains_more, gains_when, gains_then, gains_asks, gains_after, dynamic_gains, source_gains, own_set_weighs}
use Rattle.spec.proofs.steps.Gaining.{value_gains, nested_gains}
use Rattle.spec.proofs.general.Sums.{sum_by, sum_append}

-- what an expression of such a kind may weigh for itself: a string and the root nothing
abbrev self : ℕ → ℕ
self k = pick (eqb k 6) 0 (pick (eqb k 21) 0 1)

self_le : (k : ℕ) → self k ≤ 1
self_le k = go (eqb k 6) (eqb k 21)
  where
    go : (b c : Bool) → pick b 0 (pick c 0 1) ≤ 1
    go true c = omega arith
    go false true = omega arith
    go false false = omega arith

module _ (X : List Made) (ω : ExprId → ℕ) (own : (e : ExprId) → ω e ≤ opens (form_in X e) + sum_by ω (walks (form_in X e))) where
  -- ---- what results weigh
  abbrev maybe_weighs : Option ExprId → ℕ
  maybe_weighs none = 0
  maybe_weighs (some e) = ω e

  maybe_total : (d : Option ExprId) → sum_by ω (one_or_none d) ≡ maybe_weighs d
  unfolding one_or_none
  maybe_total none = refl
  maybe_total (some e) = omega arith

  abbrev part_weighs : InterpolPart → ℕ
  part_weighs (literal_part t) = 0
  part_weighs (interpol e) = ω e

  parts_total : (ps : List InterpolPart) → sum_by ω (interpolated ps) ≡ sum_by part_weighs ps
  unfolding interpolated
  parts_total [] = refl
  parts_total (literal_part t ∷ ps) = omega (arith, parts_total ps)
  parts_total (interpol e ∷ ps) = omega (arith, parts_total ps)

  abbrev field_weighs : Option NameId × Option ExprId → ℕ
  field_weighs f = maybe_weighs f.1

  fields_total : (fs : List (Option NameId × Option ExprId)) → sum_by ω (field_defaults fs) ≡ sum_by field_weighs fs
  unfolding field_defaults
  fields_total [] = refl
  fields_total (f ∷ fs) = omega (arith, sum_append ω (one_or_none f.1) (field_defaults fs), maybe_total f.1, fields_total fs)

  abbrev param_weighs : Option NameId × Option Pat → ℕ
  param_weighs r = sum_by ω (field_defaults (pat_fields r.1))

  record LowersLight (nodes : List Node) (b : ℕ) (lower : NodeId → Low ExprId) : Type 1 where
    weighs : (ss : List MergingSet) (es : List MergingEntry) → NestedOnce (length ss) es → sum_by (weighs_from ω (length ss)) es ≤ 0 → (H : Type 0) (n h : ℕ) → Sub nodes b n h → Weighs X ss es H ω (h - n + self (kind nodes n)) (lower n)

  record MergesLight (nodes : List Node) (b : ℕ) (merge : SetId → NodeId → Low (Unit {0})) : Type 1 where
    gains : (first : List MergingSet) (old : List MergingEntry) (s : SetId) → length first ≤ s → (H : Type 0) (n h : ℕ) → kind nodes n ≡ 16 → Sub nodes b n h → Gains X ω own first old s H (h - n) (merge s n)

  module _ (nodes : List Node) (b : ℕ) (lower : NodeId → Low ExprId) (merge : SetId → NodeId → Low (Unit {0})) (lowers : LowersLight nodes b lower) where
    module _ {ss : List MergingSet} {es : List MergingEntry} (fine : NestedOnce (length ss) es) (owned : sum_by (weighs_from ω (length ss)) es ≤ 0) where
      opt_weighs_lem : {H : Type 0} {slot : Slot} {p : Option NodeId} {a h : ℕ} → Place nodes b slot p a h → Weighs X ss es H ω (h - a) (lower_opt nodes lower merge p)
      unfolding lower_opt
      opt_weighs_lem absent = missing_weighs X ω own
      opt_weighs_lem (here {k = k} {h = h} z) = weighs_more _ (omega (arith, z.next, sub_le nodes z.sub, self_le (kind nodes k))) (lowers.weighs ss es fine owned _ k h z.sub)

      there_weighs : {H : Type 0} {slot : Slot} {p : Option NodeId} {a h : ℕ} → Place nodes b slot p a h → Weighs X ss es H maybe_weighs (h - a) (lower_if_there nodes lower merge p)
      unfolding lower_if_there
      there_weighs absent = weighs_give none (λ z. omega arith)
      there_weighs (here {k = k} {h = h} z) = weighs_then (lowers.weighs ss es fine owned _ k h z.sub) λ e. weighs_give (some e) (λ w. omega (arith, w.1, z.next, sub_le nodes z.sub, self_le (kind nodes k)))

      items_weigh : {A : Type 0} {val : A → ℕ} (slot : Slot) (f : NodeId → Low A) → ((K : Type 0) (k a m : ℕ) → Here nodes b slot k a m → Weighs X ss es K val (m - a) (f k)) → {H : Type 0} {ks : List NodeId} {a h : ℕ} → Items nodes b slot ks a h → Weighs X ss es H (sum_by val) (h - a) (each f ks)
      unfolding each
      items_weigh slot f w done = weighs_give [] (λ z. omega arith)
      items_weigh {A = A} {val = val} slot f w {H = H} (item {k = k} {a = a} {m = m} {h = h} z r) =
          let i = items_le nodes r in
          let j = sub_le nodes z.sub in
          weighs_then (w _ k a m z) λ x. weighs_then (items_weigh {A = A} {val = val} slot f w {H = H × (val x ≤ m - a)} r) λ xs. weighs_give (x ∷ xs) (λ y. omega (arith, y.1, y.0.1, z.next))

      part_weighs_lem : (H : Type 0) (k a m : ℕ) → Here nodes b part k a m → Weighs X ss es H part_weighs (m - a) (lower_part nodes lower merge k)
      unfolding lower_part kind_of kinds
      part_weighs_lem H k a m z = weighs_when (λ e. weighs_give _ (λ w. omega arith)) (λ e.
          let o = one_of nodes 33 expression (sub_more nodes (suc b) (omega arith) z.sub) (part_kind (kind nodes k) z.taken e) refl in
          let i = place_le nodes o.first in
          weighs_then (opt_weighs_lem o.first) λ x. weighs_give (interpol x) (λ w. omega (arith, w.1, z.next, o.ends)))

      string_weighs : {H : Type 0} (n h : ℕ) → Sub nodes (suc b) n h → kind nodes n ≡ 6 → Weighs X ss es H ω (h - n) (lower_string nodes lower merge n)
      unfolding lower_string string_as kind_of kinds opens walks form
      string_weighs {H} n h s e = go (get_str_literal nodes n)
        where
          go : (t : Option Text) → Weighs X ss es H ω (h - n) (string_as nodes lower merge n t)
          go none = weighs_then (items_weigh part _ part_weighs_lem (items_of_lem nodes 6 part s e refl refl)) λ ps. expr_weighs X ω own (string_interpolation ps) _ (λ w. omega (arith, w.1, parts_total ps))
          go (some t) = expr_weighs X ω own (literal (string t)) _ (λ w. omega arith)

      path_weighs : {H : Type 0} (n h : ℕ) → Sub nodes (suc b) n h → kind nodes n ≡ 7 → Weighs X ss es H ω (h - n) (lower_path nodes lower merge n)
      unfolding lower_path kind_of kinds opens walks form
      path_weighs n h s e = weighs_when
          (λ _. weighs_then (items_weigh part _ part_weighs_lem (items_of_lem nodes 7 part s e refl refl)) λ ps. expr_weighs X ω own (path_interpolation ps) _ (λ w. omega (arith, w.1, parts_total ps)))
          (λ _. expr_weighs X ω own _ _ (λ w. omega arith))

      attr_weighs : (H : Type 0) (k a m : ℕ) → Here nodes b attribute k a m → Weighs X ss es H ω (m - a) (lower_attr nodes lower merge k)
      unfolding lower_attr kind_of kinds opens walks form
      attr_weighs H k a m z =
          let s = sub_more nodes (suc b) (omega arith) z.sub in
          let j = sub_le nodes z.sub in
          weighs_when (λ e.
          let o = one_of nodes 24 expression s (eqb-true (kind nodes k) 24 e) refl in
          let i = place_le nodes o.first in
          weighs_more _ (omega (arith, z.next, o.ends)) (opt_weighs_lem o.first))
          (λ _. weighs_when (λ e. weighs_more _ (omega (arith, z.next)) (string_weighs k m s (eqb-true (kind nodes k) 6 e)))
          (λ _. weighs_when (λ _. expr_weighs X ω own _ _ (λ w. omega arith)) (λ _. missing_weighs X ω own)))

      attrpath_weighs : {H : Type 0} {p : Option NodeId} {a h : ℕ} → Place nodes b path p a h → Weighs X ss es H (sum_by ω) (h - a) (lower_attrpath_opt nodes lower merge p)
      unfolding lower_attrpath_opt attributes kind_of kinds takes
      attrpath_weighs absent = items_weigh attribute _ attr_weighs done
      attrpath_weighs (here {k = k} {h = h} z) = weighs_more _ (omega (arith, z.next)) (items_weigh attribute _ attr_weighs (items_of_lem nodes 23 attribute (sub_more nodes (suc b) (omega arith) z.sub) (eqb-true (kind nodes k) 23 z.taken) refl refl))

      name_weighs : {H : Type 0} (k : NameKind) (p : Option NodeId) → Weighs X ss es H (λ _. 0) 0 (lower_name nodes lower merge k p)
      unfolding lower_name
      name_weighs k none = weighs_give none (λ z. omega arith)
      name_weighs k (some i) = weighs_then (weighs_name {u = 0} _ k _) λ x. weighs_give _ (λ z. omega arith)

      field_weighs_lem : (H : Type 0) (k a m : ℕ) → Here nodes b pattern_entry k a m → Weighs X ss es H field_weighs (m - a) (lower_field nodes lower merge k)
      unfolding lower_field kind_of kinds takes
      field_weighs_lem H k a m z =
          let o = two_of nodes 31 ident expression (sub_more nodes (suc b) (omega arith) z.sub) (eqb-true (kind nodes k) 31 z.taken) refl in
          let i = place_le nodes o.first in
          let j = place_le nodes o.second in
          weighs_then (name_weighs PatField _) λ x. weighs_then (there_weighs o.second) λ e. weighs_give (x, e) (λ w. omega (arith, w.1, z.next, o.ends))

      pattern_weighs : {H : Type 0} (n h : ℕ) → Sub nodes (suc b) n h → kind nodes n ≡ 29 → Weighs X ss es H param_weighs (h - n) (lower_pattern nodes lower merge n)
      unfolding lower_pattern kind_of kinds pat_fields
      pattern_weighs n h s e =
          let o = one_then_of nodes 29 bind pattern_entry s e refl refl in
          let i = place_le nodes o.first in
          let j = items_le nodes o.rest in
          weighs_then (name_weighs Param _) λ x. weighs_then (items_weigh pattern_entry _ field_weighs_lem o.rest) λ fs. weighs_give _ (λ w. omega (arith, w.1, fields_total fs))

      param_weighs_lem : {H : Type 0} {p : Option NodeId} {a h : ℕ} → Place nodes b parameter p a h → Weighs X ss es H param_weighs (h - a) (lower_param nodes lower merge p)
      unfolding lower_param kind_of kinds pat_fields field_defaults
      param_weighs_lem absent = weighs_give _ (λ w. omega arith)
      param_weighs_lem (here {k = k} {h = h} z) =
          let s = sub_more nodes (suc b) (omega arith) z.sub in
          weighs_when
          (λ e. weighs_then (name_weighs Param _) λ x. weighs_give _ (λ w. omega arith))
          (λ e. weighs_more _ (omega (arith, z.next)) (pattern_weighs k h s (parameter_kind (kind nodes k) z.taken e)))

      key_weighs : {H : Type 0} {a h : ℕ} {p : Option NodeId} → Sub nodes b a h → KeyExpr nodes b a h p → Weighs X ss es H ω (h - a) (lower_opt nodes lower merge p)
      unfolding lower_opt
      key_weighs {a = a} {h = h} s (whole e) = weighs_more _ (rw e (omega arith)) (lowers.weighs ss es fine owned _ a h s)
      key_weighs s (within nowhere) = missing_weighs X ω own
      key_weighs s (within (somewhere {k = k} {m = m} i j w)) = weighs_more _ (omega (arith, sub_le nodes w, self_le (kind nodes k))) (lowers.weighs ss es fine owned _ k m w)

      -- ---- expressions of counted places
      pair_weighs : {H : Type 0} (f : ExprId → ExprId → Expr) → ((x y : ExprId) → opens (form (f x y)) + sum_by ω (walks (form (f x y))) ≤ 1 + (ω x + ω y)) → (k n h : ℕ) → Sub nodes (suc b) n h → kind nodes n ≡ k → (kind_of k).counted ≡ expression ∷ expression ∷ [] → Weighs X ss es H ω (h - n + 1) (pair nodes lower merge f n)
      unfolding pair
      pair_weighs f g k n h s e c =
          let o = two_of nodes k expression expression s e c in
          let i = place_le nodes o.first in
          let j = place_le nodes o.second in
          weighs_then (opt_weighs_lem o.first) λ x. weighs_then (opt_weighs_lem o.second) λ y. expr_weighs X ω own (f x y) _ (λ w. omega (arith, w.1, w.0.1, g x y, o.ends))

      if_weighs : {H : Type 0} (n h : ℕ) → Sub nodes (suc b) n h → kind nodes n ≡ 2 → Weighs X ss es H ω (h - n + 1) (lower_if_else nodes lower merge n)
      unfolding lower_if_else kind_of kinds opens walks form
      if_weighs n h s e =
          let o = three_of nodes 2 expression expression expression s e refl in
          let i = place_le nodes o.first in
          let j = place_le nodes o.second in
          let k = place_le nodes o.third in
          weighs_then (opt_weighs_lem o.first) λ x. weighs_then (opt_weighs_lem o.second) λ y. weighs_then (opt_weighs_lem o.third) λ z. expr_weighs X ω own (if_then_else x y z) _ (λ w. omega (arith, w.1, w.0.1, w.0.0.1, o.ends))

      select_weighs : {H : Type 0} (n h : ℕ) → Sub nodes (suc b) n h → kind nodes n ≡ 3 → Weighs X ss es H ω (h - n + 1) (lower_select nodes lower merge n)
      unfolding lower_select kind_of kinds opens walks form
      select_weighs n h s e =
          let o = three_of nodes 3 expression path expression s e refl in
          let i = place_le nodes o.first in
          let j = place_le nodes o.second in
          let k = place_le nodes o.third in
          weighs_then (opt_weighs_lem o.first) λ x. weighs_then (attrpath_weighs o.second) λ y. weighs_then (there_weighs o.third) λ z. expr_weighs X ω own (select x y z) _ (λ w. omega (arith, w.1, w.0.1, w.0.0.1, o.ends, sum_append ω y (one_or_none z), maybe_total z))

      has_attr_weighs : {H : Type 0} (n h : ℕ) → Sub nodes (suc b) n h → kind nodes n ≡ 5 → Weighs X ss es H ω (h - n + 1) (lower_has_attr nodes lower merge n)
      unfolding lower_has_attr kind_of kinds opens walks form
      has_attr_weighs n h s e =
          let o = two_of nodes 5 expression path s e refl in
          let i = place_le nodes o.first in
          let j = place_le nodes o.second in
          weighs_then (opt_weighs_lem o.first) λ x. weighs_then (attrpath_weighs o.second) λ y. expr_weighs X ω own (has_attr x y) _ (λ w. omega (arith, w.1, w.0.1, o.ends))

      lambda_weighs : {H : Type 0} (n h : ℕ) → Sub nodes (suc b) n h → kind nodes n ≡ 11 → Weighs X ss es H ω (h - n + 1) (lower_lambda nodes lower merge n)
      unfolding lower_lambda kind_of kinds opens walks form
      lambda_weighs n h s e =
          let o = two_of nodes 11 parameter expression s e refl in
          let i = place_le nodes o.first in
          let j = place_le nodes o.second in
          weighs_then (param_weighs_lem o.first) λ x. weighs_then (opt_weighs_lem o.second) λ y. expr_weighs X ω own (lambda x.0 x.1 y) _ (λ w. omega (arith, w.1, w.0.1, o.ends, sum_append ω (field_defaults (pat_fields x.1)) (y ∷ [])))

      bin_op_weighs : {H : Type 0} (n h : ℕ) → Sub nodes (suc b) n h → kind nodes n ≡ 14 → Weighs X ss es H ω (h - n + 1) (lower_bin_op nodes lower merge n)
      unfolding lower_bin_op kind_of kinds opens walks form
      bin_op_weighs n h s e =
          let o = two_of nodes 14 expression expression s e refl in
          let i = place_le nodes o.first in
          let j = place_le nodes o.second in
          weighs_then (opt_weighs_lem o.first) λ x. weighs_when (λ _. missing_weighs X ω own) (λ _. weighs_then (opt_weighs_lem o.second) λ y. expr_weighs X ω own (bin_op x y _) _ (λ w. omega (arith, w.1, w.0.1, o.ends)))

      unary_weighs : {H : Type 0} (n h : ℕ) → Sub nodes (suc b) n h → kind nodes n ≡ 17 → Weighs X ss es H ω (h - n + 1) (lower_unary_op nodes lower merge n)
      unfolding lower_unary_op kind_of kinds opens walks form
      unary_weighs n h s e =
          let o = one_of nodes 17 expression s e refl in
          let i = place_le nodes o.first in
          weighs_when (λ _. missing_weighs X ω own) (λ _. weighs_then (opt_weighs_lem o.first) λ x. expr_weighs X ω own (unary_op _ x) _ (λ w. omega (arith, w.1, o.ends)))

      inside_weighs : {H : Type 0} (k n h : ℕ) → Sub nodes (suc b) n h → kind nodes n ≡ k → (kind_of k).counted ≡ expression ∷ [] → Weighs X ss es H ω (h - n) (lower_opt nodes lower merge (kid nodes 0 n))
      inside_weighs k n h s e c =
          let o = one_of nodes k expression s e c in
          let i = place_le nodes o.first in
          weighs_more _ (omega (arith, o.ends)) (opt_weighs_lem o.first)

      list_weighs : {H : Type 0} (n h : ℕ) → Sub nodes (suc b) n h → kind nodes n ≡ 13 → Weighs X ss es H ω (h - n + 1) (lower_list nodes lower merge n)
      unfolding lower_list kind_of kinds opens walks form
      list_weighs n h s e = weighs_then (items_weigh expression lower
          (λ K k a m z. weighs_more _ (omega (arith, z.next, sub_le nodes z.sub, self_le (kind nodes k))) (lowers.weighs ss es fine owned K k m z.sub))
          (items_of_lem nodes 13 expression s e refl refl)) λ xs. expr_weighs X ω own (list xs) _ (λ w. omega (arith, w.1))

    -- ---- Merging
    module _ (all : MergesLight nodes b merge) where
      push_gains : {first : List MergingSet} {old : List MergingEntry} {H : Type 0} {u v : ℕ} (s : SetId) (x y : Option NodeId) → ((K : Type 0) (ss : List MergingSet) (es : List MergingEntry) → NestedOnce (length ss) es → sum_by (weighs_from ω (length ss)) es ≤ 0 → Weighs X ss es K ω u (lower_opt nodes lower merge x)) → ((K : Type 0) (ss : List MergingSet) (es : List MergingEntry) → NestedOnce (length ss) es → sum_by (weighs_from ω (length ss)) es ≤ 0 → Weighs X ss es K ω v (lower_opt nodes lower merge y)) → Gains X ω own first old s H (u + v) (push_dynamic nodes lower merge s x y)
      unfolding push_dynamic
      push_gains s x y f g = gains_after X ω own (f _) λ k. gains_after X ω own (g _) λ v. dynamic_gains X ω own s k v (λ w. omega (arith, w.1, w.0.1))

      lowered_gains : {first : List MergingSet} {old : List MergingEntry} {H : Type 0} (s : SetId) (key : Text) (attr : NodeId) → length first ≤ s → {v : Option NodeId} {a h : ℕ} → Place nodes b expression v a h → Gains X ω own first old s H (h - a) (merge_lowered nodes lower merge s key attr v)
      unfolding merge_lowered
      lowered_gains s key attr l p = gains_after X ω own (λ ss es f o. opt_weighs_lem f o p) λ e. value_gains X ω own s key _ (expr e) l (λ w. w.1)

      keyed_gains : {first : List MergingSet} {old : List MergingEntry} {H : Type 0} (s : SetId) (key : Text) (attr : NodeId) → length first ≤ s → {v : Option NodeId} {a h : ℕ} → Place nodes b expression v a h → Gains X ω own first old s H (h - a) (merge_keyed nodes lower merge s key attr v)
      unfolding merge_keyed merge_into
      keyed_gains s key attr l absent = lowered_gains s key attr l {a = _} absent
      keyed_gains {first} {old} {H} s key attr l (here {k = k} {a = a} {h = h} z) = gains_when X ω own
          (λ e. gains_asks X ω own (λ st. nested_at (find s key st) st) _ (λ st o i. go e st o i (nested_at (find s key st) st) refl) (λ w st o i x. way e w st o i (nested_at (find s key st) st) refl x))
          (λ _. lowered_gains s key attr l (here z))
        where
          go : eqb (kind nodes k) 16 ≡ true → (st : State) → Sound X ω own first old st → s < length st.sets → (r : Option SetId) → nested_at (find s key st) st ≡ r → Going X ω own first old st (merge_into nodes lower merge s key attr k r st).1
          go e st o i none f = (lowered_gains {H = H} s key attr l (here z)).from st o i
          go e st o i (some t) f =
              let y = nested_there s key st t o.over l f in
              (all.gains first old t y.0 H k h (eqb-true (kind nodes k) 16 e) z.sub).from st o y.1

          way : eqb (kind nodes k) 16 ≡ true → H → (st : State) → Sound X ω own first old st → s < length st.sets → (r : Option SetId) → nested_at (find s key st) st ≡ r → Grown (merge_into nodes lower merge s key attr k r st).1.exprs X → sum_by (weighs_from ω (length first)) (merge_into nodes lower merge s key attr k r st).1.entries + length (merge_into nodes lower merge s key attr k r st).1.sets ≤ sum_by (weighs_from ω (length first)) st.entries + length st.sets + (h - a)
          way e w st o i none f x = (lowered_gains {H = H} s key attr l (here z)).light w st o i x
          way e w st o i (some t) f x =
              let y = nested_there s key st t o.over l f in
              omega (arith, z.next, (all.gains first old t y.0 H k h (eqb-true (kind nodes k) 16 e) z.sub).light w st o y.1 x)

      attr_gains : {first : List MergingSet} {old : List MergingEntry} {H : Type 0} (s : SetId) → length first ≤ s → {k : NodeId} {v : Option NodeId} {a m h : ℕ} → Here nodes b attribute k a m → Place nodes b expression v m h → Gains X ω own first old s H (h - a) (merge_attr_value nodes lower merge s k v)
      unfolding merge_attr_value merge_attr_as
      attr_gains {first} {old} {H} s l {k} {v} {a} {m} {h} z p = go (attr_kind nodes k) (key_of_lem nodes z.sub z.taken)
        where
          go : (t : AttrKind) → Key nodes b k m t → Gains X ω own first old s H (h - a) (merge_attr_as nodes lower merge s k v t)
          go (static_key key) y = let i = place_le nodes p in let j = sub_le nodes z.sub in gains_more X ω own _ (omega (arith, z.next)) (keyed_gains s key k l p)
          go (dynamic_key q) y = let i = place_le nodes p in let j = sub_le nodes z.sub in gains_more X ω own _ (omega (arith, z.next)) (push_gains s q v (λ K ss es f o. key_weighs f o z.sub y) (λ K ss es f o. opt_weighs_lem f o p))

      step_gains : {first : List MergingSet} {old : List MergingEntry} {H : Type 0} (s : SetId) → length first ≤ s → {k : NodeId} {a m : ℕ} → Here nodes b attribute k a m → {u : ℕ} (rest : SetId → Low (Unit {0})) → ((first : List MergingSet) (old : List MergingEntry) (t : SetId) → length first ≤ t → Gains X ω own first old t H u (rest t)) → (t : AttrKind) → Key nodes b k m t → Gains X ω own first old s H (m - a + u) (merge_step_as nodes lower merge s k rest t)
      unfolding merge_step_as new_nested
      step_gains {first} {old} s l {k} {a} {m} z {u} rest r (static_key key) y = let j = sub_le nodes z.sub in gains_more X ω own _ (omega (arith, z.next)) (nested_gains X ω own s key _ rest l λ t i. r first old t i)
      step_gains {first} {old} {H} s l {k} {a} {m} z {u} rest r (dynamic_key q) y =
          let j = sub_le nodes z.sub in
          gains_after X ω own (λ ss es f o. own_set_weighs X ω own u 1 PlainAttrset (pointer nodes k) rest finish_expr f o r (λ first old s g i. finish_expr_weighs X ω own s g i)) λ e. gains_after X ω own (λ ss es f o. key_weighs f o z.sub y) λ w. dynamic_gains X ω own s w e (λ h. omega (arith, h.1, h.0.1, z.next))

      nested_merged : (first : List MergingSet) (old : List MergingEntry) (H : Type 0) (s : SetId) → length first ≤ s → (k : NodeId) (more : List NodeId) (v : Option NodeId) {a m c h : ℕ} → Here nodes b attribute k a m → Items nodes b attribute more m c → Place nodes b expression v c h → Gains X ω own first old s H (h - a) (merge_nested_attr_value nodes lower merge s k more v)
      unfolding merge_nested_attr_value
      nested_merged first old H s l k [] v z done p = attr_gains s l z p
      nested_merged first old H s l k (j ∷ more) v z (item y r) p =
          let i = place_le nodes p in
          let u = items_le nodes r in
          let w = sub_le nodes z.sub in
          let x = sub_le nodes y.sub in
          gains_more X ω own _ (omega (arith, z.next, y.next)) (step_gains s l z (λ t. merge_nested_attr_value nodes lower merge t j more v) (λ first old t i. nested_merged first old H t i j more v y r p) (attr_kind nodes k) (key_of_lem nodes z.sub z.taken))

      attrpath_gains : {first : List MergingSet} {old : List MergingEntry} {H : Type 0} (s : SetId) → length first ≤ s → (k a h : ℕ) → Here nodes b entry k a h → kind nodes k ≡ 25 → Gains X ω own first old s H (h - a) (merge_attrpath_val nodes lower merge s k)
      unfolding merge_attrpath_val attributes merge_path lower_opt kind_of kinds takes
      attrpath_gains {first} {old} {H} s l k a h z e =
          let o = two_of nodes 25 path expression (sub_more nodes (suc b) (omega arith) z.sub) e refl in
          let i = place_le nodes o.first in
          let j = place_le nodes o.second in
          gains_more X ω own _ (omega (arith, z.next, o.ends)) (go (kid nodes 0 k) o.first o.second)
        where
          bare : {v : Option NodeId} {c d m : ℕ} → c ≤ d → Place nodes b expression v d m → Gains X ω own first old s H (m - c) (push_dynamic nodes lower merge s none v)
          bare {v} u y = let w = place_le nodes y in gains_more X ω own _ (omega arith) (push_gains {u = 0} s none v (λ K ss es f o. missing_weighs X ω own) (λ K ss es f o. opt_weighs_lem f o y))

          listed : (ks : List NodeId) {v : Option NodeId} {c d m : ℕ} → Items nodes b attribute ks c d → Place nodes b expression v d m → Gains X ω own first old s H (m - c) (merge_path nodes lower merge s ks v)
          listed [] done y = bare (omega arith) y
          listed (q ∷ qs) {v = v} (item x r) y = nested_merged first old H s l q qs v x r y

          go : (p : Option NodeId) {v : Option NodeId} {c d m : ℕ} → Place nodes b path p c d → Place nodes b expression v d m → Gains X ω own first old s H (m - c) (merge_path nodes lower merge s (attributes nodes lower merge p) v)
          go none absent y = bare (omega arith) y
          go (some q) (here x) y =
              let w = place_le nodes y in
              gains_more X ω own _ (omega (arith, x.next)) (listed (items nodes q) (items_of_lem nodes 23 attribute (sub_more nodes (suc b) (omega arith) x.sub) (eqb-true (kind nodes q) 23 x.taken) refl refl) y)

      inherit_value_weighs : {ss : List MergingSet} {es : List MergingEntry} {H : Type 0} (set : Option ExprId) (key : Text) (p : Pointer) → Weighs X ss es H (value_weighs ω) 0 (inherit_value nodes lower merge set key p)
      unfolding inherit_value opens walks form
      inherit_value_weighs none key p = weighs_then (expr_weighs X ω own {u = 0} (reference key) p (λ w. omega arith)) λ e. weighs_give (inherit e) (λ w. w.1)
      inherit_value_weighs (some set) key p = weighs_then (expr_weighs X ω own {u = 0} (literal (string key)) p (λ w. omega arith)) λ x. weighs_then (expr_weighs X ω own {u = ω set + ω x} (select set (x ∷ []) none) p (λ _. unfold one_or_none in omega arith)) λ e. weighs_give (inherit_from e) (λ _. omega arith)

      inherit_attr_gains : {first : List MergingSet} {old : List MergingEntry} {H : Type 0} (s : SetId) → length first ≤ s → (set : Option ExprId) (k a m : ℕ) → Here nodes b attribute k a m → Gains X ω own first old s H (m - a) (inherit_attr nodes lower merge s set k)
      unfolding inherit_attr inherit_as lower_opt
      inherit_attr_gains {first} {old} {H} s l set k a m z = go (attr_kind nodes k) (key_of_lem nodes z.sub z.taken) (sub_le nodes z.sub)
        where
          go : (t : AttrKind) → Key nodes b k m t → k ≤ m → Gains X ω own first old s H (m - a) (inherit_as nodes lower merge s set k t)
          go (static_key key) y j = gains_after X ω own (λ ss es f o. inherit_value_weighs set key _) λ v. value_gains X ω own s key _ v l (λ w. omega (arith, w.1))
          go (dynamic_key q) y j = gains_more X ω own _ (omega (arith, z.next)) (push_gains {u = 0} s none q (λ K ss es f o. missing_weighs X ω own) (λ K ss es f o. key_weighs f o z.sub y))

      source_gain : {first : List MergingSet} {old : List MergingEntry} {H : Type 0} (s : SetId) {p : Option NodeId} {a m : ℕ} → Place nodes b from p a m → Gains X ω own first old s H (m - a) (inherit_source nodes lower merge s p)
      unfolding inherit_source kind_of kinds takes
      source_gain s absent = gains_more X ω own _ (omega arith) (gains_give X ω own none)
      source_gain s (here {k = k} z) =
          let o = one_of nodes 27 expression (sub_more nodes (suc b) (omega arith) z.sub) (eqb-true (kind nodes k) 27 z.taken) refl in
          let i = place_le nodes o.first in
          gains_after X ω own (λ ss es f q. opt_weighs_lem f q o.first) λ e. gains_more X ω own _ (omega (arith, z.next, o.ends)) (gains_then X ω own (source_gains X ω own {u = o.mid - k} s e (λ w. w.1)) λ _. gains_give X ω own _)

      items_gain : {first : List MergingSet} {old : List MergingEntry} {n : ℕ} {H : Type 0} (slot : Slot) (f : NodeId → Low (Unit {0})) → ((k a m : ℕ) → Here nodes b slot k a m → Gains X ω own first old n H (m - a) (f k)) → {ks : List NodeId} {a h : ℕ} → Items nodes b slot ks a h → Gains X ω own first old n H (h - a) (each_of f ks)
      unfolding each_of
      items_gain slot f w done = gains_more X ω own _ (omega arith) (gains_give X ω own tt)
      items_gain slot f w (item {k = k} {a = a} {m = m} z r) =
          let i = items_le nodes r in
          let j = sub_le nodes z.sub in
          gains_more X ω own _ (omega (arith, z.next)) (gains_then X ω own (w k a m z) λ _. items_gain slot f w r)

      inherit_gains : {first : List MergingSet} {old : List MergingEntry} {H : Type 0} (s : SetId) → length first ≤ s → (k a h : ℕ) → Here nodes b entry k a h → kind nodes k ≡ 26 → Gains X ω own first old s H (h - a) (merge_inherit nodes lower merge s k)
      unfolding merge_inherit kind_of kinds
      inherit_gains s l k a h z e =
          let o = one_then_of nodes 26 from attribute (sub_more nodes (suc b) (omega arith) z.sub) e refl refl in
          let i = place_le nodes o.first in
          let j = items_le nodes o.rest in
          gains_more X ω own _ (omega (arith, z.next)) (gains_then X ω own (source_gain s o.first) λ set. items_gain attribute _ (inherit_attr_gains s l set) o.rest)

      entry_gain : {first : List MergingSet} {old : List MergingEntry} {H : Type 0} (s : SetId) → length first ≤ s → (k a h : ℕ) → Here nodes b entry k a h → Gains X ω own first old s H (h - a) (merge_entry nodes lower merge s k)
      unfolding merge_entry
      entry_gain s l k a h z = gains_when X ω own (λ e. inherit_gains s l k a h z (eqb-true (kind nodes k) 26 e)) (λ e. attrpath_gains s l k a h z (entry_kind (kind nodes k) z.taken e))

      let_gains : {first : List MergingSet} {old : List MergingEntry} {H : Type 0} (s : SetId) → length first ≤ s → (n : NodeId) {a h : ℕ} → kind nodes n ≡ 12 → Items nodes b entry (items_after nodes n) a h → Gains X ω own first old s H (h - a) (merge_entries nodes lower merge s n)
      unfolding merge_entries entries_of
      let_gains s l n e r = rw e (items_gain entry _ (entry_gain s l) r)

      set_gains : {first : List MergingSet} {old : List MergingEntry} {H : Type 0} (s : SetId) → length first ≤ s → {n h : ℕ} → kind nodes n ≡ 16 → Sub nodes (suc b) n h → Gains X ω own first old s H (h - n) (merge_entries nodes lower merge s n)
      unfolding merge_entries entries_of kind_of kinds
      set_gains s l e w = rw e (items_gain entry _ (entry_gain s l) (items_of_lem nodes 16 entry w e refl refl))

      -- ---- sets and lets
      module _ {ss : List MergingSet} {es : List MergingEntry} (fine : NestedOnce (length ss) es) (owned : sum_by (weighs_from ω (length ss)) es ≤ 0) where
        let_in_lem : {H : Type 0} (n h : ℕ) → Sub nodes (suc b) n h → kind nodes n ≡ 12 → Weighs X ss es H ω (h - n + 1) (lower_let_in nodes lower merge n)
        unfolding lower_let_in desugar kind_of kinds
        let_in_lem n h s e =
            let o = one_then_of nodes 12 expression entry s e refl refl in
            let i = place_le nodes o.first in
            let j = items_le nodes o.rest in
            weighs_then (own_set_weighs X ω own (h - o.mid) 0 _ (pointer nodes n) (λ t. merge_entries nodes lower merge t n) finish fine owned (λ first old t l. let_gains t l n e o.rest) (λ first old t g k. finish_weighs X ω own t g k)) λ bs. weighs_then (opt_weighs_lem fine owned o.first) λ x. expr_weighs X ω own (let_in bs x) _ (λ w. omega (arith, w.1, w.0.1, let_weighs X ω own bs x))

        set_in_lem : {H : Type 0} (n h : ℕ) → Sub nodes (suc b) n h → kind nodes n ≡ 16 → Weighs X ss es H ω (h - n + 1) (lower_attr_set nodes lower merge n)
        unfolding lower_attr_set desugar
        set_in_lem n h s e = weighs_then (own_set_weighs X ω own (h - n) 0 _ (pointer nodes n) (λ t. merge_entries nodes lower merge t n) finish fine owned (λ first old t l. set_gains t l e s) (λ first old t g k. finish_weighs X ω own t g k)) λ bs. expr_weighs X ω own (attr_set (eqb (flag nodes n) 1) bs) _ (λ w. omega (arith, w.1, set_weighs_lem X ω own (eqb (flag nodes n) 1) bs))

        -- ---- an expression
        one : {p : Low ExprId} {H : Type 0} (n h k : ℕ) → kind nodes n ≡ k → self k ≡ 1 → Weighs X ss es H ω (h - n + 1) p → Weighs X ss es H ω (h - n + self (kind nodes n)) p
        one n h k e i w = rw (e, i) w

        as_weighs : {H : Type 0} (n h : ℕ) → Sub nodes (suc b) n h → Weighs X ss es H ω (h - n + self (kind nodes n)) (lower_as nodes lower merge (kind nodes n) n)
        unfolding lower_as lower_float lower_integer lower_ident kind_of kinds opens walks form
        as_weighs n h s =
            let is = eqb-true (kind nodes n) in
            weighs_when (λ e. one n h 1 (is 1 e) refl (pair_weighs fine owned apply (λ x y. omega arith) 1 n h s (is 1 e) refl)) λ _.
            weighs_when (λ e. one n h 2 (is 2 e) refl (if_weighs fine owned n h s (is 2 e))) λ _.
            weighs_when (λ e. one n h 3 (is 3 e) refl (select_weighs fine owned n h s (is 3 e))) λ _.
            weighs_when (λ e. one n h 4 (is 4 e) refl (pair_weighs fine owned with_in (λ x y. omega arith) 4 n h s (is 4 e) refl)) λ _.
            weighs_when (λ e. one n h 5 (is 5 e) refl (has_attr_weighs fine owned n h s (is 5 e))) λ _.
            weighs_when (λ e. rw (is 6 e) (weighs_more _ (omega arith) (string_weighs fine owned n h s (is 6 e)))) λ _.
            weighs_when (λ e. one n h 7 (is 7 e) refl (weighs_more _ (omega arith) (path_weighs fine owned n h s (is 7 e)))) λ _.
            weighs_when (λ e. weighs_when (λ _. expr_weighs X ω own _ _ (λ w. omega arith)) (λ _. missing_weighs X ω own)) λ _.
            weighs_when (λ e. weighs_when (λ _. expr_weighs X ω own _ _ (λ w. omega arith)) (λ _. missing_weighs X ω own)) λ _.
            weighs_when (λ e. expr_weighs X ω own _ _ (λ w. omega arith)) λ _.
            weighs_when (λ e. one n h 11 (is 11 e) refl (lambda_weighs fine owned n h s (is 11 e))) λ _.
            weighs_when (λ e. one n h 12 (is 12 e) refl (let_in_lem n h s (is 12 e))) λ _.
            weighs_when (λ e. one n h 13 (is 13 e) refl (list_weighs fine owned n h s (is 13 e))) λ _.
            weighs_when (λ e. one n h 14 (is 14 e) refl (bin_op_weighs fine owned n h s (is 14 e))) λ _.
            weighs_when (λ e. one n h 15 (is 15 e) refl (weighs_more _ (omega arith) (inside_weighs fine owned 15 n h s (is 15 e) refl))) λ _.
            weighs_when (λ e. one n h 16 (is 16 e) refl (set_in_lem n h s (is 16 e))) λ _.
            weighs_when (λ e. one n h 17 (is 17 e) refl (unary_weighs fine owned n h s (is 17 e))) λ _.
            weighs_when (λ e. ident_weighs n (eqb (flag nodes n) 1)) λ _.
            weighs_when (λ e. one n h 19 (is 19 e) refl (pair_weighs fine owned assert_in (λ x y. omega arith) 19 n h s (is 19 e) refl)) λ _.
            weighs_when (λ e. rw (is 21 e) (weighs_more _ (omega arith) (inside_weighs fine owned 21 n h s (is 21 e) refl))) λ _.
            expr_weighs X ω own missing _ (λ w. omega arith)
          where
            ident_weighs : {H : Type 0} {u : ℕ} (n : NodeId) (t : Bool) → Weighs X ss es H ω u (alloc_expr (pick t (reference (text nodes n)) missing) (pointer nodes n))
            ident_weighs n true = expr_weighs X ω own _ _ (λ w. omega arith)
            ident_weighs n false = expr_weighs X ω own _ _ (λ w. omega arith)

  -- ---- The knot
  record BothLight (nodes : List Node) (d : ℕ) : Type 1 where
    lowers : LowersLight nodes d (lower_expr nodes d)
    merges : MergesLight nodes d (merge_bindings nodes d)

  both_light : (nodes : List Node) (d : ℕ) → BothLight nodes d
  unfolding lower_expr
  both_light nodes zero = record {
    lowers = record { weighs = λ ss es f o H n h s. absurd (omega (arith, s.fewer)) };
    merges = record { gains = λ first old t l H n h e s. absurd (omega (arith, s.fewer)) };
  }
  both_light nodes (suc d) =
      let r = both_light nodes d in
      record {
        lowers = record { weighs = λ ss es f o H n h s. as_weighs nodes d (lower_expr nodes d) (merge_bindings nodes d) r.lowers r.merges f o n h s };
        merges = record { gains = λ first old t l H n h e s. set_gains nodes d (lower_expr nodes d) (merge_bindings nodes d) r.lowers r.merges t l e s };
      }

-- ---- The theorem
met_scopes : (nodes : List Node) (h : ℕ) → walk_to nodes 255 0 ≡ met h → kind nodes 0 ≡ 21 → length (scopes_of (lower_module nodes)).scopes ≤ h + 1
unfolding lower_module module_of
met_scopes nodes h w k =
    let m = lower_module nodes in
    let ω = scopes_in m.exprs (suc m.entry) in
    let own = scopes_own m.exprs (suc m.entry) in
    let f : NestedOnce 0 [] = record { all = tt; once = λ k. omega arith } in
    let s : Sub nodes 256 0 h = record { levels = 255; fewer = omega arith; walked = w } in
    let z = ((both_light m.exprs ω own nodes 256).lowers.weighs [] [] f (omega arith) (Unit {0}) 0 h s).light tt empty refl refl (grown_same _) in
    omega (arith, scopes_opened m, rw k at z)

-- Of every list of nodes that the walk accepts, whose first is a Root, walking the module opens at most one scope for
-- each node, the root scope among them.
pub scope_room : (nodes : List Node) → judge_tree (accepted nodes) ≡ accepted nodes → kind nodes 0 ≡ 21 → length (scopes_of (lower_module nodes)).scopes ≤ length nodes
scope_room nodes e k =
    let z = walked_all nodes e in
    omega (arith, met_scopes nodes z.0 z.1 k, z.2)
