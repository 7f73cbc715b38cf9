-- Expressions whose parts are lists, which wait as items: what each way out of the code gives. Assumes nothing.
use mathlib.Core.Path.{◌≡◌, refl, sym, ◌∙◌}
use mathlib.Core.Bool.{Bool, true, false}
use mathlib.Core.List.{List, map}
use Prim.Native.Nat.{ℕ, ◌≤◌}
use native.Mathlib.Omega.{arith}
use lib.ListN.{length}
use lib.Dec.{eqb}
use borrow.Author.Tests.{eq-eqb, ne_eqb}
use Rattle.spec.specs.Basics.{NodeId, ExprId}
use Rattle.spec.specs.Keys.{kind, flag, text, kid, pointer, items, get_str_literal}
use Rattle.spec.specs.Module.{Pointer, literal, string, literal_part, interpol}
use Rattle.spec.specs.Steps.{give, when, each}
use Rattle.spec.specs.State.{alloc_expr, alloc_missing}
use Rattle.spec.specs.Lower.{lower_part, string_as, lower_string, lower_path, lower_attr, lower_attrpath_opt, lower_select, lower_has_attr}
use Rattle.module.specs.Ids.{node_of, expr_of, pointer_of}
use Rattle.module.specs.Literals.{literal_of}
use Rattle.module.specs.declared.ids.ExprId as code_expr
use Rattle.module.specs.declared.ids.TextId as code_text
use Rattle.module.specs.declared.expr.Expr as code
use Rattle.module.specs.declared.expr.Expr.TheVariants.{Literal, Select, HasAttr, StringInterpolation, PathInterpolation}
use Rattle.module.specs.declared.expr.Item.TheVariants as code_item
use Rattle.module.specs.declared.literal.Literal.TheVariants as literals
use Rattle.layout.specs.Exprs.{child}
use Rattle.layout.specs.Nodes.{nodes_of}
use Rattle.layout.specs.States.{state_of, waiting_of}
use Rattle.layout.specs.Texts.{text_in, maybe_text}
use Rattle.soundness.specs.Sound.{tag_fits}
use Rattle.rows.specs.Decoded.{expr_with, item_with}
use Rattle.store.specs.Codes.{select_sort, sort_for, expr_made}
use Rattle.store.specs.Work.{Did, Takes, suits, push_item}
use Rattle.keys.specs.AstUtils.{Interpolated}
use Rattle.keys.proofs.AnswerLaws.{text_there, text_missing}
use Rattle.merge.specs.Room.{price, ◌⊕◌, covers, nothing, one_expr, one_item, own_node}
use Rattle.merge.specs.Lowers.{Lowering, Collecting}
use Rattle.merge.proofs.Steps.{yes_when, no_when, fits, all_lower}
use Rattle.lower.specs.Sizes.{sized, below, place}
use Rattle.lower.specs.Parts.{lower_at, merge_at, part_item, one}
use Rattle.lower.proofs.ChildLaws.{Children, HasChildren}
use Rattle.lower.proofs.SizeLaws.{own_and_below, heft_place, kid_below, three_below}
use Rattle.lower.proofs.TurnLaws.{next}
use Rattle.lower.proofs.WaitLaws.{children_back, parts_back, children_suit, parts_suit, pushed_giving, taken_from, all_collect}
use Rattle.lower.proofs.ExprLaws.{Opt, There, Lone}
use Rattle.module.specs.declared.ids.NodeId as rust_node_id
use Rattle.std.specs.Prelude as rust

-- ---- the contracts that the laws are about
-- an expression with the items that wait from `base` on
abbrev pub Allocated : code.Expr → Pointer → ℕ → List ℕ → ℕ → List ℕ → Type 0
Allocated e p base s r t = Takes (sort_for e) (expr_made s e p) base s r t

-- a Select may have attributes, with a default and without
select_suits : (set : code_expr.ExprId) (d : rust.Option code_expr.ExprId) (es : List ExprId) → suits (sort_for (Select set d)) (map child es) ≡ true
unfolding sort_for select_sort tag_fits
select_suits set rust.None es = children_suit 22 es refl
select_suits set (rust.Some d) es = children_suit 23 es refl

abbrev pub Attrpath : ℕ → rust.Option rust_node_id.NodeId → List ℕ → List ℕ → Type 0
Attrpath depth p s t = Collecting 0 (λ nodes. place nodes (node_of p)) nothing (map child) (λ nodes. lower_attrpath_opt nodes (lower_at depth nodes) (merge_at depth nodes) (node_of p)) s t

abbrev pub Parts : ℕ → NodeId → List ℕ → List ℕ → Type 0
Parts depth n s t = Collecting 0 (below n) nothing (map part_item) (λ nodes. each (lower_part nodes (lower_at depth nodes) (merge_at depth nodes)) (items nodes n)) s t

-- ---- what has a path
module _ (depth n base : ℕ) (at : Children) {s u v t : List ℕ} {r : ℕ} (b : base ≡ length (waiting_of s)) (h : HasChildren (nodes_of s) n at) (set : code_expr.ExprId) (x : Opt depth at.first s set.0 u) (y : Attrpath depth at.second u v) where
  pub select_lowers : {w : List ℕ} (d : rust.Option code_expr.ExprId) → There depth at.third v (expr_of d) w → Allocated (Select set d) (pointer_of at.pointer) base w r t
      → Lowering 0 (below n) own_node (λ nodes. lower_select nodes (lower_at depth nodes) (merge_at depth nodes) n) s r t
  unfolding lower_select alloc_expr expr_made expr_with covers ◌⊕◌ price nothing one_expr own_node
  select_lowers d z a =
      let es = (lower_attrpath_opt (nodes_of s) (lower_at depth (nodes_of s)) (merge_at depth (nodes_of s)) (node_of at.second) (state_of u)).0 in
      all_lower
      (rw (← h.first, ← h.second, ← h.third, ← h.pointed)
      (fits 0 (λ w. omega (arith, three_below w h, heft_place (nodes_of s) (node_of at.first))) refl
      (next _ (x.at _ _) (next _ (y.at _ _) (next _ (z.at _ _) (rw (children_back es) at (taken_from {nodes = nodes_of s} s {top = 0} (Select set d) (pointer_of at.pointer) (map child es) (select_suits set d es) b a)))))))

  pub has_lowers : Allocated (HasAttr set) (pointer_of at.pointer) base v r t
      → Lowering 0 (below n) own_node (λ nodes. lower_has_attr nodes (lower_at depth nodes) (merge_at depth nodes) n) s r t
  unfolding lower_has_attr alloc_expr expr_made expr_with sort_for tag_fits covers ◌⊕◌ price nothing one_expr own_node
  has_lowers a =
      let es = (lower_attrpath_opt (nodes_of s) (lower_at depth (nodes_of s)) (merge_at depth (nodes_of s)) (node_of at.second) (state_of u)).0 in
      all_lower
      (rw (← h.first, ← h.second, ← h.pointed)
      (fits 0 (λ w. omega (arith, three_below w h, heft_place (nodes_of s) (node_of at.first))) refl
      (next _ (x.at _ _) (next _ (y.at _ _) (rw (children_back es) at (taken_from {nodes = nodes_of s} s {top = 0} (HasAttr set) (pointer_of at.pointer) (map child es) (children_suit 24 es refl) b a))))))

-- ---- strings and paths
module _ (depth n : ℕ) (p : Pointer) {s : List ℕ} (q : p ≡ pointer (nodes_of s) n) where
  module _ (m : rust.Option code_text.TextId) (e : maybe_text s m ≡ get_str_literal (nodes_of s) n) {r : ℕ} {t : List ℕ} where
    pub string_literal : (x : code_text.TextId) → m ≡ rust.Some x → Lone (Literal (literals.Text x)) p s r t
        → Lowering 0 (below n) one_expr (λ nodes. lower_string nodes (lower_at depth nodes) (merge_at depth nodes) n) s r t
    unfolding lower_string string_as expr_with literal_of covers ◌⊕◌ price one_expr
    string_literal x o d = all_lower (rw (text_there s m _ e x o, ← q) (fits 0 (λ w. omega arith) refl (d.at (nodes_of s) (waiting_of s))))

    pub string_parts : (base : ℕ) {u : List ℕ} → base ≡ length (waiting_of s) → m ≡ rust.None → Parts depth n s u → Allocated StringInterpolation p base u r t
        → Lowering 0 (below n) one_expr (λ nodes. lower_string nodes (lower_at depth nodes) (merge_at depth nodes) n) s r t
    unfolding lower_string string_as alloc_expr expr_made expr_with sort_for tag_fits covers ◌⊕◌ price nothing one_expr
    string_parts base b o y a =
        let ps = (each (lower_part (nodes_of s) (lower_at depth (nodes_of s)) (merge_at depth (nodes_of s))) (items (nodes_of s) n) (state_of s)).0 in
        all_lower
        (rw (text_missing s m _ e o, ← q)
        (fits 0 (λ w. omega arith) refl
        (next _ (y.at _ _) (rw (parts_back ps) at (taken_from {nodes = nodes_of s} s {top = 0} StringInterpolation p (map part_item ps) (parts_suit 27 ps refl refl) b a)))))

  module _ (i : Bool) (e : Interpolated (nodes_of s) n i) {r : ℕ} {t : List ℕ} where
    pub path_parts : (base : ℕ) {u : List ℕ} → base ≡ length (waiting_of s) → i ≡ true → Parts depth n s u → Allocated PathInterpolation p base u r t
        → Lowering 0 (below n) own_node (λ nodes. lower_path nodes (lower_at depth nodes) (merge_at depth nodes) n) s r t
    unfolding lower_path alloc_expr expr_made expr_with sort_for tag_fits covers ◌⊕◌ price nothing one_expr own_node
    path_parts base b o y a =
        let ps = (each (lower_part (nodes_of s) (lower_at depth (nodes_of s)) (merge_at depth (nodes_of s))) (items (nodes_of s) n) (state_of s)).0 in
        all_lower
        (rw (← q)
        (fits 0 (λ w. omega arith) refl
        (yes_when _ (sym (e.says _ _) ∙ o)
        (next _ (y.at _ _) (rw (parts_back ps) at (taken_from {nodes = nodes_of s} s {top = 0} PathInterpolation p (map part_item ps) (parts_suit 28 ps refl refl) b a))))))

    pub path_literal : (x : code_text.TextId) → i ≡ false → text_in s x.0 ≡ text (nodes_of s) n → Lone (Literal (literals.Path x)) p s r t
        → Lowering 0 (below n) own_node (λ nodes. lower_path nodes (lower_at depth nodes) (merge_at depth nodes) n) s r t
    unfolding lower_path expr_with literal_of covers ◌⊕◌ price one_expr own_node
    path_literal x o f d = all_lower (rw (← q, ← f) (fits 0 (λ w. omega arith) refl (no_when _ (sym (e.says _ _) ∙ o) (d.at (nodes_of s) (waiting_of s)))))

-- ---- a part of a string or a path
module _ (depth n k : ℕ) {s : List ℕ} (e : k ≡ kind (nodes_of s) n) where
  pub part_text : (x : code_text.TextId) {t : List ℕ} → k ≡ 32 → text_in s x.0 ≡ text (nodes_of s) n → Did (push_item (item_with (text_in s) (code_item.Text x))) s tt t
      → Collecting 0 (λ nodes. sized nodes n) nothing (one part_item) (λ nodes. lower_part nodes (lower_at depth nodes) (merge_at depth nodes) n) s t
  unfolding lower_part part_item one item_with covers ◌⊕◌ price nothing one_item
  part_text x o f d =
      all_collect (one part_item) {r = literal_part (text_in s x.0)}
      (rw (← e, ← f) (fits 1 (λ w. omega (arith, own_and_below w n)) refl (yes_when _ (eq-eqb k 32 o) (pushed_giving _ (literal_part (text_in s x.0)) d))))

  pub part_expr : (p : rust.Option rust_node_id.NodeId) (x : code_expr.ExprId) {u t : List ℕ} → (k ≡ 32 → ⊥) → node_of p ≡ kid (nodes_of s) 0 n → Opt depth p s x.0 u → Did (push_item (item_with (text_in u) (code_item.Child x))) u tt t
      → Collecting 0 (λ nodes. sized nodes n) nothing (one part_item) (λ nodes. lower_part nodes (lower_at depth nodes) (merge_at depth nodes) n) s t
  unfolding lower_part part_item one item_with covers ◌⊕◌ price nothing one_expr one_item
  part_expr p x o f y d =
      all_collect (one part_item) {r = interpol x.0}
      (rw (← e, ← f)
      (fits 1 (λ w. let below_is : place (nodes_of s) (node_of p) ≤ below n (nodes_of s) = rw f (kid_below w n) in omega (arith, own_and_below w n, heft_place (nodes_of s) (node_of p))) refl
      (no_when _ (ne_eqb k 32 o) (next (λ a. give (interpol a)) (y.at _ _) (pushed_giving _ (interpol x.0) d)))))

  -- ---- an attribute of a path
  module _ {r : ℕ} {t : List ℕ} where
    pub attr_dynamic : (p : rust.Option rust_node_id.NodeId) → k ≡ 24 → node_of p ≡ kid (nodes_of s) 0 n → Opt depth p s r t
        → Lowering 0 (below n) one_expr (λ nodes. lower_attr nodes (lower_at depth nodes) (merge_at depth nodes) n) s r t
    unfolding lower_attr covers price one_expr
    attr_dynamic p o f y =
        all_lower
        (rw (← e, ← f)
        (fits 0 (λ w. let below_is : place (nodes_of s) (node_of p) ≤ below n (nodes_of s) = rw f (kid_below w n) in omega (arith, heft_place (nodes_of s) (node_of p))) refl
        (yes_when _ (eq-eqb k 24 o) (y.at _ _))))

    pub attr_string : (k ≡ 24 → ⊥) → k ≡ 6 → Lowering 0 (below n) one_expr (λ nodes. lower_string nodes (lower_at depth nodes) (merge_at depth nodes) n) s r t
        → Lowering 0 (below n) one_expr (λ nodes. lower_attr nodes (lower_at depth nodes) (merge_at depth nodes) n) s r t
    unfolding lower_attr
    attr_string o f y = all_lower (rw (← e) (no_when _ (ne_eqb k 24 o) (yes_when _ (eq-eqb k 6 f) (y.at _ _))))

    pub attr_ident : (k ≡ 24 → ⊥) → (k ≡ 6 → ⊥) → Lowering 0 (λ _. 0) one_expr (λ nodes. when (eqb (flag nodes n) 1) (alloc_expr (literal (string (text nodes n))) (pointer nodes n)) alloc_missing) s r t
        → Lowering 0 (below n) one_expr (λ nodes. lower_attr nodes (lower_at depth nodes) (merge_at depth nodes) n) s r t
    unfolding lower_attr covers price one_expr
    attr_ident o f y = all_lower (rw (← e) (fits 0 (λ w. omega arith) refl (no_when _ (ne_eqb k 24 o) (no_when _ (ne_eqb k 6 f) (y.at _ _)))))
