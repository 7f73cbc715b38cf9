-- The loops of lowering, each over the items of a place. Assumes nothing.
use mathlib.Core.Path.{◌≡◌, refl}
use mathlib.Core.Bool.{true}
use mathlib.Core.List.{List, [], ◌++◌, map}
use mathlib.Core.Option.{Option, some}
use Prim.Native.Nat.{ℕ, suc, ◌+◌, ◌≤◌}
use native.Mathlib.Omega.{arith}
use lib.ListN.{length}
use Rattle.spec.specs.Basics.{NodeId, ExprId}
use Rattle.spec.specs.Sheet.{Node}
use Rattle.spec.specs.Module.{list}
use Rattle.spec.specs.Tree.{node_at}
use Rattle.spec.specs.Keys.{kid, items, items_after, pointer}
use Rattle.spec.specs.Steps.{each, each_of}
use Rattle.spec.specs.State.{SetId, Low, alloc_expr}
use Rattle.spec.specs.Merge.{attributes, inherit_source, inherit_attr, merge_inherit, merge_entry, entries_of, merge_entries}
use Rattle.spec.specs.Lower.{lower_expr, lower_part, lower_attr, lower_attrpath_opt, lower_field, lower_list}
use Rattle.spec.proofs.tree.Sizes.{Weighs, all_items}
use Rattle.module.specs.Ids.{node_of, expr_of, pointer_of}
use Rattle.module.specs.declared.ids.ExprId as code_id
use Rattle.module.specs.declared.pointer.Pointer as code_pointer
use Rattle.module.specs.declared.expr.Expr.TheVariants as code_expr
use Rattle.module.specs.declared.expr.Item.TheVariants as code_item
use Rattle.layout.specs.Texts.{text_in}
use Rattle.layout.specs.Exprs.{child, children}
use Rattle.layout.specs.Nodes.{nodes_of}
use Rattle.layout.specs.States.{state_of, waiting_of}
use Rattle.rows.specs.Decoded.{expr_with, item_with}
use Rattle.store.specs.Codes.{sort_for, expr_made}
use Rattle.soundness.specs.Sound.{tag_fits}
use Rattle.store.specs.Work.{Did, Takes, push_item}
use Rattle.keys.specs.Items.{items_from}
use Rattle.keys.proofs.ItemLaws.{items_after_are}
use Rattle.merge.specs.Room.{Price, ◌⊕◌, covers, nothing, price, one_expr, one_item, own_node}
use Rattle.merge.specs.Lowers.{Lowers, Lowering, Collecting}
use Rattle.merge.proofs.Steps.{nodes_still, then, fits, all_lower}
use Rattle.lower.specs.Parts.{lower_at, merge_at, LowersNode, part_item, field_item, one}
use Rattle.lower.specs.Reads.{attrs_from, FirstEntry}
use Rattle.lower.specs.Sizes.{sized, below, sizes, place}
use Rattle.lower.proofs.SizeLaws.{own_and_below, after_size}
use Rattle.lower.proofs.WaitLaws.{children_back, children_suit, taken_from, all_collect}
use Rattle.lower.proofs.Loops.{then_pushed, gathers_none, Merges, Gathering, Merging, merging_end}
use Rattle.module.specs.declared.ids.NodeId as rust_node_id
use Rattle.std.specs.Prelude as rust

-- ---- sizes: all items of a node are below it
items_below : {nodes : List Node} (w : Weighs nodes) (n : NodeId) → sizes nodes (items nodes n) + 1 ≤ sized nodes n
unfolding sizes sized
items_below w n = all_items w n

-- ---- parts
abbrev pub PartsLeft : (depth : ℕ) (n : NodeId) (s : List ℕ) (i : ℕ) (u : List ℕ) → Type 0
PartsLeft depth n s i u =
    Gathering (λ nodes k. lower_part nodes (lower_at depth nodes) (merge_at depth nodes) k) part_item (some n)
    (λ t. Collecting 0 (below n) nothing (map part_item) (λ nodes. each (lower_part nodes (lower_at depth nodes) (merge_at depth nodes)) (items nodes n)) s t) s i u

pub parts_start : (depth : ℕ) (n : NodeId) (s : List ℕ) → PartsLeft depth n s 0 s
unfolding attrs_from items_from items below covers nothing price
parts_start depth n s = record { long = refl; nodes_are = refl; whole = λ t r. all_collect (map part_item) (fits 0 (λ w. omega (arith, items_below w n)) refl (r.at (waiting_of s))) }

-- ---- attrpath
-- an expression that waits: its node pays for the item
child_waits : {own : Price} (p : List Node → Low ExprId) (k : NodeId) (e : code_id.ExprId) {s u t : List ℕ} → covers 1 (own ⊕ one_item) nothing ≡ true
    → Lowering 0 (below k) own p s e.0 u → Did (push_item (item_with (text_in u) (code_item.Child e))) u tt t → Collecting 0 (λ nodes. sized nodes k) nothing (one child) p s t
unfolding item_with
child_waits p k e c x d = record { at = λ nodes w. fits 1 (λ h. omega (arith, own_and_below h k)) c (then_pushed child (x.at nodes w) d) }

abbrev pub Attributed : (depth : ℕ) (way : Option NodeId) (s t : List ℕ) → Type 0
Attributed depth way s t = Collecting 0 (λ nodes. place nodes way) nothing (map child) (λ nodes. lower_attrpath_opt nodes (lower_at depth nodes) (merge_at depth nodes) way) s t

abbrev pub AttrpathLeft : (depth : ℕ) (n : NodeId) (s : List ℕ) (i : ℕ) (u : List ℕ) → Type 0
AttrpathLeft depth n s i u = Gathering (λ nodes k. lower_attr nodes (lower_at depth nodes) (merge_at depth nodes) k) child (some n) (λ t. Attributed depth (some n) s t) s i u

pub attrpath_absent : (depth : ℕ) {way : rust.Option rust_node_id.NodeId} (s : List ℕ) → way ≡ rust.None → Attributed depth (node_of way) s s
unfolding node_of lower_attrpath_opt attributes place sizes
attrpath_absent depth s q = rw q (all_collect (map child) ((gathers_none _ (λ nodes k. lower_attr nodes (lower_at depth nodes) (merge_at depth nodes) k) child s).at (waiting_of s)))

pub attrpath_start : (depth : ℕ) (n : NodeId) (s : List ℕ) → AttrpathLeft depth n s 0 s
unfolding attrs_from items_from items lower_attrpath_opt attributes place sizes covers nothing price
attrpath_start depth n s = record { long = refl; nodes_are = refl; whole = λ t r. all_collect (map child) (fits 0 (λ w. omega (arith, items_below w n)) refl (r.at (waiting_of s))) }

pub attr_waits : (depth : ℕ) (k : NodeId) (e : code_id.ExprId) {u v t : List ℕ} → Lowering 0 (below k) one_expr (λ nodes. lower_attr nodes (lower_at depth nodes) (merge_at depth nodes) k) u e.0 v
    → Did (push_item (item_with (text_in v) (code_item.Child e))) v tt t
    → Collecting 0 (λ nodes. sized nodes k) nothing (one child) (λ nodes. lower_attr nodes (lower_at depth nodes) (merge_at depth nodes) k) u t
unfolding covers ◌⊕◌ nothing price one_expr one_item
attr_waits depth k e x d = child_waits (λ nodes. lower_attr nodes (lower_at depth nodes) (merge_at depth nodes) k) k e refl x d

pub attrpath_end : (depth : ℕ) (n : rust_node_id.NodeId) {way : rust.Option rust_node_id.NodeId} {s u : List ℕ} → way ≡ rust.Some n → Attributed depth (some n.0) s u → Attributed depth (node_of way) s u
unfolding node_of
attrpath_end depth n q x = rw q x

-- ---- fields
abbrev pub Fielded : (depth : ℕ) (owner : Option NodeId) (s t : List ℕ) → Type 0
Fielded depth owner s t =
    Collecting 0 (λ nodes. sizes nodes (attrs_from nodes 1 owner)) nothing (map field_item) (λ nodes. each (lower_field nodes (lower_at depth nodes) (merge_at depth nodes)) (attrs_from nodes 1 owner)) s t

abbrev pub FieldsLeft : (depth : ℕ) (n : NodeId) (s : List ℕ) (i : ℕ) (u : List ℕ) → Type 0
FieldsLeft depth n s i u = Gathering (λ nodes k. lower_field nodes (lower_at depth nodes) (merge_at depth nodes) k) field_item (some n) (λ t. Fielded depth (some n) s t) s i u

pub fields_absent : (depth : ℕ) {owner : rust.Option rust_node_id.NodeId} (s : List ℕ) → owner ≡ rust.None → Fielded depth (node_of owner) s s
unfolding node_of attrs_from sizes
fields_absent depth s q = rw q (all_collect (map field_item) ((gathers_none _ (λ nodes k. lower_field nodes (lower_at depth nodes) (merge_at depth nodes) k) field_item s).at (waiting_of s)))

pub fields_end : (depth : ℕ) (n : rust_node_id.NodeId) {owner : rust.Option rust_node_id.NodeId} {s u : List ℕ} → owner ≡ rust.Some n → Fielded depth (some n.0) s u → Fielded depth (node_of owner) s u
unfolding node_of
fields_end depth n q x = rw q x

pub fields_start : (depth : ℕ) (n : NodeId) (s : List ℕ) → FieldsLeft depth n s 1 s
fields_start depth n s = record { long = refl; nodes_are = refl; whole = λ t r. all_collect (map field_item) (r.at (waiting_of s)) }

-- ---- list: its items wait, and then the expression takes them
abbrev pub ListLeft : (depth : ℕ) (n : NodeId) (s : List ℕ) (i : ℕ) (u : List ℕ) → Type 0
ListLeft depth n s i u =
    Gathering (λ nodes k. lower_expr nodes depth k) child (some n)
    (λ t. Collecting 0 (below n) nothing (map child) (λ nodes. each (lower_at depth nodes) (items nodes n)) s t) s i u

pub list_start : (depth : ℕ) (n : NodeId) (s : List ℕ) → ListLeft depth n s 0 s
unfolding attrs_from items_from items below covers nothing price
list_start depth n s = record { long = refl; nodes_are = refl; whole = λ t r. all_collect (map child) (fits 0 (λ w. omega (arith, items_below w n)) refl (r.at (waiting_of s))) }

pub item_waits : (depth : ℕ) (k : NodeId) (e : code_id.ExprId) {u v t : List ℕ} → LowersNode depth k u e.0 v
    → Did (push_item (item_with (text_in v) (code_item.Child e))) v tt t → Collecting 0 (λ nodes. sized nodes k) nothing (one child) (λ nodes. lower_expr nodes depth k) u t
unfolding covers ◌⊕◌ nothing price own_node one_item
item_waits depth k e x d = child_waits (λ nodes. lower_expr nodes depth k) k e refl x.whole d

pub list_taken : (depth : ℕ) (n : NodeId) {s u t : List ℕ} {base : ℕ} (p : code_pointer.Pointer) {r : ℕ}
    → base ≡ length (waiting_of s) → pointer_of p ≡ pointer (nodes_of s) n
    → Collecting 0 (below n) nothing (map child) (λ nodes. each (lower_at depth nodes) (items nodes n)) s u
    → Takes (sort_for code_expr.List) (expr_made u code_expr.List (pointer_of p)) base u r t
    → Lowering 0 (below n) own_node (λ nodes. lower_list nodes (lower_at depth nodes) (merge_at depth nodes) n) s r t
unfolding lower_list expr_made expr_with sort_for tag_fits alloc_expr covers ◌⊕◌ nothing price own_node one_expr
list_taken depth n {s} {u} {t} {base} p {r} b q c d =
    let es : List ExprId = (each (lower_at depth (nodes_of s)) (items (nodes_of s) n) (state_of s)).0 in
    let x : Lowers (nodes_of s) (waiting_of s ++ map child es) (waiting_of s) 0 0 one_expr (alloc_expr (list (children (map child es))) (pointer_of p)) u r t =
    taken_from s code_expr.List (pointer_of p) (map child es) (children_suit 16 es refl) b d in
    let y : Lowers (nodes_of s) (waiting_of s ++ map child es) (waiting_of s) 0 0 one_expr (alloc_expr (list es) (pointer (nodes_of s) n)) u r t = rw (children_back es, q) at x in
    all_lower (fits 0 (λ _. omega arith) refl (then {top' = 0} (λ zs. alloc_expr (list zs) (pointer (nodes_of s) n)) (omega arith) (c.at (nodes_of s) (waiting_of s)) y))

-- ---- entries
abbrev pub EntriesLeft : (depth : ℕ) (into : SetId) (n : NodeId) (s : List ℕ) (i : ℕ) (u : List ℕ) → Type 0
EntriesLeft depth into n s i u =
    Merging (suc into) (λ nodes k. merge_entry nodes (lower_at depth nodes) (merge_at depth nodes) into k) (some n)
    (λ t. Lowering (suc into) (λ nodes. sizes nodes (entries_of nodes (lower_at depth nodes) (merge_at depth nodes) n)) nothing (λ nodes. merge_entries nodes (lower_at depth nodes) (merge_at depth nodes) into n) s tt t) s i u

pub entries_start : (depth : ℕ) (into : SetId) (n : NodeId) (s : List ℕ) (i : ℕ) → FirstEntry (nodes_of s) n i → EntriesLeft depth into n s i s
unfolding attrs_from merge_entries
entries_start depth into n s i e = record {
  long = refl;
  nodes_are = refl;
  whole = λ t r. all_lower (rw (e.says (lower_at depth (nodes_of s)) (merge_at depth (nodes_of s))) at (r.at (waiting_of s)));
}

-- ---- merge_inherit: the source, and from the store s after it each attribute
abbrev pub InheritsLeft : (depth : ℕ) (into : SetId) (set : Option ExprId) (n : NodeId) (s : List ℕ) (i : ℕ) (u : List ℕ) → Type 0
InheritsLeft depth into set n s i u =
    Merging (suc into) (λ nodes k. inherit_attr nodes (lower_at depth nodes) (merge_at depth nodes) into set k) (some n)
    (λ t. Merges (nodes_of s) (suc into) (λ nodes k. inherit_attr nodes (lower_at depth nodes) (merge_at depth nodes) into set k) (attrs_from (nodes_of s) 1 (some n)) s t) s i u

pub inherits_end : (depth : ℕ) (into : SetId) (n : NodeId) (from : rust.Option rust_node_id.NodeId) (set : rust.Option code_id.ExprId) {s u : List ℕ} {i : ℕ} {t : List ℕ} → node_of from ≡ kid (nodes_of s) 0 n
    → Lowering (suc into) (λ nodes. place nodes (node_of from)) nothing (λ nodes. inherit_source nodes (lower_at depth nodes) (merge_at depth nodes) into (node_of from)) s (expr_of set) u
    → InheritsLeft depth into (expr_of set) n u i t → {count : ℕ} → count ≡ length (node_at (nodes_of u) n).kids → count ≤ i
    → Lowering (suc into) (λ nodes. sized nodes n) nothing (λ nodes. merge_inherit nodes (lower_at depth nodes) (merge_at depth nodes) into n) s tt t
unfolding attrs_from place merge_inherit covers ◌⊕◌ nothing price
inherits_end depth into n from set {s} {u} {i} {t} e x g c h =
    let each_of_lem : Option ExprId → Low (Unit {0}) = λ a. each_of (inherit_attr (nodes_of s) (lower_at depth (nodes_of s)) (merge_at depth (nodes_of s)) into a) (items_after (nodes_of s) n) in
    let r = rw (nodes_still s u (x.at (nodes_of s) []).still) at (merging_end g c h) in
    let y : Lowers (nodes_of s) (waiting_of s) (waiting_of s) (suc into) (sizes (nodes_of s) (items_from (nodes_of s) 1 n)) nothing (each_of_lem (expr_of set)) u tt t = rw (← items_after_are (nodes_of s) n) (r.at (waiting_of s)) in
    let z : Lowers (nodes_of s) (waiting_of s) (waiting_of s) (suc into) (place (nodes_of s) (kid (nodes_of s) 0 n)) nothing (inherit_source (nodes_of s) (lower_at depth (nodes_of s)) (merge_at depth (nodes_of s)) into (kid (nodes_of s) 0 n)) s (expr_of set) u =
    rw e at (x.at (nodes_of s) (waiting_of s)) in
    all_lower (fits 0 (λ w. omega (arith, after_size w n)) refl (then {top' = suc into} each_of_lem (omega arith) z y))
