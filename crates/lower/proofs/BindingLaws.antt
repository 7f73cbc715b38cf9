-- LetIn and AttrSet: their bindings wait as items for the expression. Assumes nothing.
use mathlib.Core.Path.{◌≡◌, refl}
use mathlib.Core.Bool.{Bool, true, false}
use mathlib.Core.List.{List}
use Prim.Native.Nat.{ℕ}
use native.Mathlib.Omega.{arith}
use lib.ListN.{length}
use lib.Dec.{eqb}
use borrow.Author.Tests.{eq-eqb}
use Rattle.spec.specs.Basics.{NodeId}
use Rattle.spec.specs.Keys.{kind, flag, pointer}
use Rattle.spec.specs.Module.{Bindings}
use Rattle.spec.specs.Module as spec
use Rattle.spec.specs.State.{alloc_expr}
use Rattle.spec.specs.Merge.{desugar}
use Rattle.spec.specs.Merge as merging
use Rattle.spec.specs.Lower.{lower_let_in, lower_attr_set}
use Rattle.module.specs.Ids.{node_of, pointer_of}
use Rattle.module.specs.Kinds.{kind_of}
use Rattle.module.specs.declared.ids.ExprId as code_expr
use Rattle.module.specs.declared.expr.Expr.TheVariants.{LetIn, AttrSet}
use Rattle.module.specs.declared.kinds.NameKind as code_kind
use Rattle.module.specs.declared.kinds.NameKind.TheVariants as code_kinds
use Rattle.module.specs.declared.pointer.Pointer.{Pointer}
use Rattle.layout.specs.Nodes.{nodes_of}
use Rattle.layout.specs.States.{state_of, waiting_of}
use Rattle.soundness.specs.Sound.{tag_fits}
use Rattle.rows.specs.Decoded.{expr_with}
use Rattle.store.specs.Codes.{sort_for, expr_made}
use Rattle.store.specs.Work.{suits}
use Rattle.keys.specs.AstUtils.{set_kind}
use Rattle.merge.specs.Room.{price, ◌⊕◌, covers, one_expr, one_set, own_node}
use Rattle.merge.specs.Lowers.{Lowering, Collecting}
use Rattle.merge.specs.Finishes.{binding_items}
use Rattle.merge.proofs.Steps.{fits, all_lower}
use Rattle.merge.proofs.Items.{bindings_items, bindings_suit}
use Rattle.lower.specs.Sizes.{below, sizes}
use Rattle.lower.specs.Parts.{lower_at, merge_at}
use Rattle.lower.proofs.ChildLaws.{Children, HasChildren}
use Rattle.lower.proofs.SizeLaws.{heft_place, own_and_below}
use Rattle.lower.proofs.TurnLaws.{next}
use Rattle.lower.proofs.WaitLaws.{taken_from}
use Rattle.lower.proofs.ExprLaws.{Opt}
use Rattle.lower.proofs.ListedLaws.{Allocated}
use Rattle.lower.proofs.KeySizes.{entries_size, let_size}

-- the bindings of a node wait
abbrev pub Desugared : ℕ → code_kind.NameKind → NodeId → List ℕ → List ℕ → Type 0
Desugared depth k n s t =
    Collecting 0 (λ nodes. sizes nodes (merging.entries_of nodes (lower_at depth nodes) (merge_at depth nodes) n)) one_set binding_items (λ nodes. desugar nodes (lower_at depth nodes) (merge_at depth nodes) (kind_of k) n) s t

-- A LetIn, of which it must be known that it is one: its body stands before its entries.
pub let_lowers : (depth n base : ℕ) (at : Children) (b : code_expr.ExprId) {s u v t : List ℕ} {r : ℕ} → kind (nodes_of s) n ≡ 12 → base ≡ length (waiting_of s) → HasChildren (nodes_of s) n at
    → Desugared depth code_kinds.LetIn n s u → Opt depth at.first u b.0 v → Allocated (LetIn b) (pointer_of at.pointer) base v r t
    → Lowering 0 (below n) own_node (λ nodes. lower_let_in nodes (lower_at depth nodes) (merge_at depth nodes) n) s r t
unfolding lower_let_in kind_of alloc_expr expr_made expr_with sort_for tag_fits covers ◌⊕◌ price one_expr one_set own_node
let_lowers depth n base at b {s} k i h x y a =
    let ns = nodes_of s in
    let bs : Bindings = (desugar ns (lower_at depth ns) (merge_at depth ns) spec.LetIn n (state_of s)).0 in
    all_lower
    (rw (← h.first, ← h.pointed)
    (fits 0
    (λ w. let z = rw (← h.first) at (let_size w (lower_at depth ns) (merge_at depth ns) n (eq-eqb _ 12 k)) in omega (arith, own_and_below w n, heft_place ns (node_of at.first))) refl
    (next _ (x.at _ _) (next _ (y.at _ _) (rw (bindings_items bs) at (taken_from {nodes = ns} s {top = 0} (LetIn b) (pointer_of at.pointer) (binding_items bs) (bindings_suit 15 bs refl refl refl) i a))))))

set_suits : (r : Bool) (bs : Bindings) → suits (sort_for (AttrSet r)) (binding_items bs) ≡ true
unfolding sort_for tag_fits
set_suits true bs = bindings_suit 19 bs refl refl refl
set_suits false bs = bindings_suit 18 bs refl refl refl

pub set_lowers : (depth n base f : ℕ) (p : Pointer) (k : code_kind.NameKind) {s u t : List ℕ} {r : ℕ} → base ≡ length (waiting_of s) → pointer_of p ≡ pointer (nodes_of s) n → kind_of k ≡ set_kind (nodes_of s) n
    → f ≡ flag (nodes_of s) n → Desugared depth k n s u → Allocated (AttrSet (eqb f 1)) (pointer_of p) base u r t
    → Lowering 0 (below n) own_node (λ nodes. lower_attr_set nodes (lower_at depth nodes) (merge_at depth nodes) n) s r t
unfolding lower_attr_set alloc_expr expr_made expr_with covers ◌⊕◌ price one_expr one_set own_node
set_lowers depth n base f p k {s} i h j g x a =
    let ns = nodes_of s in
    let bs : Bindings = (desugar ns (lower_at depth ns) (merge_at depth ns) (kind_of k) n (state_of s)).0 in
    all_lower
    (rw (← h, ← j, ← g)
    (fits 0 (λ w. omega (arith, own_and_below w n, entries_size w (lower_at depth ns) (merge_at depth ns) n)) refl
    (next _ (x.at _ _) (rw (bindings_items bs) at (taken_from {nodes = ns} s {top = 0} (AttrSet (eqb f 1)) (pointer_of p) (binding_items bs) (set_suits (eqb f 1) bs) i a)))))
