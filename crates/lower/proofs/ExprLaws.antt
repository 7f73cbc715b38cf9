-- Expressions whose parts are expressions alone: what each way out of the code gives. Assumes nothing.
use mathlib.Core.Path.{◌≡◌, refl}
use mathlib.Core.List.{List, []}
use mathlib.Core.Option.{Option, none, some}
use Prim.Native.Nat.{ℕ}
use native.Mathlib.Omega.{arith}
use borrow.Author.Tests.{eq-eqb, ne_eqb}
use Rattle.spec.specs.Basics.{ExprId}
use Rattle.spec.specs.Keys.{flag}
use Rattle.spec.specs.Module.{Pointer}
use Rattle.spec.specs.Steps.{give}
use Rattle.spec.specs.State.{alloc_expr}
use Rattle.spec.specs.Merge.{lower_opt}
use Rattle.spec.specs.Lower as lowering
use Rattle.spec.specs.Lower.{lower_if_there, lower_if_else, lower_bin_op, lower_unary_op}
use Rattle.module.specs.Ids.{node_of, expr_of, pointer_of}
use Rattle.module.specs.declared.ids.NodeId as code_node
use Rattle.module.specs.declared.ids.ExprId as code_expr
use Rattle.module.specs.declared.expr.Expr as code
use Rattle.module.specs.declared.expr.Expr.TheVariants.{IfThenElse, BinOp, UnaryOp}
use Rattle.layout.specs.Nodes.{nodes_of}
use Rattle.layout.specs.Texts.{text_in}
use Rattle.layout.specs.States.{waiting_of}
use Rattle.rows.specs.Decoded.{expr_with}
use Rattle.store.specs.Codes.{hole_made}
use Rattle.store.specs.Work.{Did, take_lone}
use Rattle.merge.specs.Room.{price, ◌⊕◌, covers, nothing, one_expr, own_node}
use Rattle.merge.specs.Lowers.{Lowering}
use Rattle.merge.proofs.Steps.{gave, yes_when, no_when, fits, all_lower}
use Rattle.merge.proofs.Allocs.{missing_taken}
use Rattle.lower.specs.Sizes.{below, place, heft}
use Rattle.lower.specs.Parts.{lower_at, merge_at, LowersNode, form_of, IsForm}
use Rattle.lower.proofs.ChildLaws.{Children, HasChildren}
use Rattle.lower.proofs.TurnLaws.{next}
use Rattle.lower.proofs.SizeLaws.{own_and_below, heft_place, three_below}
use Rattle.std.specs.Prelude as rust

-- ---- the contracts that the laws are about
abbrev pub Opt : ℕ → rust.Option code_node.NodeId → List ℕ → ℕ → List ℕ → Type 0
Opt depth p s r t = Lowering 0 (heft (node_of p)) one_expr (λ nodes. lower_opt nodes (lower_at depth nodes) (merge_at depth nodes) (node_of p)) s r t

abbrev pub There : ℕ → rust.Option code_node.NodeId → List ℕ → Option ExprId → List ℕ → Type 0
There depth p s r t = Lowering 0 (λ nodes. place nodes (node_of p)) nothing (λ nodes. lower_if_there nodes (lower_at depth nodes) (merge_at depth nodes) (node_of p)) s r t

-- an expression without items
abbrev pub Lone : code.Expr → Pointer → List ℕ → ℕ → List ℕ → Type 0
Lone e p s r t = Lowering 0 (λ _. 0) one_expr (λ _. alloc_expr (expr_with (text_in s) e []) p) s r t

-- ---- an expression that may be absent
pub opt_node : (depth : ℕ) (n : code_node.NodeId) {p : rust.Option code_node.NodeId} {s t : List ℕ} {r : ℕ} → p ≡ rust.Some n → LowersNode depth n.0 s r t → Opt depth p s r t
unfolding lower_opt node_of
opt_node depth n e x = rw e x.tight

pub opt_absent : (depth : ℕ) {p : rust.Option code_node.NodeId} {s t : List ℕ} {r : ℕ} → p ≡ rust.None → Did (take_lone hole_made) s r t → Opt depth p s r t
unfolding lower_opt node_of heft
opt_absent depth e d = rw e (all_lower (missing_taken d))

pub there_node : (depth : ℕ) (n : code_node.NodeId) (e : code_expr.ExprId) {p : rust.Option code_node.NodeId} {s t : List ℕ} → p ≡ rust.Some n → LowersNode depth n.0 s e.0 t → There depth p s (expr_of (rust.Some e)) t
unfolding lower_if_there node_of expr_of place covers ◌⊕◌ price nothing own_node
there_node depth n e q x = rw q (all_lower (fits 1 (λ w. omega (arith, own_and_below w n.0)) refl (next (λ a. give (some a)) (x.whole.at _ _) (gave (some e.0)))))

pub there_absent : (depth : ℕ) {p : rust.Option code_node.NodeId} (s : List ℕ) → p ≡ rust.None → There depth p s (expr_of rust.None) s
unfolding lower_if_there node_of expr_of place
there_absent depth s q = rw q (all_lower (gave none))

-- ---- expressions of one, two or three others
module _ (depth n : ℕ) (at : Children) {s u t : List ℕ} {r : ℕ} (h : HasChildren (nodes_of s) n at) where
  pub pair_lowers : (kind : ℕ) {a b : ℕ} (e : code.Expr) {v : List ℕ} → Opt depth at.first s a u → Opt depth at.second u b v → IsForm kind a b e → Lone e (pointer_of at.pointer) v r t
      → Lowering 0 (below n) own_node (λ nodes. lowering.pair nodes (lower_at depth nodes) (merge_at depth nodes) (form_of kind) n) s r t
  unfolding lowering.pair covers ◌⊕◌ price one_expr own_node
  pair_lowers kind {a} {b} e {v} x y f d =
      all_lower
      (rw (← h.first, ← h.second, ← h.pointed)
      (fits 0 (λ w. omega (arith, three_below w h, heft_place (nodes_of s) (node_of at.first), heft_place (nodes_of s) (node_of at.second))) refl
      (next _ (x.at _ _) (next _ (y.at _ _) (rw (f.same (text_in v) []) at (d.at (nodes_of s) (waiting_of s)))))))

  pub cond_lowers : (c y z : code_expr.ExprId) {v w : List ℕ} → Opt depth at.first s c.0 u → Opt depth at.second u y.0 v → Opt depth at.third v z.0 w → Lone (IfThenElse c y z) (pointer_of at.pointer) w r t
      → Lowering 0 (below n) own_node (λ nodes. lower_if_else nodes (lower_at depth nodes) (merge_at depth nodes) n) s r t
  unfolding lower_if_else expr_with covers ◌⊕◌ price one_expr own_node
  cond_lowers c y z a b e d =
      all_lower
      (rw (← h.first, ← h.second, ← h.third, ← h.pointed)
      (fits 0 (λ w. omega (arith, three_below w h, heft_place (nodes_of s) (node_of at.first), heft_place (nodes_of s) (node_of at.second), heft_place (nodes_of s) (node_of at.third))) refl
      (next _ (a.at _ _) (next _ (b.at _ _) (next _ (e.at _ _) (d.at _ _))))))

  -- docs/RULES.md, "From nodes to expressions": "A flag-0 BinOp lowers its left side first."
  pub binop_missing : (op l : ℕ) → op ≡ flag (nodes_of s) n → Opt depth at.first s l u → op ≡ 0 → Did (take_lone hole_made) u r t
      → Lowering 0 (below n) own_node (λ nodes. lower_bin_op nodes (lower_at depth nodes) (merge_at depth nodes) n) s r t
  unfolding lower_bin_op covers ◌⊕◌ price one_expr own_node
  binop_missing op l f a o d =
      all_lower
      (rw (← h.first, ← f)
      (fits 0 (λ w. omega (arith, three_below w h, heft_place (nodes_of s) (node_of at.first))) refl
      (next _ (a.at _ _) (yes_when _ (eq-eqb op 0 o) (missing_taken d)))))

  pub binop_lowers : (op : ℕ) (x y : code_expr.ExprId) {v : List ℕ} → op ≡ flag (nodes_of s) n → Opt depth at.first s x.0 u → (op ≡ 0 → ⊥) → Opt depth at.second u y.0 v → Lone (BinOp x y op) (pointer_of at.pointer) v r t
      → Lowering 0 (below n) own_node (λ nodes. lower_bin_op nodes (lower_at depth nodes) (merge_at depth nodes) n) s r t
  unfolding lower_bin_op expr_with covers ◌⊕◌ price one_expr own_node
  binop_lowers op x y f a o b d =
      all_lower
      (rw (← h.first, ← h.second, ← h.pointed, ← f)
      (fits 0 (λ w. omega (arith, three_below w h, heft_place (nodes_of s) (node_of at.first), heft_place (nodes_of s) (node_of at.second))) refl
      (next _ (a.at _ _) (no_when _ (ne_eqb op 0 o) (next _ (b.at _ _) (d.at _ _))))))

  pub unop_lowers : (op : ℕ) (x : code_expr.ExprId) → op ≡ flag (nodes_of s) n → (op ≡ 0 → ⊥) → Opt depth at.first s x.0 u → Lone (UnaryOp op x) (pointer_of at.pointer) u r t
      → Lowering 0 (below n) own_node (λ nodes. lower_unary_op nodes (lower_at depth nodes) (merge_at depth nodes) n) s r t
  unfolding lower_unary_op expr_with covers ◌⊕◌ price one_expr own_node
  unop_lowers op x f o a d =
      all_lower
      (rw (← h.first, ← h.pointed, ← f)
      (fits 0 (λ w. omega (arith, three_below w h, heft_place (nodes_of s) (node_of at.first))) refl
      (no_when _ (ne_eqb op 0 o) (next _ (a.at _ _) (d.at _ _)))))

pub unop_missing : (depth n op : ℕ) {s t : List ℕ} {r : ℕ} → op ≡ flag (nodes_of s) n → op ≡ 0 → Did (take_lone hole_made) s r t
    → Lowering 0 (below n) own_node (λ nodes. lower_unary_op nodes (lower_at depth nodes) (merge_at depth nodes) n) s r t
unfolding lower_unary_op covers ◌⊕◌ price one_expr own_node
unop_missing depth n op f o d = all_lower (rw (← f) (fits 0 (λ w. omega arith) refl (yes_when _ (eq-eqb op 0 o) (missing_taken d))))
