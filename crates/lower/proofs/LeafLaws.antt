-- What is allocated without lowering anything below it, as steps of lowering. Assumes nothing.
use Rattle.std.specs.Prelude.{if◌then◌else◌}
use mathlib.Core.Path.{◌≡◌, refl, sym, ap, ◌∙◌}
use mathlib.Core.Bool.{Bool, true, false}
use mathlib.Core.List.{List, []}
use mathlib.Core.Option.{Option, none, some}
use Prim.Native.Nat.{ℕ}
use native.Mathlib.Omega.{arith}
use lib.ListN.{length}
use lib.Dec.{eqb}
use borrow.Author.Tests.{ne_eqb}
use Rattle.spec.specs.Basics.{Text, NodeId, ExprId}
use Rattle.spec.specs.Sheet.{Node}
use Rattle.spec.specs.Keys.{kind, flag, text, pointer}
use Rattle.spec.specs.Module as spec
use Rattle.spec.specs.Module.{Pointer, NameKind, literal, string}
use Rattle.spec.specs.Steps.{give, when}
use Rattle.spec.specs.State.{Low, alloc_expr, alloc_missing}
use Rattle.spec.specs.Lower.{lower_name, lower_ident, lower_float, lower_integer}
use Rattle.spec.proofs.tree.Sizes.{positive}
use Rattle.module.specs.Ids.{node_of}
use Rattle.module.specs.Literals.{literal_of}
use Rattle.module.specs.declared.expr.Expr.{Expr}
use Rattle.module.specs.declared.expr.Expr.TheVariants as code
use Rattle.module.specs.declared.ids.ExprId as code_expr
use Rattle.module.specs.declared.ids.NodeId as code_id
use Rattle.module.specs.declared.ids.TextId as code_text
use Rattle.module.specs.declared.literal.Literal as code_literal
use Rattle.module.specs.declared.literal.Literal.TheVariants as literals
use Rattle.layout.specs.Nodes.{nodes_of}
use Rattle.layout.specs.States.{state_of, waiting_of}
use Rattle.layout.specs.Texts.{text_in, maybe_text}
use Rattle.rows.specs.Decoded.{expr_with, ValidExpr}
use Rattle.store.specs.Codes.{sort_for, expr_made, hole_made}
use Rattle.store.specs.Work.{Did, Takes, take_lone, put_name, name_with}
use Rattle.keys.specs.AstUtils.{ident_name}
use Rattle.keys.specs.Literals.{literal_held, alloc_literal, LiteralRead}
use Rattle.keys.proofs.AnswerLaws.{text_there, text_missing, literal_there, literal_valid, literal_missing}
use Rattle.keys.proofs.LiteralLaws.{lowers_float, lowers_integer}
use Rattle.merge.specs.Room.{nothing, one_expr, one_name, price, ◌⊕◌, covers}
use Rattle.merge.specs.Lowers.{Lowering}
use Rattle.merge.proofs.Steps as steps
use Rattle.merge.proofs.Steps.{gave, as_step, fits, all_lower}
use Rattle.merge.proofs.Allocs.{taken_lone, missing_taken, named}
use Rattle.lower.specs.Sizes.{sized, place}
use Rattle.lower.specs.Parts.{lower_at, merge_at, form_of, IsForm}
use Rattle.module.specs.SyntaxKinds.{number_of_syntax}
use Rattle.module.specs.declared.syntax_kind.SyntaxKind.{SyntaxKind}
use Rattle.module.specs.declared.syntax_kind.SyntaxKind.TheVariants as code_kind
use Rattle.module.proofs.SyntaxKindLaws.{syntax_same}
use Rattle.std.specs.Prelude as rust

-- ---- an expression without items
pub lone_taken : (s : List ℕ) (e : Expr) (p : Pointer) (base r : ℕ) (t : List ℕ) → base ≡ length (waiting_of s) → Takes (sort_for e) (expr_made s e p) base s r t
    → Lowering 0 (λ _. 0) one_expr (λ _. alloc_expr (expr_with (text_in s) e []) p) s r t
unfolding alloc_expr expr_made
lone_taken s e p base r t b d = record { at = λ nodes w. taken_lone (sort_for e) (expr_made s e p) b d }

-- "Missing without a pointer"
pub hole_taken : {s : List ℕ} {r : ℕ} {t : List ℕ} → Did (take_lone hole_made) s r t → Lowering 0 (λ _. 0) one_expr (λ _. alloc_missing) s r t
hole_taken d = record { at = λ nodes w. missing_taken d }

-- Allocated as the definitions say of the store's own nodes.
pub as_nodes : {s : List ℕ} {r : ℕ} {t : List ℕ} {q : Low ExprId} (p : List Node → Low ExprId) → q ≡ p (nodes_of s) → Lowering 0 (λ _. 0) one_expr (λ _. q) s r t → Lowering 0 (λ _. 0) one_expr p s r t
as_nodes {s = s} p e x = all_lower (rw (← e) (x.at (nodes_of s) (waiting_of s)))

-- ---- the form of two operands
module _ (k : SyntaxKind) (a b : code_expr.ExprId) where
  pub form_apply : k ≡ code_kind.Apply → IsForm (number_of_syntax k) a.0 b.0 (code.Apply a b)
  unfolding form_of expr_with ValidExpr number_of_syntax
  form_apply h = record { same = λ texts is. rw h; valid = tt }

  pub form_with : k ≡ code_kind.With → IsForm (number_of_syntax k) a.0 b.0 (code.With a b)
  unfolding form_of expr_with ValidExpr number_of_syntax
  form_with h = record { same = λ texts is. rw h; valid = tt }

  pub form_assert : (k ≡ code_kind.Apply → ⊥) → (k ≡ code_kind.With → ⊥) → IsForm (number_of_syntax k) a.0 b.0 (code.Assert a b)
  unfolding form_of expr_with ValidExpr number_of_syntax
  form_assert g h = record {
    same = λ texts is. rw (ne_eqb (number_of_syntax k) 1 (λ z. g (syntax_same k code_kind.Apply z)), ne_eqb (number_of_syntax k) 4 (λ z. h (syntax_same k code_kind.With z)));
    valid = tt;
  }

-- ---- a name
-- a node has room for it
name_covered : covers 1 (one_name ⊕ nothing) nothing ≡ true
unfolding covers ◌⊕◌ one_name nothing price
name_covered = refl

module _ (s : List ℕ) (k : NameKind) (m : rust.Option code_id.NodeId) where
  pub name_absent : m ≡ rust.None → Lowering 0 (λ nodes. place nodes (node_of m)) nothing (λ nodes. lower_name nodes (lower_at 0 nodes) (merge_at 0 nodes) k (node_of m)) s none s
  unfolding place node_of lower_name
  name_absent q = rw q (record { at = λ nodes w. gave none })

  pub name_taken_lem : (n : code_id.NodeId) → m ≡ rust.Some n → (x : Text) → x ≡ text (nodes_of s) n.0 → (p : Pointer) → p ≡ pointer (nodes_of s) n.0 → {r : ℕ} {t : List ℕ} → Did (put_name (name_with x k p)) s r t
      → Lowering 0 (λ nodes. place nodes (node_of m)) nothing (λ nodes. lower_name nodes (lower_at 0 nodes) (merge_at 0 nodes) k (node_of m)) s (some r) t
  unfolding place sized node_of lower_name
  name_taken_lem n q x a p b {r} {t} d = rw q (all_lower (rw (← a, ← b) (fits 1 (λ w. omega (arith, positive w n.0)) name_covered (steps.then {top' = 0} (λ i. give (some i)) (omega arith) (named x k p d) (gave (some r))))))

-- ---- a literal
module _ (s : List ℕ) (n : NodeId) (k : rust.Option SyntaxKind) (m : rust.Option code_literal.Literal) (h : LiteralRead s (literal_held (nodes_of s) k n) m) where
  pub literal_fits : (l : code_literal.Literal) → m ≡ rust.Some l → ValidExpr (code.Literal l)
  unfolding ValidExpr
  literal_fits l q = literal_valid s m _ h l q

  pub literal_taken : (l : code_literal.Literal) → m ≡ rust.Some l → (p : Pointer) → p ≡ pointer (nodes_of s) n → {r : ℕ} {t : List ℕ}
      → Lowering 0 (λ _. 0) one_expr (λ _. alloc_expr (expr_with (text_in s) (code.Literal l) []) p) s r t → Lowering 0 (λ _. 0) one_expr (λ nodes. alloc_literal nodes n (literal_held nodes k n)) s r t
  unfolding expr_with alloc_literal
  literal_taken l q p b x = as_nodes (λ nodes. alloc_literal nodes n (literal_held nodes k n)) (rw (literal_there s m _ h l q, b)) x

  pub literal_hole : m ≡ rust.None → {r : ℕ} {t : List ℕ} → Did (take_lone hole_made) s r t → Lowering 0 (λ _. 0) one_expr (λ nodes. alloc_literal nodes n (literal_held nodes k n)) s r t
  unfolding alloc_literal
  literal_hole q d = as_nodes (λ nodes. alloc_literal nodes n (literal_held nodes k n)) (rw (literal_missing s m _ h q)) (hole_taken d)

-- ---- an expression that says nothing of its node but its pointer
module _ (s : List ℕ) (n : NodeId) (p : Pointer) (b : p ≡ pointer (nodes_of s) n) (e : spec.Expr) {r : ℕ} {t : List ℕ} where
  pub pointed : Lowering 0 (λ _. 0) one_expr (λ _. alloc_expr e p) s r t → Lowering 0 (λ _. 0) one_expr (λ nodes. alloc_expr e (pointer nodes n)) s r t
  pointed x = as_nodes (λ nodes. alloc_expr e (pointer nodes n)) (rw b) x

-- ---- an Ident
-- what its flag is, by the name that was read
flag_named : (b : Bool) (x t : Text) → (if b then some x else none) ≡ some t → (b ≡ true) × (x ≡ t)
flag_named true x t e = (refl, cc)
flag_named false x t e = let z : ◌≡◌ {A = ℕ} 0 1 = cc in absurd (omega arith)

flag_nameless : (b : Bool) (x : Text) → ◌≡◌ {A = Option Text} (if b then some x else none) none → b ≡ false
flag_nameless true x e = let z : ◌≡◌ {A = ℕ} 0 1 = cc in absurd (omega arith)
flag_nameless false x e = refl

module _ (s : List ℕ) (n : NodeId) (p : Pointer) (b : p ≡ pointer (nodes_of s) n) (m : rust.Option code_text.TextId) (e : maybe_text s m ≡ ident_name (nodes_of s) n) where
  name_there : (x : code_text.TextId) → m ≡ rust.Some x → (eqb (flag (nodes_of s) n) 1 ≡ true) × (text (nodes_of s) n ≡ text_in s x.0)
  name_there x q = flag_named (eqb (flag (nodes_of s) n) 1) (text (nodes_of s) n) (text_in s x.0) (text_there s m _ e x q)

  name_missing : m ≡ rust.None → eqb (flag (nodes_of s) n) 1 ≡ false
  name_missing q = flag_nameless (eqb (flag (nodes_of s) n) 1) (text (nodes_of s) n) (text_missing s m _ e q)

  pub ident_taken : (x : code_text.TextId) → m ≡ rust.Some x → {r : ℕ} {t : List ℕ} → Lowering 0 (λ _. 0) one_expr (λ _. alloc_expr (expr_with (text_in s) (code.Reference x) []) p) s r t
      → Lowering 0 (λ _. 0) one_expr (λ nodes. lower_ident nodes (lower_at 0 nodes) (merge_at 0 nodes) n) s r t
  unfolding expr_with lower_ident
  ident_taken x q y = let z = name_there x q in as_nodes (λ nodes. lower_ident nodes (lower_at 0 nodes) (merge_at 0 nodes) n) (rw (z.0, z.1, b)) y

  pub ident_hole : m ≡ rust.None → {r : ℕ} {t : List ℕ} → Lowering 0 (λ _. 0) one_expr (λ _. alloc_expr (expr_with (text_in s) code.Missing []) p) s r t
      → Lowering 0 (λ _. 0) one_expr (λ nodes. lower_ident nodes (lower_at 0 nodes) (merge_at 0 nodes) n) s r t
  unfolding expr_with lower_ident
  ident_hole q y = as_nodes (λ nodes. lower_ident nodes (lower_at 0 nodes) (merge_at 0 nodes) n) (rw (name_missing q, b)) y

  pub attr_taken : (x : code_text.TextId) → m ≡ rust.Some x → {r : ℕ} {t : List ℕ} → Lowering 0 (λ _. 0) one_expr (λ _. alloc_expr (expr_with (text_in s) (code.Literal (literals.Text x)) []) p) s r t
      → Lowering 0 (λ _. 0) one_expr (λ nodes. when (eqb (flag nodes n) 1) (alloc_expr (literal (string (text nodes n))) (pointer nodes n)) alloc_missing) s r t
  unfolding expr_with literal_of when
  attr_taken x q y =
      let z = name_there x q in
      as_nodes (λ nodes. when (eqb (flag nodes n) 1) (alloc_expr (literal (string (text nodes n))) (pointer nodes n)) alloc_missing) (rw (z.0, z.1, b)) y

  pub attr_hole : m ≡ rust.None → {r : ℕ} {t : List ℕ} → Did (take_lone hole_made) s r t
      → Lowering 0 (λ _. 0) one_expr (λ nodes. when (eqb (flag nodes n) 1) (alloc_expr (literal (string (text nodes n))) (pointer nodes n)) alloc_missing) s r t
  unfolding when
  attr_hole q d = as_nodes (λ nodes. when (eqb (flag nodes n) 1) (alloc_expr (literal (string (text nodes n))) (pointer nodes n)) alloc_missing) (rw (name_missing q)) (hole_taken d)

-- ---- what the arms of lowering make of it: the same with any number of levels left
module _ (depth : ℕ) (n : NodeId) {s : List ℕ} {r : ℕ} {t : List ℕ} where
  pub float_lowers : eqb (kind (nodes_of s) n) 8 ≡ true → Lowering 0 (λ _. 0) one_expr (λ nodes. alloc_literal nodes n (literal_held nodes (rust.Some code_kind.Float) n)) s r t
      → Lowering 0 (λ _. 0) one_expr (λ nodes. lower_float nodes (lower_at depth nodes) (merge_at depth nodes) n) s r t
  float_lowers k x = record {
    at = λ nodes w.
        as_step
        (λ c. sym (ap (λ f. f (state_of s)) (lowers_float nodes (lower_at depth nodes) (merge_at depth nodes) n (c.floats.held n (ap (λ (z : List Node). eqb (kind z n) 8) (sym c.nodes_are) ∙ k)))))
        (x.at nodes w);
  }

  pub integer_lowers : Lowering 0 (λ _. 0) one_expr (λ nodes. alloc_literal nodes n (literal_held nodes (rust.Some code_kind.Integer) n)) s r t
      → Lowering 0 (λ _. 0) one_expr (λ nodes. lower_integer nodes (lower_at depth nodes) (merge_at depth nodes) n) s r t
  integer_lowers x = record {
    at = λ nodes w. as_step (λ c. sym (ap (λ f. f (state_of s)) (lowers_integer nodes (lower_at depth nodes) (merge_at depth nodes) n))) (x.at nodes w);
  }

  pub ident_lowers : Lowering 0 (λ _. 0) one_expr (λ nodes. lower_ident nodes (lower_at 0 nodes) (merge_at 0 nodes) n) s r t
      → Lowering 0 (λ _. 0) one_expr (λ nodes. lower_ident nodes (lower_at depth nodes) (merge_at depth nodes) n) s r t
  unfolding lower_ident
  ident_lowers x = x

name_any : (nodes : List Node) (depth : ℕ) (k : NameKind) (p : Option NodeId) → lower_name nodes (lower_at 0 nodes) (merge_at 0 nodes) k p ≡ lower_name nodes (lower_at depth nodes) (merge_at depth nodes) k p
unfolding lower_name
name_any nodes depth k none = refl
name_any nodes depth k (some n) = refl

pub name_lowers : (depth : ℕ) {m : List Node → ℕ} (k : NameKind) (p : Option NodeId) {s : List ℕ} {r : Option ℕ} {t : List ℕ} → Lowering 0 m nothing (λ nodes. lower_name nodes (lower_at 0 nodes) (merge_at 0 nodes) k p) s r t
    → Lowering 0 m nothing (λ nodes. lower_name nodes (lower_at depth nodes) (merge_at depth nodes) k p) s r t
name_lowers depth k p {s} x = record { at = λ nodes w. as_step (λ c. ap (λ f. f (state_of s)) (name_any nodes depth k p)) (x.at nodes w) }
