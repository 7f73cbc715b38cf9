-- Lowering a node, by its kind: what each arm of the match gives. Assumes nothing.
use mathlib.Core.Path.{◌≡◌, refl, sym, ap, subst, ◌∙◌}
use mathlib.Core.Bool.{false}
use mathlib.Core.List.{List}
use mathlib.Core.Option.{some}
use Prim.Native.Nat.{ℕ, suc, ◌-◌, ◌≤◌}
use native.Mathlib.Omega.{arith}
use mathlib.Core.Logic.{◌⊎◌, inl, inr}
use lib.Dec.{eqb}
use borrow.Author.Tests.{eq-eqb, ne_eqb}
use Rattle.spec.specs.Basics.{NodeId, ExprId}
use Rattle.spec.specs.Sheet.{Node}
use Rattle.spec.specs.Keys.{kind, kid, pointer}
use Rattle.spec.specs.Module.{missing, literal, uri}
use Rattle.spec.specs.Steps.{when}
use Rattle.spec.specs.State.{SetId, Low, alloc_expr}
use Rattle.spec.specs.Merge.{lower_opt}
use Rattle.spec.specs.Lower as lowering
use Rattle.spec.specs.Lower.{lower_string, lower_path, lower_if_else, lower_select, lower_has_attr, lower_float, lower_integer, lower_lambda, lower_let_in, lower_list, lower_bin_op, lower_attr_set, lower_unary_op, lower_ident, lower_as, lower_expr}
use Rattle.module.specs.Ids.{node_of}
use Rattle.layout.specs.Nodes.{nodes_of}
use Rattle.store.specs.Codes.{hole_made}
use Rattle.store.specs.Work.{Did, take_lone}
use Rattle.merge.specs.Room.{price, covers, one_expr, own_node}
use Rattle.merge.specs.Lowers.{Lowering}
use Rattle.merge.proofs.Steps.{fits, all_lower}
use Rattle.merge.proofs.Allocs.{missing_taken}
use Rattle.lower.specs.Sizes.{sized, below, place, heft}
use Rattle.lower.specs.Parts.{lower_at, merge_at, LowersNode, form_of}
use Rattle.lower.proofs.SizeLaws.{own_and_below, heft_whole, heft_str, heft_place, kid_below}
use Rattle.lower.proofs.ExprLaws.{Opt}
use Rattle.module.specs.declared.ids.NodeId as rust_node_id
use Rattle.module.specs.SyntaxKinds.{number_of_syntax, syntax_of_number}
use Rattle.module.specs.declared.syntax_kind.SyntaxKind.{SyntaxKind}
use Rattle.module.specs.declared.syntax_kind.SyntaxKind.TheVariants as code_kind
use Rattle.module.proofs.SyntaxKindLaws.{syntax_same}
use Rattle.intake.proofs.KindLaws.{of_kind, of_other}
use Rattle.keys.specs.Literals.{literal_held, alloc_literal}
use Rattle.lower.proofs.LeafLaws.{float_lowers, integer_lowers}
use Rattle.std.specs.Prelude as rust

-- ---- where no level is left
pub too_deep : (depth n : ℕ) {s t : List ℕ} {r : ℕ} → depth ≡ 0 → Did (take_lone hole_made) s r t → LowersNode depth n s r t
unfolding lower_expr covers price one_expr own_node
too_deep depth n e d = rw e (record { whole = all_lower (fits 0 (λ w. omega arith) refl (missing_taken d)); tight = all_lower (fits 0 (λ w. omega arith) refl (missing_taken d)) })

-- ---- with one level less for what is below the node
abbrev Whole : ℕ → ℕ → NodeId → List ℕ → ℕ → List ℕ → Type 0
Whole d k n s r t = Lowering 0 (below n) own_node (λ nodes. lower_as nodes (lower_at d nodes) (merge_at d nodes) k n) s r t

module _ (d k n : ℕ) {s t : List ℕ} {r : ℕ} (e : k ≡ kind (nodes_of s) n) where
  by_kind : Whole d k n s r t → Lowering 0 (below n) own_node (λ nodes. lower_expr nodes (suc d) n) s r t
  unfolding lower_expr
  by_kind x = all_lower (rw (← e) (x.at _ _))

  -- Its own node pays for all but one expression, where the node is no Str.
  own_pays : (k ≡ 6 → ⊥) → Lowering 0 (below n) own_node (λ nodes. lower_expr nodes (suc d) n) s r t → LowersNode (suc d) n s r t
  unfolding covers price one_expr own_node
  own_pays o x =
      let h : heft (some n) (nodes_of s) ≡ sized (nodes_of s) n = heft_whole (nodes_of s) n (rw (← e) (ne_eqb k 6 o)) in
      record { whole = x; tight = all_lower (fits 1 (λ w. omega (arith, own_and_below w n)) refl (x.at _ _)) }

  str_lowers : k ≡ 6 → Lowering 0 (below n) one_expr (λ nodes. lower_as nodes (lower_at d nodes) (merge_at d nodes) k n) s r t → LowersNode (suc d) n s r t
  unfolding lower_expr covers price one_expr own_node
  str_lowers o x =
      let h : heft (some n) (nodes_of s) ≡ below n (nodes_of s) = heft_str (nodes_of s) n (rw (← e) (eq-eqb k 6 o)) in
      record {
        whole = all_lower (rw (← e) (fits 0 (λ w. omega arith) refl (x.at _ _)));
        tight = all_lower (rw (← e) (fits 0 (λ w. omega arith) refl (x.at _ _)));
      }

-- ---- the arm that takes the rest
-- a kind that has no other arm
abbrev pub Rest : SyntaxKind → Type 0
Rest k =
    (k ≡ code_kind.Apply → ⊥)
    × (k ≡ code_kind.IfElse → ⊥)
    × (k ≡ code_kind.Select → ⊥)
    × (k ≡ code_kind.With → ⊥)
    × (k ≡ code_kind.HasAttr → ⊥)
    × (k ≡ code_kind.Str → ⊥)
    × (k ≡ code_kind.Path → ⊥)
    × (k ≡ code_kind.Float → ⊥)
    × (k ≡ code_kind.Integer → ⊥)
    × (k ≡ code_kind.Uri → ⊥)
    × (k ≡ code_kind.Lambda → ⊥)
    × (k ≡ code_kind.LetIn → ⊥)
    × (k ≡ code_kind.List → ⊥)
    × (k ≡ code_kind.BinOp → ⊥)
    × (k ≡ code_kind.Paren → ⊥)
    × (k ≡ code_kind.AttrSet → ⊥)
    × (k ≡ code_kind.UnaryOp → ⊥)
    × (k ≡ code_kind.Ident → ⊥)
    × (k ≡ code_kind.Assert → ⊥)
    × (k ≡ code_kind.Root → ⊥)

rest_missing : (k : SyntaxKind) → Rest k → (nodes : List Node) (lower : NodeId → Low ExprId) (merge : SetId → NodeId → Low (Unit {0})) (n : NodeId)
    → alloc_expr missing (pointer nodes n) ≡ lower_as nodes lower merge (number_of_syntax k) n
unfolding lower_as when number_of_syntax
rest_missing code_kind.Apply h nodes lower merge n = absurd (h.0 refl)
rest_missing code_kind.IfElse h nodes lower merge n = absurd (h.1 refl)
rest_missing code_kind.Select h nodes lower merge n = absurd (h.2 refl)
rest_missing code_kind.With h nodes lower merge n = absurd (h.3 refl)
rest_missing code_kind.HasAttr h nodes lower merge n = absurd (h.4 refl)
rest_missing code_kind.Str h nodes lower merge n = absurd (h.5 refl)
rest_missing code_kind.Path h nodes lower merge n = absurd (h.6 refl)
rest_missing code_kind.Float h nodes lower merge n = absurd (h.7 refl)
rest_missing code_kind.Integer h nodes lower merge n = absurd (h.8 refl)
rest_missing code_kind.Uri h nodes lower merge n = absurd (h.9 refl)
rest_missing code_kind.Lambda h nodes lower merge n = absurd (h.10 refl)
rest_missing code_kind.LetIn h nodes lower merge n = absurd (h.11 refl)
rest_missing code_kind.List h nodes lower merge n = absurd (h.12 refl)
rest_missing code_kind.BinOp h nodes lower merge n = absurd (h.13 refl)
rest_missing code_kind.Paren h nodes lower merge n = absurd (h.14 refl)
rest_missing code_kind.AttrSet h nodes lower merge n = absurd (h.15 refl)
rest_missing code_kind.UnaryOp h nodes lower merge n = absurd (h.16 refl)
rest_missing code_kind.Ident h nodes lower merge n = absurd (h.17 refl)
rest_missing code_kind.Assert h nodes lower merge n = absurd (h.18 refl)
rest_missing code_kind.Root h nodes lower merge n = absurd (h.19 refl)
rest_missing _ h nodes lower merge n = refl

-- a number that is no kind's
none_missing : (k : ℕ) → rust.None ≡ syntax_of_number k → (nodes : List Node) (lower : NodeId → Low ExprId) (merge : SetId → NodeId → Low (Unit {0})) (n : NodeId)
    → alloc_expr missing (pointer nodes n) ≡ lower_as nodes lower merge k n
unfolding lower_as when number_of_syntax
none_missing k e nodes lower merge n =
    let no : (c : SyntaxKind) → eqb k (number_of_syntax c) ≡ false = λ c. ne_eqb k (number_of_syntax c) (of_other e c (λ q. cc)) in
    rw (
      no code_kind.Apply,
      no code_kind.IfElse,
      no code_kind.Select,
      no code_kind.With,
      no code_kind.HasAttr,
      no code_kind.Str,
      no code_kind.Path,
      no code_kind.Float,
      no code_kind.Integer,
      no code_kind.Uri,
      no code_kind.Lambda,
      no code_kind.LetIn,
      no code_kind.List,
      no code_kind.BinOp,
      no code_kind.Paren,
      no code_kind.AttrSet,
      no code_kind.UnaryOp,
      no code_kind.Ident,
      no code_kind.Assert,
      no code_kind.Root,
    )

-- as the code counts the levels
one_less : (depth n : ℕ) {s t : List ℕ} {r : ℕ} → (depth ≡ 0 → ⊥) → LowersNode (suc (depth - 1)) n s r t → LowersNode depth n s r t
one_less depth n {s} {t} {r} o x = let q : suc (depth - 1) ≡ depth = omega arith in subst (λ z. LowersNode z n s r t) q x

-- A node of a kind that no other arm takes, or of none.
module _ (depth n : ℕ) {s t : List ℕ} {r : ℕ} (deep : depth ≡ 0 → ⊥) where
  -- ---- what has nothing below it
  own_room : {p : List Node → Low ExprId} → Lowering 0 (λ _. 0) one_expr p s r t → Lowering 0 (below n) own_node p s r t
  unfolding covers price one_expr own_node
  own_room x = all_lower (fits 0 (λ w. omega arith) refl (x.at _ _))

  missing_lowers : (k : ℕ) → k ≡ kind (nodes_of s) n → (k ≡ 6 → ⊥)
      → ((nodes : List Node) (lower : NodeId → Low ExprId) (merge : SetId → NodeId → Low (Unit {0})) → alloc_expr missing (pointer nodes n) ≡ lower_as nodes lower merge k n)
      → Lowering 0 (λ _. 0) one_expr (λ nodes. alloc_expr missing (pointer nodes n)) s r t → LowersNode depth n s r t
  missing_lowers k e o m x =
      let all : Whole (depth - 1) k n s r t = all_lower (rw (← m (nodes_of s) (lower_at (depth - 1) (nodes_of s)) (merge_at (depth - 1) (nodes_of s))) ((own_room x).at _ _)) in
      one_less depth n deep (own_pays (depth - 1) k n e o (by_kind (depth - 1) k n e all))

  module _ {m : rust.Option SyntaxKind} (e : m ≡ syntax_of_number (kind (nodes_of s) n)) where
    pub none_arm : m ≡ rust.None → Lowering 0 (λ _. 0) one_expr (λ nodes. alloc_expr missing (pointer nodes n)) s r t → LowersNode depth n s r t
    unfolding number_of_syntax
    none_arm q x =
        missing_lowers (kind (nodes_of s) n) refl (of_other e code_kind.Str (λ z. let h : rust.None ≡ rust.Some code_kind.Str = sym q ∙ z in cc))
        (λ nodes lower merge. none_missing (kind (nodes_of s) n) (sym q ∙ e) nodes lower merge n) x

    module _ (k : SyntaxKind) (there : m ≡ rust.Some k) where
      pub missing_arm : Rest k → Lowering 0 (λ _. 0) one_expr (λ nodes. alloc_expr missing (pointer nodes n)) s r t → LowersNode depth n s r t
      unfolding number_of_syntax
      missing_arm h x = missing_lowers (number_of_syntax k) (sym (of_kind e k there)) (λ z. h.5 (syntax_same k code_kind.Str z)) (λ nodes lower merge. rest_missing k h nodes lower merge n) x

      -- an arm of the match
      arm : (c : SyntaxKind) → k ≡ c → (number_of_syntax c ≡ 6 → ⊥) → Whole (depth - 1) (number_of_syntax c) n s r t → LowersNode depth n s r t
      arm c q o x = one_less depth n deep (own_pays (depth - 1) (number_of_syntax k) n (sym (of_kind e k there)) (rw q o) (by_kind (depth - 1) (number_of_syntax k) n (sym (of_kind e k there)) (rw q x)))

      -- ---- kinds that have a function of their own
      pub pair_arm : (k ≡ code_kind.Apply) ⊎ ((k ≡ code_kind.With) ⊎ (k ≡ code_kind.Assert))
          → Lowering 0 (below n) own_node (λ nodes. lowering.pair nodes (lower_at (depth - 1) nodes) (merge_at (depth - 1) nodes) (form_of (number_of_syntax k)) n) s r t → LowersNode depth n s r t
      unfolding lower_as when form_of number_of_syntax
      pair_arm h x =
          elim h [
            | inl q ↦ arm code_kind.Apply q (λ z. omega arith) (rw q at x)
            | inr g ↦ elim g [ inl q ↦ arm code_kind.With q (λ z. omega arith) (rw q at x) | inr q ↦ arm code_kind.Assert q (λ z. omega arith) (rw q at x) ]
          ]

      pub cond_arm : k ≡ code_kind.IfElse → Lowering 0 (below n) own_node (λ nodes. lower_if_else nodes (lower_at (depth - 1) nodes) (merge_at (depth - 1) nodes) n) s r t → LowersNode depth n s r t
      unfolding lower_as when number_of_syntax
      cond_arm q x = arm code_kind.IfElse q (λ z. omega arith) x

      pub select_arm : k ≡ code_kind.Select → Lowering 0 (below n) own_node (λ nodes. lower_select nodes (lower_at (depth - 1) nodes) (merge_at (depth - 1) nodes) n) s r t → LowersNode depth n s r t
      unfolding lower_as when number_of_syntax
      select_arm q x = arm code_kind.Select q (λ z. omega arith) x

      pub has_arm : k ≡ code_kind.HasAttr → Lowering 0 (below n) own_node (λ nodes. lower_has_attr nodes (lower_at (depth - 1) nodes) (merge_at (depth - 1) nodes) n) s r t → LowersNode depth n s r t
      unfolding lower_as when number_of_syntax
      has_arm q x = arm code_kind.HasAttr q (λ z. omega arith) x

      pub path_arm : k ≡ code_kind.Path → Lowering 0 (below n) own_node (λ nodes. lower_path nodes (lower_at (depth - 1) nodes) (merge_at (depth - 1) nodes) n) s r t → LowersNode depth n s r t
      unfolding lower_as when number_of_syntax
      path_arm q x = arm code_kind.Path q (λ z. omega arith) x

      pub lambda_arm : k ≡ code_kind.Lambda → Lowering 0 (below n) own_node (λ nodes. lower_lambda nodes (lower_at (depth - 1) nodes) (merge_at (depth - 1) nodes) n) s r t → LowersNode depth n s r t
      unfolding lower_as when number_of_syntax
      lambda_arm q x = arm code_kind.Lambda q (λ z. omega arith) x

      pub let_arm : k ≡ code_kind.LetIn → Lowering 0 (below n) own_node (λ nodes. lower_let_in nodes (lower_at (depth - 1) nodes) (merge_at (depth - 1) nodes) n) s r t → LowersNode depth n s r t
      unfolding lower_as when number_of_syntax
      let_arm q x = arm code_kind.LetIn q (λ z. omega arith) x

      pub list_arm : k ≡ code_kind.List → Lowering 0 (below n) own_node (λ nodes. lower_list nodes (lower_at (depth - 1) nodes) (merge_at (depth - 1) nodes) n) s r t → LowersNode depth n s r t
      unfolding lower_as when number_of_syntax
      list_arm q x = arm code_kind.List q (λ z. omega arith) x

      pub binop_arm : k ≡ code_kind.BinOp → Lowering 0 (below n) own_node (λ nodes. lower_bin_op nodes (lower_at (depth - 1) nodes) (merge_at (depth - 1) nodes) n) s r t → LowersNode depth n s r t
      unfolding lower_as when number_of_syntax
      binop_arm q x = arm code_kind.BinOp q (λ z. omega arith) x

      pub set_arm : k ≡ code_kind.AttrSet → Lowering 0 (below n) own_node (λ nodes. lower_attr_set nodes (lower_at (depth - 1) nodes) (merge_at (depth - 1) nodes) n) s r t → LowersNode depth n s r t
      unfolding lower_as when number_of_syntax
      set_arm q x = arm code_kind.AttrSet q (λ z. omega arith) x

      pub unop_arm : k ≡ code_kind.UnaryOp → Lowering 0 (below n) own_node (λ nodes. lower_unary_op nodes (lower_at (depth - 1) nodes) (merge_at (depth - 1) nodes) n) s r t → LowersNode depth n s r t
      unfolding lower_as when number_of_syntax
      unop_arm q x = arm code_kind.UnaryOp q (λ z. omega arith) x

      pub string_arm : k ≡ code_kind.Str → Lowering 0 (below n) one_expr (λ nodes. lower_string nodes (lower_at (depth - 1) nodes) (merge_at (depth - 1) nodes) n) s r t → LowersNode depth n s r t
      unfolding lower_as when number_of_syntax
      string_arm q x = one_less depth n deep (str_lowers (depth - 1) (number_of_syntax k) n (sym (of_kind e k there)) (rw q) (rw q x))

      -- ---- what has nothing below it
      pub literal_arm : (k ≡ code_kind.Float) ⊎ (k ≡ code_kind.Integer) → Lowering 0 (λ _. 0) one_expr (λ nodes. alloc_literal nodes n (literal_held nodes (rust.Some k) n)) s r t → LowersNode depth n s r t
      unfolding lower_as when number_of_syntax
      literal_arm h x =
          elim h [
            | inl q ↦ arm code_kind.Float q (λ z. omega arith) (own_room (float_lowers (depth - 1) n (eq-eqb _ 8 (of_kind e k there ∙ ap number_of_syntax q)) (rw q at x)))
            | inr q ↦ arm code_kind.Integer q (λ z. omega arith) (own_room (integer_lowers (depth - 1) n (rw q at x)))
          ]

      pub uri_arm : k ≡ code_kind.Uri → Lowering 0 (λ _. 0) one_expr (λ nodes. alloc_expr (literal uri) (pointer nodes n)) s r t → LowersNode depth n s r t
      unfolding lower_as when number_of_syntax
      uri_arm q x = arm code_kind.Uri q (λ z. omega arith) (own_room x)

      pub ident_arm : k ≡ code_kind.Ident → Lowering 0 (λ _. 0) one_expr (λ nodes. lower_ident nodes (lower_at (depth - 1) nodes) (merge_at (depth - 1) nodes) n) s r t → LowersNode depth n s r t
      unfolding lower_as when number_of_syntax
      ident_arm q x = arm code_kind.Ident q (λ z. omega arith) (own_room x)

      -- ---- Parens and Root: what is inside
      inside : (p : rust.Option rust_node_id.NodeId) → node_of p ≡ kid (nodes_of s) 0 n → Opt (depth - 1) p s r t → Lowering 0 (below n) own_node (λ nodes. lower_opt nodes (lower_at (depth - 1) nodes) (merge_at (depth - 1) nodes) (kid nodes 0 n)) s r t
      unfolding covers price one_expr own_node
      inside p f x =
          all_lower
          (rw (← f) (fits 0 (λ w. let b : place (nodes_of s) (node_of p) ≤ below n (nodes_of s) = rw f (kid_below w n) in omega (arith, heft_place (nodes_of s) (node_of p))) refl (x.at _ _)))

      pub inside_arm : (p : rust.Option rust_node_id.NodeId) → (k ≡ code_kind.Paren) ⊎ (k ≡ code_kind.Root) → node_of p ≡ kid (nodes_of s) 0 n → Opt (depth - 1) p s r t → LowersNode depth n s r t
      unfolding lower_as when number_of_syntax
      inside_arm p h f x =
          elim h [ inl q ↦ arm code_kind.Paren q (λ z. omega arith) (inside p f x) | inr q ↦ arm code_kind.Root q (λ z. omega arith) (inside p f x) ]
