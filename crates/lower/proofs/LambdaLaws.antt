-- Lambdas: the parameter's name, the fields of the pattern, which wait as items, and the body. Assumes nothing.
use Rattle.std.specs.Prelude.{if◌then◌else◌}
use mathlib.Core.Path.{◌≡◌, refl, ap, ◌∙◌}
use mathlib.Core.Logic.{◌⊎◌, inl, inr}
use mathlib.Core.Bool.{Bool, true, false}
use mathlib.Core.List.{List, [], ◌++◌, map}
use mathlib.Core.Option.{Option, none, some}
use Prim.Native.Nat.{ℕ, ◌+◌}
use native.Mathlib.Omega.{arith}
use lib.ListN.{length}
use lib.Dec.{eqb}
use Rattle.spec.specs.Basics.{NodeId, ExprId, NameId}
use Rattle.spec.specs.Sheet.{Node}
use Rattle.spec.specs.Keys.{kind, flag, kid, kid_of}
use Rattle.spec.specs.Module.{Pat}
use Rattle.spec.specs.Module as spec
use Rattle.spec.specs.Steps.{◌>>=◌, give, when, each}
use Rattle.spec.specs.State.{SetId, State, Low, alloc_expr}
use Rattle.spec.specs.Lower.{lower_name, lower_field, lower_pattern, lower_param, lower_lambda}
use Rattle.module.specs.Ids.{node_of, expr_of, name_of, pointer_of}
use Rattle.module.specs.Kinds.{kind_of}
use Rattle.module.specs.declared.ids.ExprId as code_expr
use Rattle.module.specs.declared.kinds.NameKind.TheVariants as name_kind_lem
use Rattle.module.specs.declared.expr.Pattern.{Pattern}
use Rattle.module.specs.declared.expr.Pattern.TheVariants.{Absent, Closed, Ellipsis}
use Rattle.module.specs.declared.expr.Expr.TheVariants.{Lambda}
use Rattle.module.specs.declared.expr.Item.TheVariants as code_item
use Rattle.layout.specs.Exprs.{pattern}
use Rattle.layout.specs.Nodes.{nodes_of}
use Rattle.layout.specs.States.{state_of, waiting_of}
use Rattle.layout.specs.Texts.{text_in}
use Rattle.soundness.specs.Sound.{tag_fits}
use Rattle.rows.specs.Decoded.{expr_with, item_with, pattern_with}
use Rattle.store.specs.Codes.{lambda_sort, sort_for, expr_made}
use Rattle.store.specs.Work.{Did, suits, push_item}
use Rattle.keys.proofs.ItemLaws.{items_after_are}
use Rattle.merge.specs.Room.{price, ◌⊕◌, covers, nothing, one_expr, one_item, own_node}
use Rattle.merge.specs.Lowers.{Lowers, Lowering, Collecting}
use Rattle.merge.proofs.Allocs.{none_suit}
use Rattle.merge.proofs.Steps.{gave, as_step, fits, all_lower}
use Rattle.lower.specs.Sizes.{sized, below, sizes, place}
use Rattle.lower.specs.Reads.{HasParam, ident_of, owner_of, ellipsis_of, pattern_of, attrs_from}
use Rattle.lower.specs.Parts.{lower_at, merge_at, field_item, one}
use Rattle.lower.proofs.ChildLaws.{Children, HasChildren}
use Rattle.lower.specs.declared.reads.Param.{Param}
use Rattle.lower.proofs.SizeLaws.{own_and_below, heft_place, three_below, param_size}
use Rattle.lower.proofs.TurnLaws.{next}
use Rattle.lower.proofs.WaitLaws.{fields_back, fields_suit, pushed_giving, taken_from, all_collect}
use Rattle.lower.proofs.ExprLaws.{Opt, There}
use Rattle.lower.proofs.ListedLaws.{Allocated}
use Rattle.module.specs.declared.ids.NodeId as rust_node_id
use Rattle.module.specs.declared.ids.NameId as rust_name_id
use Rattle.std.specs.Prelude as rust

-- ---- the contracts that the laws are about
abbrev pub Named : ℕ → spec.NameKind → rust.Option rust_node_id.NodeId → List ℕ → Option NameId → List ℕ → Type 0
Named depth k p s r t = Lowering 0 (λ nodes. place nodes (node_of p)) nothing (λ nodes. lower_name nodes (lower_at depth nodes) (merge_at depth nodes) k (node_of p)) s r t

abbrev pub Fields : ℕ → rust.Option rust_node_id.NodeId → List ℕ → List ℕ → Type 0
Fields depth p s t =
    Collecting 0 (λ nodes. sizes nodes (attrs_from nodes 1 (node_of p))) nothing (map field_item) (λ nodes. each (lower_field nodes (lower_at depth nodes) (merge_at depth nodes)) (attrs_from nodes 1 (node_of p))) s t

-- ---- a field: its name, then its default
pub field_lowers : (depth n : ℕ) (at : Children) (x : rust.Option rust_name_id.NameId) (d : rust.Option code_expr.ExprId) {s u v t : List ℕ} → HasChildren (nodes_of s) n at → Named depth (kind_of name_kind_lem.PatField) at.first s (name_of x) u → There depth at.second u (expr_of d) v
    → Did (push_item (item_with (text_in v) (code_item.Field x d))) v tt t
    → Collecting 0 (λ nodes. sized nodes n) nothing (one field_item) (λ nodes. lower_field nodes (lower_at depth nodes) (merge_at depth nodes) n) s t
unfolding lower_field kind_of field_item one item_with covers ◌⊕◌ price nothing one_item
field_lowers depth n at x d {s} h a b i =
    all_collect (one field_item) {r = (name_of x, expr_of d)}
    (rw (← h.first, ← h.second)
    (fits 1 (λ w. omega (arith, own_and_below w n, three_below w h)) refl
    (next _ (a.at _ _) (next (λ e. give (name_of x, e)) (b.at _ _) (pushed_giving _ (name_of x, expr_of d) i)))))

-- ---- the parameter, as the code takes it: the Ident, the fields, and what the expression says of the pattern
unfoldable pat_of : Option Bool → List (Option NameId × Option ExprId) → Option Pat
pat_of none fs = none
pat_of (some b) fs = some (record { fields = fs; ellipsis = b })

pattern_back : (p : Pattern) (fs : List (Option NameId × Option ExprId)) → pattern_with p (map field_item fs) ≡ pat_of (pattern_of p) fs
unfolding pattern_with pattern_of pat_of pattern
pattern_back Absent fs = refl
pattern_back Closed fs = rw (fields_back fs)
pattern_back Ellipsis fs = rw (fields_back fs)

module _ (nodes : List Node) (lower : NodeId → Low ExprId) (merge : SetId → NodeId → Low (Unit {0})) where
  unfoldable param_as : Option NodeId → Option NodeId → Option Bool → Low (Option NameId × Option Pat)
  param_as ident owner ellipsis = do
    x ← lower_name nodes lower merge spec.Param ident
    fs ← each (lower_field nodes lower merge) (attrs_from nodes 1 owner)
    give (x, pat_of ellipsis fs)

  param_as_lem : (p : Option NodeId) (st : State) → ◌≡◌ {A = (Option NameId × Option Pat) × State} (param_as (ident_of nodes p) (owner_of nodes p) (ellipsis_of nodes p) st) (lower_param nodes lower merge p st)
  unfolding param_as ident_of owner_of ellipsis_of attrs_from lower_param lower_pattern lower_name each ◌>>=◌ give pat_of when
  param_as_lem none st = refl
  param_as_lem (some n) st = go (eqb (kind nodes n) 28)
    where
      go : (b : Bool) → ◌≡◌ {A = (Option NameId × Option Pat) × State}
          (param_as (if b then kid nodes 0 n else kid_of nodes 0 (kid nodes 0 n)) (if b then none else some n) (if b then none else some (eqb (flag nodes n) 1)) st)
          (when b (lower_name nodes lower merge spec.Param (kid nodes 0 n) >>= λ x. give (x, none)) (lower_pattern nodes lower merge n) st)
      go true = refl
      go false = rw (items_after_are nodes n)

-- where there is no pattern there is no node that owns fields
no_owner : (nodes : List Node) (p : Option NodeId) → none ≡ ellipsis_of nodes p → owner_of nodes p ≡ none
unfolding ellipsis_of owner_of
no_owner nodes none e = refl
no_owner nodes (some n) e = go (eqb (kind nodes n) 28) e
  where
    go : (b : Bool) → none ≡ (if b then none else some (eqb (flag nodes n) 1)) → (if b then none else some n) ≡ none
    go true h = refl
    go false h = let z : ◌≡◌ {A = ℕ} 0 1 = cc in absurd (omega arith)

-- the fields that the code leaves waiting, read from the store u on
abbrev fields_from : ℕ → List Node → rust.Option rust_node_id.NodeId → List ℕ → List (Option NameId × Option ExprId)
fields_from depth nodes owner u = (each (lower_field nodes (lower_at depth nodes) (merge_at depth nodes)) (attrs_from nodes 1 (node_of owner)) (state_of u)).0

no_fields : (depth : ℕ) (nodes : List Node) (owner : rust.Option rust_node_id.NodeId) (u : List ℕ) → node_of owner ≡ none → fields_from depth nodes owner u ≡ []
unfolding attrs_from each give
no_fields depth nodes owner u e = ap (λ (o : Option NodeId). (each (lower_field nodes (lower_at depth nodes) (merge_at depth nodes)) (attrs_from nodes 1 o) (state_of u)).0) e

absent_none : (q : Pattern) → Absent ≡ q → none ≡ pattern_of q
unfolding pattern_of
absent_none q e = rw (← e)

-- a pattern, closed or with an ellipsis, may have fields
with_fields : (q : Pattern) (m : rust.Option rust_name_id.NameId) → (q ≡ Closed) ⊎ (q ≡ Ellipsis) → (xs : List (Option NameId × Option ExprId)) → suits (lambda_sort m q) (map field_item xs) ≡ true
unfolding lambda_sort tag_fits
with_fields q rust.None (inl e) xs = rw e (fields_suit 11 xs refl)
with_fields q (rust.Some x) (inl e) xs = rw e (fields_suit 12 xs refl)
with_fields q rust.None (inr e) xs = rw e (fields_suit 13 xs refl)
with_fields q (rust.Some x) (inr e) xs = rw e (fields_suit 14 xs refl)

module _ (depth : ℕ) (s : List ℕ) (p : Option NodeId) (x : Param) (g : HasParam (nodes_of s) p x) where
  as_param : (st : State) → ◌≡◌ {A = (Option NameId × Option Pat) × State}
      (param_as (nodes_of s) (lower_at depth (nodes_of s)) (merge_at depth (nodes_of s)) (node_of x.ident) (node_of x.owner) (pattern_of x.pattern) st)
      (lower_param (nodes_of s) (lower_at depth (nodes_of s)) (merge_at depth (nodes_of s)) p st)
  as_param st = rw (g.ident, g.owner, g.pattern) (param_as_lem (nodes_of s) (lower_at depth (nodes_of s)) (merge_at depth (nodes_of s)) p st)

  -- a Lambda may have the fields of its pattern, and without one there are none
  param_suits : (name : rust.Option rust_name_id.NameId) (body : code_expr.ExprId) (u : List ℕ) → suits (sort_for (Lambda name x.pattern body)) (map field_item (fields_from depth (nodes_of s) x.owner u)) ≡ true
  unfolding sort_for
  param_suits name body u = go x.pattern refl name
    where
      none_there : Absent ≡ x.pattern → fields_from depth (nodes_of s) x.owner u ≡ []
      none_there e = no_fields depth (nodes_of s) x.owner u (g.owner ∙ no_owner (nodes_of s) p (absent_none x.pattern e ∙ g.pattern))

      go : (q : Pattern) → q ≡ x.pattern → (m : rust.Option rust_name_id.NameId) → suits (lambda_sort m q) (map field_item (fields_from depth (nodes_of s) x.owner u)) ≡ true
      go Absent e m = rw (none_there e) (none_suit (lambda_sort m Absent))
      go Closed e m = with_fields Closed m (inl refl) (fields_from depth (nodes_of s) x.owner u)
      go Ellipsis e m = with_fields Ellipsis m (inr refl) (fields_from depth (nodes_of s) x.owner u)

  param_lowers : (name : rust.Option rust_name_id.NameId) {u v : List ℕ} → Named depth spec.Param x.ident s (name_of name) u → Fields depth x.owner u v
      → Lowers (nodes_of s) (waiting_of s) (waiting_of s ++ map field_item (fields_from depth (nodes_of s) x.owner u)) 0
      (place (nodes_of s) (node_of x.ident) + (sizes (nodes_of s) (attrs_from (nodes_of s) 1 (node_of x.owner)) + 0)) (nothing ⊕ (nothing ⊕ nothing))
      (lower_param (nodes_of s) (lower_at depth (nodes_of s)) (merge_at depth (nodes_of s)) p) s
      (name_of name, pattern_with x.pattern (map field_item (fields_from depth (nodes_of s) x.owner u))) v
  unfolding param_as
  param_lowers name {u} a fs =
      rw (pattern_back x.pattern (fields_from depth (nodes_of s) x.owner u))
      (as_step (λ _. as_param (state_of s)) (next _ (a.at _ _) (next (λ l. give (name_of name, pat_of (pattern_of x.pattern) l)) (fs.at _ _) (gave _))))

-- ---- the whole
module _ (depth n base : ℕ) (at : Children) {s u v w t : List ℕ} {r : ℕ} where
  pub lambda_lowers : (x : Param) (name : rust.Option rust_name_id.NameId) (body : code_expr.ExprId) → base ≡ length (waiting_of s) → HasChildren (nodes_of s) n at → HasParam (nodes_of s) (node_of at.first) x
      → Named depth (kind_of name_kind_lem.Param) x.ident s (name_of name) u → Fields depth x.owner u v → Opt depth at.second v body.0 w → Allocated (Lambda name x.pattern body) (pointer_of at.pointer) base w r t
      → Lowering 0 (below n) own_node (λ nodes. lower_lambda nodes (lower_at depth nodes) (merge_at depth nodes) n) s r t
  unfolding lower_lambda kind_of alloc_expr expr_made expr_with covers ◌⊕◌ price nothing one_expr own_node
  lambda_lowers x name body b h g a fs y d =
      all_lower
      (rw (← h.first, ← h.second, ← h.pointed)
      (fits 0 (λ z. omega (arith, three_below z h, param_size z g, heft_place (nodes_of s) (node_of at.second))) refl
      (next _ (param_lowers depth s (node_of at.first) x g name a fs) (next _ (y.at _ _) (taken_from s (Lambda name x.pattern body) (pointer_of at.pointer) _ (param_suits depth s (node_of at.first) x g name body u) b d)))))
