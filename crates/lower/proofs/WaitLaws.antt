-- Items that wait for their expression, and what the expression makes of them. Assumes nothing.
use mathlib.Core.Path.{◌≡◌, refl, sym, ap, ◌∙◌}
use mathlib.Core.Bool.{true}
use mathlib.Core.List.{List, [], ◌∷◌, ◌++◌, map}
use mathlib.Core.Option.{Option}
use Prim.Native.Nat.{ℕ}
use lib.ListN.{length}
use Rattle.spec.specs.Basics.{NameId, ExprId}
use Rattle.spec.specs.Sheet.{Node}
use Rattle.spec.specs.Module.{Pointer, InterpolPart, literal_part, interpol}
use Rattle.spec.specs.Steps.{give}
use Rattle.spec.specs.State.{Low, new_made}
use Rattle.layout.specs.Exprs.{Item, child, children, parts, fields}
use Rattle.layout.specs.Nodes.{nodes_of}
use Rattle.layout.specs.States.{state_of, waiting_of}
use Rattle.module.specs.declared.expr.Expr as code
use Rattle.store.specs.Codes.{sort_for, expr_made}
use Rattle.store.specs.Work.{Did, Takes, push_item, tag_for, suits}
use Rattle.merge.specs.Room.{Price, one_expr, one_item}
use Rattle.merge.specs.Lowers.{Setting, Lowered, Lowers, Collecting}
use Rattle.soundness.specs.Sound.{tag_fits}
use Rattle.merge.proofs.Items.{suits_map}
use Rattle.merge.proofs.Allocs.{taken, pushed}
use Rattle.lower.specs.Parts.{part_item, field_item}

-- ---- a list that waited is the list again
pub children_back : (es : List ExprId) → children (map child es) ≡ es
unfolding children
children_back [] = refl
children_back (e ∷ es) = ap (λ z. e ∷ z) (children_back es)

pub parts_back : (ps : List InterpolPart) → parts (map part_item ps) ≡ ps
unfolding parts part_item
parts_back [] = refl
parts_back (literal_part t ∷ ps) = ap (λ z. literal_part t ∷ z) (parts_back ps)
parts_back (interpol e ∷ ps) = ap (λ z. interpol e ∷ z) (parts_back ps)

pub fields_back : (xs : List (Option NameId × Option ExprId)) → fields (map field_item xs) ≡ xs
unfolding fields field_item
fields_back [] = refl
fields_back (x ∷ xs) = ap (λ z. x ∷ z) (fields_back xs)

-- ---- and an expression may have it
pub children_suit : (sort : ℕ) (es : List ExprId) → tag_fits sort 0 ≡ true → suits sort (map child es) ≡ true
unfolding tag_for
children_suit sort es h = suits_map sort child (λ e. h) es

pub parts_suit : (sort : ℕ) (ps : List InterpolPart) → tag_fits sort 0 ≡ true → tag_fits sort 1 ≡ true → suits sort (map part_item ps) ≡ true
unfolding part_item tag_for
parts_suit sort ps h k = suits_map sort part_item one ps
  where
    one : (p : InterpolPart) → tag_fits sort (tag_for (part_item p)) ≡ true
    one (literal_part t) = k
    one (interpol e) = h

pub fields_suit : (sort : ℕ) (xs : List (Option NameId × Option ExprId)) → tag_fits sort 2 ≡ true → suits sort (map field_item xs) ≡ true
unfolding field_item tag_for
fields_suit sort xs h = suits_map sort field_item (λ x. h) xs

-- ---- an item that waits, beside the result that it stands for
pub pushed_giving : {A : Type 0} {nodes : List Node} {w : List Item} {top : ℕ} (i : Item) (a : A) {s t : List ℕ} → Did (push_item i) s tt t → Lowers nodes w (w ++ (i ∷ [])) top 0 one_item (give a) s a t
unfolding give
pushed_giving {A} {nodes} {w} {top} i a {s} {t} d =
    let x : Lowers {A = Unit {0}} nodes w (w ++ (i ∷ [])) top 0 one_item (give tt) s tt t = pushed i d in
    record {
      wrote = x.wrote;
      still = x.still;
      does = λ c. let l = x.does c in record { same = ap (λ z. (a, z.1)) l.same; waits = l.waits; ready = l.ready; spent = l.spent; grows = l.grows };
    }

-- An expression that takes the items that wait behind those which waited at the beginning.
pub taken_from : {nodes : List Node} (s : List ℕ) {top : ℕ} (e : code.Expr) (p : Pointer) (is : List Item) {base : ℕ} {u t : List ℕ} {r : ℕ} → suits (sort_for e) is ≡ true → base ≡ length (waiting_of s) → Takes (sort_for e) (expr_made u e p) base u r t
    → Lowers nodes (waiting_of s ++ is) (waiting_of s) top 0 one_expr (new_made (expr_made u e p is)) u r t
taken_from s e p is {u = u} fit b d = taken (sort_for e) (expr_made u e p) is fit (λ _. b) d

-- ---- from the store's own nodes and items to any, where the items that the step leaves stand for its result
pub all_collect : {A : Type 0} {top : ℕ} {m : List Node → ℕ} {own : Price} (items : A → List Item) {p : List Node → Low A} {s t : List ℕ} {r : A}
    → Lowers (nodes_of s) (waiting_of s) (waiting_of s ++ items r) top (m (nodes_of s)) own (p (nodes_of s)) s r t → Collecting top m own items p s t
all_collect {A} {top} {m} {own} items {p} {s} {t} {r} x = record { at = λ nodes w. record { wrote = x.wrote; still = x.still; does = λ c. go nodes w c } }
  where
    given : Setting (nodes_of s) (waiting_of s) top (m (nodes_of s)) own s
        → Lowered (waiting_of s ++ items (p (nodes_of s) (state_of s)).0) (m (nodes_of s)) own (p (nodes_of s)) s (p (nodes_of s) (state_of s)).0 t
    given c =
        let l = x.does c in
        let q : r ≡ (p (nodes_of s) (state_of s)).0 = ap (λ z. z.0) l.same in
        record { same = ap (λ z. (z, state_of t)) (sym q) ∙ l.same; waits = l.waits ∙ ap (λ z. waiting_of s ++ items z) q; ready = l.ready; spent = l.spent; grows = l.grows }

    go : (nodes : List Node) (w : List Item) → Setting nodes w top (m nodes) own s → Lowered (w ++ items (p nodes (state_of s)).0) (m nodes) own (p nodes) s (p nodes (state_of s)).0 t
    go nodes w c = rw (← c.nodes_are, ← c.waiting_are) (given (rw (c.nodes_are, c.waiting_are) c))
