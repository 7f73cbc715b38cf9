-- Bindings, functions and paths walked. Assumes nothing.
use mathlib.Core.Path.{subst}
use mathlib.Core.List.{List, [], ◌∷◌, ◌++◌}
use mathlib.Core.Option.{Option}
use Prim.Native.Nat.{ℕ}
use Rattle.spec.specs.Basics.{ExprId, NameId, ScopeId}
use Rattle.spec.specs.Steps.{◌>>=◌, give, each_of}
use Rattle.spec.specs.Module.{Module}
use Rattle.spec.specs.Scopes.{Walk, open_for, one_or_none, field_names, field_defaults, pat_fields, defined, traverse_bindings, traverse_lambda}
use Rattle.module.specs.declared.expr.Pattern.{Pattern}
use Rattle.layout.specs.Changes.{Wrote, Still}
use Rattle.layout.specs.Exprs.{Item, children, statics, bindings}
use Rattle.layout.proofs.Frames.{wrote_then}
use Rattle.layout.proofs.WriteLaws.{still_then}
use Rattle.rows.specs.Decoded.{pattern_with}
use Rattle.rows.specs.Readers.{items_at_expr}
use Rattle.kept.specs.Walks.{walking}
use Rattle.scopes.specs.declared.picks.Pass.TheVariants.{Children, Inherited, Values, Dynamics}
use Rattle.scopes.specs.Picking.{picked}
use Rattle.scopes.specs.Walking.{Walks, below, Follows}
use Rattle.scopes.proofs.Growth.{Grows, grows_give, grows_then, grows_each, grows_for, below_grows, for_lies}
use Rattle.scopes.proofs.Steps.{walks_then, walks_inside, walks_none, follows_then, one_child}
use Rattle.scopes.proofs.ItemLaws.{items_walked}

-- items that were handed on later are those that there were
later : (f : List Item → List ExprId) (e : ExprId) {scope : ScopeId} {s u t : List ℕ} → Wrote walking s u → Still s u → Follows e scope (f (items_at_expr u e)) u t → Follows e scope (f (items_at_expr s e)) u t
later f e {scope} {s} {u} {t} w still x = subst (λ (is : List Item). Follows e scope (f is) u t) (items_walked w still e) x

each_grows : (m : Module) (e : ExprId) (scope : ScopeId) (cs : List ExprId) → Grows (each_of (below m e scope) cs)
each_grows m e scope cs = grows_each (λ c. below_grows m e scope c) cs

-- children are walked, and then more is done
children_then : {A : Type 0} {e : ExprId} {scope : ScopeId} {cs : List ExprId} (q : Module → Walk A) {s u t : List ℕ} {a : A} → ((m : Module) → Grows (q m)) → Follows e scope cs s u → Walks scope q u a t
    → Walks scope (λ m. each_of (below m e scope) cs >>= λ _. q m) s a t
children_then {e = e} {scope} {cs} q g x y = walks_then (λ m. each_of (below m e scope) cs) (λ m _. q m) (λ m _. g m) x.all y

-- ---- bindings: after the scope is opened
module _ (e : ExprId) (is : List Item) where
  dynamics_part : Module → ScopeId → Walk ScopeId
  dynamics_part m i = each_of (below m e i) (picked Dynamics is) >>= λ _. give i

  sources_part : Module → ScopeId → Walk ScopeId
  sources_part m i = each_of (below m e i) (picked Children is) >>= λ _. dynamics_part m i

  values_part : Module → ScopeId → Walk ScopeId
  values_part m i = each_of (below m e i) (picked Values is) >>= λ _. sources_part m i

  dynamics_grow : (m : Module) (i : ScopeId) → Grows (dynamics_part m i)
  unfolding dynamics_part
  dynamics_grow m i = grows_then (each_grows m e i (picked Dynamics is)) (λ _. grows_give i)

  sources_grow : (m : Module) (i : ScopeId) → Grows (sources_part m i)
  unfolding sources_part
  sources_grow m i = grows_then (each_grows m e i (picked Children is)) (λ _. dynamics_grow m i)

  values_grow : (m : Module) (i : ScopeId) → Grows (values_part m i)
  unfolding values_part
  values_grow m i = grows_then (each_grows m e i (picked Values is)) (λ _. sources_grow m i)

  inside_walked : {i : ScopeId} {s u v t : List ℕ} → Follows e i (picked Values is) s u → Follows e i (picked Children is) u v → Follows e i (picked Dynamics is) v t → Walks i (λ m. values_part m i) s i t
  unfolding values_part sources_part dynamics_part
  inside_walked {i} {t = t} x y z =
      children_then (λ m. sources_part m i) (λ m. sources_grow m i) x
      (children_then (λ m. dynamics_part m i) (λ m. dynamics_grow m i) y
      (children_then (λ m. give i) (λ m. grows_give i) z (walks_none i t)))

pub bindings_walked : (e : ExprId) {scope i : ScopeId} {s s1 s2 s3 s4 t : List ℕ} → Follows e scope (picked Inherited (items_at_expr s e)) s s1
    → Walks scope (λ m. open_for (defined m (statics (items_at_expr s1 e))) scope) s1 i s2
    → Follows e i (picked Values (items_at_expr s2 e)) s2 s3 → Follows e i (picked Children (items_at_expr s3 e)) s3 s4 → Follows e i (picked Dynamics (items_at_expr s4 e)) s4 t
    → Walks scope (λ m. traverse_bindings m (below m e) (bindings (items_at_expr s e)) scope) s i t
unfolding picked bindings traverse_bindings values_part sources_part dynamics_part
bindings_walked e {scope} {i} {s} {s1} {s2} {s3} {s4} {t} a o v c d =
    let is = items_at_expr s e in
    let w1 = a.all.wrote in
    let l1 = a.all.still in
    let w2 = wrote_then w1 o.wrote in
    let l2 = still_then l1 o.still in
    let w3 = wrote_then w2 v.all.wrote in
    let l3 = still_then l2 v.all.still in
    let w4 = wrote_then w3 c.all.wrote in
    let l4 = still_then l3 c.all.still in
    let o' : Walks scope (λ m. open_for (defined m (statics is)) scope) s1 i s2 = subst (λ (js : List Item). Walks scope (λ m. open_for (defined m (statics js)) scope) s1 i s2) (items_walked w1 l1 e) o in
    let rest = inside_walked e is (later (picked Values) e w2 l2 v) (later (picked Children) e w3 l3 c) (later (picked Dynamics) e w4 l4 d) in
    children_then (λ m. open_for (defined m (statics is)) scope >>= values_part e is m)
    (λ m. grows_then (grows_for (defined m (statics is)) scope) (λ i. values_grow e is m i))
    a
    (walks_inside (λ m. open_for (defined m (statics is)) scope) (values_part e is) (λ m. for_lies (defined m (statics is)) scope) (values_grow e is) o' rest)

-- ---- a function
pub lambda_walked : (e : ExprId) (x : Option NameId) (p : Pattern) {b : ExprId} {scope i : ScopeId} {s s1 s2 t : List ℕ}
    → Walks scope (λ m. open_for (one_or_none x ++ field_names (pat_fields (pattern_with p (items_at_expr s e)))) scope) s i s1
    → Follows e i (field_defaults (pat_fields (pattern_with p (items_at_expr s1 e)))) s1 s2 → Follows e i (b ∷ []) s2 t
    → Walks scope (λ m. traverse_lambda m (below m e) x (pattern_with p (items_at_expr s e)) b scope) s tt t
unfolding traverse_lambda
lambda_walked e x p {b} {scope} {i} {s} {s1} {s2} {t} o d c =
    let pat = pattern_with p (items_at_expr s e) in
    let ds = field_defaults (pat_fields pat) in
    let d' = later (λ is. field_defaults (pat_fields (pattern_with p is))) e o.wrote o.still d in
    let c' : Walks i (λ m. below m e i b) s2 tt t = one_child c in
    walks_inside (λ m. open_for (one_or_none x ++ field_names (pat_fields pat)) scope) (λ m i. each_of (below m e i) ds >>= λ _. below m e i b)
    (λ m. for_lies (one_or_none x ++ field_names (pat_fields pat)) scope)
    (λ m i. grows_then (each_grows m e i ds) (λ _. below_grows m e i b))
    o
    (children_then (λ m. below m e i b) (λ m. below_grows m e i b) d' c')

-- ---- the set, the path and the default of a Select
pub path_walked : (e : ExprId) {set : ExprId} (d : Option ExprId) {scope : ScopeId} {s u v t : List ℕ} → Follows e scope (set ∷ []) s u → Follows e scope (picked Children (items_at_expr u e)) u v
    → Follows e scope (one_or_none d) v t → Follows e scope (set ∷ (children (items_at_expr s e) ++ one_or_none d)) s t
unfolding picked
path_walked e d x y z = follows_then x (follows_then (later children e x.all.wrote x.all.still y) z)
