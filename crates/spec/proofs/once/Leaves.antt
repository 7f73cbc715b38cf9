-- Lowering leaves the sets that are being merged around it as they were, whatever the nodes. Assumes nothing.
use mathlib.Core.Path.{◌≡◌, refl}
use mathlib.Core.List.{List, []}
use mathlib.Core.Option.{Option}
use Prim.Native.Nat.{ℕ}
use native.Mathlib.Omega.{arith}
use Rattle.spec.specs.Basics.{NodeId, ExprId}
use Rattle.spec.specs.Sheet.{Node}
use Rattle.spec.specs.Steps.{◌>>=◌}
use Rattle.spec.specs.Module.{Pointer, NameKind}
use Rattle.spec.specs.State.{SetId, MergingEntry, State, Low, inner}
use Rattle.spec.specs.Merge.{new_nested, finish_expr, merge_nested_attr_value, desugar}
use Rattle.spec.specs.Lower.{lower_expr, merge_bindings}
use Rattle.spec.proofs.once.Weights.{Known, Scale, MakesWhere}
use Rattle.spec.proofs.once.Finishing.{expr_finishes}
use Rattle.spec.proofs.once.Linear.{inner_lowers, nested_merges, desugar_lowers, at_depth}

-- nothing weighs anything
abbrev pub weightless : Scale
weightless =
    record {
      lowered = record { entry = 0; exprs = []; names = []; diagnostics = []; lost = [] };
      of_name = λ _. 0;
      of_expr = λ _. 0;
      weight = λ _. 0;
      meets = λ e. omega arith;
    }

-- from a state to a state with the same sets and entries
abbrev pub Same : State → State → Type 0
Same st after = (after.entries ≡ st.entries) × (after.sets ≡ st.sets)

-- The two steps that merge sets of their own: the bindings of a let or a set, and the nested set of a key that is not
-- static.
pub record Leaves (nodes : List Node) (lower : NodeId → Low ExprId) (merge : SetId → NodeId → Low (Unit {0})) : Type 0 where
  pub bindings : (k : NameKind) (n : NodeId) (st : State) → Known st → Same st (desugar nodes lower merge k n st).1
  pub nested : (p : Pointer) (attr : NodeId) (more : List NodeId) (value : Option NodeId) (st : State) → Known st
      → Same st (inner (new_nested p >>= λ t. merge_nested_attr_value nodes lower merge t attr more value >>= λ _. finish_expr t) st).1

leaves : {A : Type 0} {w : A → ℕ} {p : Low A} → ((E : List MergingEntry) → MakesWhere weightless E 0 w p) → (st : State) → Known st → Same st (p st).1
leaves h st known = let m = (h st.entries).makes st refl known in (m.entries, m.sets)

-- THEOREM. Both leave all others as they were.
pub lowered_leaves : (nodes : List Node) (depth : ℕ) → Leaves nodes (λ m. lower_expr nodes depth m) (λ s m. merge_bindings nodes depth s m)
unfolding new_nested
lowered_leaves nodes depth =
    let h = at_depth weightless nodes depth in
    let lower : NodeId → Low ExprId = λ m. lower_expr nodes depth m in
    let merge : SetId → NodeId → Low (Unit {0}) = λ s m. merge_bindings nodes depth s m in
    record {
      bindings = λ k n. leaves (λ E. desugar_lowers nodes lower merge h.lowers h.merges E k n);
      nested = λ p attr more value. leaves
          (inner_lowers _ p (λ t. merge_nested_attr_value nodes lower merge t attr more value) finish_expr
          (λ t. nested_merges nodes lower merge h.lowers h.merges t attr more value) (expr_finishes weightless));
    }
