-- The last steps of an IfElse: after its third part it adds one expression, its own. Assumes nothing.
use mathlib.Core.List.{List}
use Prim.Native.Nat.{ℕ, ◌+◌}
use native.Mathlib.Omega.{arith}
use Rattle.spec.specs.Basics.{ExprId}
use Rattle.spec.specs.Module.{Pointer, if_then_else}
use Rattle.spec.specs.Steps.{◌>>=◌}
use Rattle.spec.specs.State.{MergingSet, MergingEntry, Low, alloc_expr}
use Rattle.spec.proofs.steps.Adds.{Adds, adds_more, adds_then, adds_expr}

pub if_last : {ss : List MergingSet} {es : List MergingEntry} {y : ℕ} (c t : ExprId) (p : Pointer) {e x : ℕ} {third : Low ExprId}
    → Adds ss es y e x third → Adds ss es y (e + 1) x (third >>= λ z. alloc_expr (if_then_else c t z) p)
if_last c t p h = adds_more _ _ (omega arith) (omega arith) (adds_then h λ z. adds_expr _ _)
