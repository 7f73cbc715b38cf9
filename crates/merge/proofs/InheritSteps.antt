-- What an inherited key is bound to. Assumes nothing.
use mathlib.Core.Path.{◌≡◌, refl}
use mathlib.Core.List.{List, [], ◌∷◌}
use mathlib.Core.Option.{none, some}
use Prim.Native.Nat.{ℕ}
use native.Mathlib.Omega.{arith}
use lib.ListN.{length}
use Rattle.spec.specs.Module as spec
use Rattle.spec.specs.Steps.{◌>>=◌, give}
use Rattle.spec.specs.State.{alloc_expr}
use Rattle.spec.specs.Merge.{inherit_value}
use Rattle.module.specs.declared.expr.Expr.TheVariants as code
use Rattle.module.specs.declared.literal.Literal.TheVariants as literals
use Rattle.module.specs.declared.ids.ExprId.{ExprId}
use Rattle.module.specs.declared.ids.TextId.{TextId}
use Rattle.module.specs.Ids.{expr_of}
use Rattle.module.specs.Literals.{literal_of}
use Rattle.layout.specs.Texts.{text_in}
use Rattle.layout.specs.Exprs.{child, children}
use Rattle.layout.specs.States.{waiting_of}
use Rattle.rows.specs.Decoded.{expr_with}
use Rattle.store.specs.Codes.{select_sort, sort_for, expr_made}
use Rattle.soundness.specs.Sound.{tag_fits}
use Rattle.store.specs.Work.{Did, Takes, push_item, tag_for, suits}
use Rattle.merge.specs.Room.{price, nothing, ◌⊕◌, covers, one_expr, one_item}
use Rattle.merge.specs.Merges.{inherit_price, Inherits}
use Rattle.merge.proofs.Steps.{then, gave, as_step, fits, all_lower}
use Rattle.merge.proofs.Allocs.{taken, taken_lone, pushed}
use Rattle.std.specs.Prelude as rust

pub inherits_plain : (key : TextId) (p : spec.Pointer) {base : ℕ} {s : List ℕ} {r : ℕ} {t : List ℕ} → base ≡ length (waiting_of s) → Takes (sort_for (code.Reference key)) (expr_made s (code.Reference key) p) base s r t → Inherits none (text_in s key.0) p s (spec.inherit r) t
unfolding inherit_value alloc_expr expr_made expr_with one_expr nothing inherit_price price ◌⊕◌ covers
inherits_plain key p {s = s} {r = r} b d = record {
  at = λ lower merge. record { at = λ nodes w. fits 0 (λ h. omega arith) refl (then {top' = 0} (λ e. give (spec.inherit e)) (omega arith) (taken_lone (sort_for (code.Reference key)) (expr_made s (code.Reference key) p) b d) (gave (spec.inherit r))) };
}

-- The literal waits as the one item of the Select.
pub inherits_from : (set : ExprId) (key : TextId) (p : spec.Pointer) {base : ℕ} {s u v : List ℕ} {l r : ℕ} {t : List ℕ} → base ≡ length (waiting_of s) → Takes (sort_for (code.Literal (literals.Text key))) (expr_made s (code.Literal (literals.Text key)) p) base s l u → Did (push_item (child l)) u tt v
    → Takes (sort_for (code.Select set rust.None)) (expr_made v (code.Select set rust.None) p) base v r t → Inherits (some set.0) (text_in s key.0) p s (spec.inherit_from r) t
unfolding inherit_value alloc_expr expr_made expr_with literal_of expr_of children suits tag_for tag_fits sort_for select_sort give ◌>>=◌ one_expr one_item nothing inherit_price price ◌⊕◌ covers
inherits_from set key p {s = s} {v = v} {l = l} {r = r} b first item second = record {
  at = λ lower merge. all_lower (
      fits 0 (λ h. omega arith) refl (
      then {top' = 0} (λ l. alloc_expr (spec.select set.0 (l ∷ []) none) p >>= λ e. give (spec.inherit_from e)) (omega arith) (taken_lone (sort_for (code.Literal (literals.Text key))) (expr_made s (code.Literal (literals.Text key)) p) b first) (
      as_step (λ c. refl) (
      then {top' = 0} (λ _. alloc_expr (spec.select set.0 (l ∷ []) none) p >>= λ e. give (spec.inherit_from e)) (omega arith) (pushed (child l) item) (
      then {top' = 0} (λ e. give (spec.inherit_from e)) (omega arith) (taken (sort_for (code.Select set rust.None)) (expr_made v (code.Select set rust.None) p) (child l ∷ []) refl (λ e. b) second) (gave (spec.inherit_from r)))))));
}
