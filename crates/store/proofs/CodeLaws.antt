-- Rows of literals. Assumes nothing.
use mathlib.Core.Path.{◌≡◌, ap, ◌∙◌}
use Prim.Native.Nat.{ℕ, ◌+◌, ◌*◌}
use borrow.Author.Tests.{le-leb}
use Rattle.module.specs.Literals.{float_bits, nat_of, literal_of, Valid, Unsigned, NotNegative}
use Rattle.module.specs.declared.literal.Literal.{Literal}
use Rattle.module.specs.declared.literal.Literal.TheVariants.{Float, Integer}
use Rattle.module.specs.declared.expr.Expr.TheVariants as expr
use lib.IntN.{ℤ}
use mir.Syntax.{w64}
use mir.Val.{to_z, of_z}
use Rattle.module.proofs.LiteralLaws.{unsigned_in, not_negative_in, integer_back}
use Rattle.rows.specs.declared.row.Row.{Row}
use Rattle.rows.specs.Decoded.{expr_with}
use Rattle.store.specs.Codes.{literal_sort, sort_for, ranged, Says}
use Rattle.layout.specs.Exprs.{expr_of, wide, float_or, integer_or}

pub float_says : (l : Literal) (r : Row) (x : _) → l ≡ Float x → Valid l → r.sort ≡ 4 → r.a * 4294967296 + r.b ≡ float_bits x → Says r (expr.Literal l)
unfolding expr_of expr_with literal_of float_or wide Unsigned sort_for literal_sort ranged
float_says l r x e v s h =
    let u = unsigned_in l x e v in
    let low = le-leb (float_bits x) 9218868437227405312 u in
    rw e (record { pointed = rw s; same = λ st is. rw (s, h, low); sort_is = s; in_range = rw (s, h, low) })

pub integer_says : (l : Literal) (r : Row) (n m : ℤ) (v : ℕ) → l ≡ Integer n → Valid l → r.sort ≡ 5 → r.a * 4294967296 + r.b ≡ v → v ≡ nat_of m → m ≡ to_z w64 (of_z w64 n) → Says r (expr.Literal l)
unfolding expr_of expr_with literal_of integer_or wide NotNegative sort_for literal_sort ranged
integer_says l r n m v e h s p q b =
    let u = not_negative_in l n e h in
    let w : r.a * 4294967296 + r.b ≡ nat_of n = p ∙ q ∙ ap nat_of (b ∙ integer_back n u) in
    let low = le-leb (nat_of n) 9223372036854775807 u.1 in
    rw e (record { pointed = rw s; same = λ st is. rw (s, w, low); sort_is = s; in_range = rw (s, w, low) })
