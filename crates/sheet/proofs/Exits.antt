-- How a function leaves by `?`. Assumes nothing.
use Rattle.std.specs.Prelude.{Option, Some, None, Result, Err}
use Rattle.std.specs.Result.{IsErrAnd}
use Rattle.std.specs.Option.{ok_or}
use Rattle.std.proofs.lemmas.Result.{err_from_is_err_and}
use mathlib.Core.Path.{◌≡◌, refl, ap, ◌∙◌}
use Prim.Native.Nat.{ℕ}
use native.Mathlib.Omega.{arith}

-- with the error as it came
pub same_error : {T E : Type 0} (r : Result T E) (x : E) → IsErrAnd r (λ y. y ≡ x) → r ≡ Err x
same_error r x h = let p = err_from_is_err_and r h in p.1 ∙ ap Err p.2

-- because nothing was there
pub nothing : {T E : Type 0} (o : Option T) (e x : E) → Err x ≡ ok_or o e → (o ≡ None) × (x ≡ e)
nothing None e x h = (refl, cc)
nothing (Some y) e x h = let z : ◌≡◌ {A = ℕ} 0 1 = cc in absurd (omega arith)
