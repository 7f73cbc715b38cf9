-- "A store as .. an accepted change left it is never 22 or 23." Of the bytes. Assumes nothing.
use mathlib.Core.Path.{◌≡◌, refl, sym, ◌∙◌}
use mathlib.Core.List.{List}
use Prim.Native.Nat.{ℕ}
use native.Mathlib.Omega.{arith}
use Rattle.spec.specs.Basics.{Text}
use Rattle.spec.specs.Calls.{fit, Place}
use Rattle.layout.specs.Layout.{expr_count}
use Rattle.layout.specs.Regions.{changing}
use Rattle.layout.proofs.Frames.{number_kept}
use Rattle.soundness.specs.Sound.{condition_of}
use Rattle.soundness.proofs.ConditionLaws.{fit_of, fit_long, fit_loaded}
use Rattle.put_text.specs.Changed.{Changes}

-- THEOREM. A change leaves a fit store fit.
pub changed_sound : {p : Place} {bytes : Text} {s b t c : List ℕ} → Changes p bytes s b t c → condition_of s ≡ fit → condition_of t ≡ fit
unfolding changing
changed_sound {s = s} {t = t} x e =
    fit_of t (omega (arith, fit_long s e, x.wrote.size)) x.leaves
    (λ z. fit_loaded s e (sym (number_kept x.wrote expr_count refl) ∙ z))
