-- Steps that follow one another with the same sets open. Assumes nothing.
use mathlib.Core.List.{List}
use Prim.Native.Nat.{ℕ, ◌+◌}
use native.Mathlib.Omega.{arith}
use Rattle.spec.specs.Sheet.{Node}
use Rattle.spec.specs.Steps.{◌>>=◌}
use Rattle.spec.specs.State.{Low}
use Rattle.layout.specs.Exprs.{Item}
use Rattle.merge.specs.Room.{Price, ◌⊕◌}
use Rattle.merge.specs.Lowers.{Lowers}
use Rattle.merge.proofs.Steps.{then_open}

pub next : {A B : Type 0} {nodes : List Node} {w w' w'' : List Item} {top m m' : ℕ} {own own' : Price} {p : Low A} (f : A → Low B) {s u t : List ℕ} {a : A} {r : B}
    → Lowers nodes w w' top m own p s a u → Lowers nodes w' w'' top m' own' (f a) u r t → Lowers nodes w w'' top (m + m') (own ⊕ own') (p >>= f) s r t
next f x y = then_open f x (λ c l. omega (arith, c.opened, l.grows)) y
