-- Steps that ask for open sets, and steps of which more is known where they begin. Assumes nothing.
use mathlib.Core.List.{List}
use Prim.Native.Nat.{ℕ, ◌≤◌}
use native.Mathlib.Omega.{arith}
use lib.ListN.{length}
use Rattle.spec.specs.Sheet.{Node}
use Rattle.spec.specs.State.{Low}
use Rattle.layout.specs.Changes.{Wrote, Still}
use Rattle.layout.specs.Exprs.{Item}
use Rattle.layout.specs.States.{sets_of}
use Rattle.store.specs.Work.{lowering}
use Rattle.merge.specs.Room.{Price}
use Rattle.merge.specs.Lowers.{Setting, Lowers}

module _ {nodes : List Node} where
  -- a step of which more is known where it begins
  pub in_setting : {A : Type 0} {w w' : List Item} {top m : ℕ} {own : Price} {p : Low A} {s t : List ℕ} {r : A}
      → Wrote lowering s t → Still s t → (Setting nodes w top m own s → Lowers nodes w w' top m own p s r t) → Lowers nodes w w' top m own p s r t
  in_setting a b f = record { wrote = a; still = b; does = λ c. (f c).does c }

  -- the sets that a step asks for are open where it begins
  pub at_open : {A : Type 0} {w w' : List Item} {top top' m : ℕ} {own : Price} {p : Low A} {s t : List ℕ} {r : A}
      → (Setting nodes w top' m own s → top ≤ length (sets_of s)) → Lowers nodes w w' top m own p s r t → Lowers nodes w w' top' m own p s r t
  at_open h x = record {
    wrote = x.wrote;
    still = x.still;
    does = λ c.
        x.does (record { weighs = c.weighs; floats = c.floats; nodes_are = c.nodes_are; waiting_are = c.waiting_are; ready = c.ready; opened = h c; room = c.room });
  }

  pub with_open : {A : Type 0} {w w' : List Item} {top m : ℕ} {own : Price} {p : Low A} {s t : List ℕ} {r : A} (top' : ℕ)
      → top ≤ top' → Lowers nodes w w' top m own p s r t → Lowers nodes w w' top' m own p s r t
  with_open top' h x = at_open (λ c. omega (arith, c.opened)) x
