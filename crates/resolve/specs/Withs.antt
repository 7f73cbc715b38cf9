-- The Withs around a scope or an expression, counted and listed.
use Rattle.std.specs.Prelude.{◌≡◌, Bool, true, false, List, [], ◌∷◌, ℕ, ◌*◌, ◌≤◌, ◌<◌, length}
use Rattle.spec.specs.Basics.{ExprId}
use Rattle.layout.specs.Rows.{set_all}

-- whether a list has any
unfoldable pub some_of : List ExprId → Bool
some_of [] = false
some_of (e ∷ es) = true

-- How many there are, r, was told; they stand in the buffer b, which is c now, as numbers of four bytes, if it has room
-- for all of them.
pub record Lists (es : List ExprId) (b : List ℕ) (r : ℕ) (c : List ℕ) : Type 0 where
  pub count : r ≡ length es
  pub wrote : 4 * length es ≤ length b → c ≡ set_all b 0 es
  pub kept : length b < 4 * length es → c ≡ b
