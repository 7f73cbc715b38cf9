-- What is known of a module that was lowered, and of one of its expressions. Assumes nothing.
use mathlib.Core.Path.{◌≡◌}
use mathlib.Core.List.{List}
use Prim.Native.Nat.{ℕ, ◌<◌}
use lib.ListN.{length}
use Rattle.spec.specs.Basics.{ExprId}
use Rattle.spec.specs.Sheet.{Node, accepted}
use Rattle.spec.specs.Tree.{judge}
use Rattle.spec.specs.Module.{Expr, Module}
use Rattle.spec.specs.Lower.{lower_module}
use Rattle.spec.specs.Scopes.{form, expr_at}
use Rattle.spec.specs.Kept.{Kept, kept_of, loaded}
use Rattle.spec.proofs.sound.Operators.{OperatorIn, operators_in}
use Rattle.spec.proofs.sound.Ordered.{AllBelow}
use Rattle.spec.proofs.sound.Numbers.{expr_numbers, name_numbers, Row}
use Rattle.spec.proofs.sound.Sound.{Sound, lowered_sound}

-- ---- a module
-- its part of what is sound, and its operators
pub record SoundModule (m : Module) : Type 0 where
  pub entry : m.entry < length m.exprs
  pub children : (e : ExprId) → AllBelow e (expr_numbers (form (expr_at m e)))
  pub rows : (e : ExprId) → Row (length m.names) e m.exprs (form (expr_at m e))
  pub operators : (e : ExprId) → OperatorIn (expr_at m e)

pub module_of_lem : (k : Kept) → Sound k → ((e : ExprId) → OperatorIn (expr_at k.lowered e)) → SoundModule k.lowered
module_of_lem k h operators = record { entry = h.entry; children = h.children; rows = h.rows; operators = operators }

-- so is what an accepted sheet is lowered to
pub accepted_module : (sheet : List ℕ) (nodes : List Node) → judge sheet ≡ accepted nodes → SoundModule (lower_module nodes)
unfolding loaded kept_of
accepted_module sheet nodes h = module_of_lem (loaded nodes) (lowered_sound nodes) (operators_in sheet nodes h)

-- ---- one expression
-- the numbers of an expression, where it has the number e and there are n names
pub record InRow (e n : ℕ) (x : Expr) : Type 0 where
  pub children : AllBelow e (expr_numbers (form x))
  pub names : AllBelow n (name_numbers (form x))
  pub operator : OperatorIn x

pub in_row : (m : Module) → SoundModule m → (e : ExprId) → InRow e (length m.names) (expr_at m e)
in_row m h e = record { children = h.children e; names = (h.rows e).names; operator = h.operators e }
