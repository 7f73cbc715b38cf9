-- Which of the built-in names a text is.
use Rattle.std.specs.Prelude as rust
use Rattle.std.specs.Prelude.{◌≡◌, ℕ, ◌<◌, Some, None}
use Rattle.std.proofs.Math.Option.{Option, none, some}
use Rattle.spec.specs.Basics.{Text}
use Rattle.spec.specs.Answer.{builtins, index_from}

unfoldable pub builtin_of : rust.Option ℕ → Option ℕ
builtin_of (Some i) = some i
builtin_of None = none

-- the answer for a text, and that its number is one of the table
pub record Looked (r : rust.Option ℕ) (t : Text) : Type 0 where
  pub is : builtin_of r ≡ index_from 0 t builtins
  pub low : (i : ℕ) → builtin_of r ≡ some i → i < 22
