-- The number that a text says, and the literal that a Float or an Integer is.
use Rattle.std.specs.Prelude.{◌≡◌, List, [], ◌∷◌, ℕ, ◌+◌, ◌-◌, ◌*◌, min, eqb, leb, if◌then◌else◌}
use Rattle.std.proofs.Math.Option.{Option, none, some}
use Rattle.spec.specs.Basics.{NodeId}
use Rattle.spec.specs.Sheet.{Node, bits_from, value_from}
use Rattle.spec.specs.Keys.{flag, text, pointer}
use Rattle.spec.specs.Module as spec
use Rattle.spec.specs.Module.{float, integer}
use Rattle.spec.specs.State.{Low, alloc_expr, alloc_missing}
use Rattle.module.specs.Literals.{literal_of, Valid}
use Rattle.layout.specs.Texts.{text_in}
use Rattle.module.specs.declared.syntax_kind.SyntaxKind.{SyntaxKind}
use Rattle.module.specs.declared.syntax_kind.SyntaxKind.TheVariants as kind
use Rattle.module.specs.declared.literal.Literal as rust_literal
use Rattle.std.specs.Prelude as rust

-- ---- numbers whose value stops at 9,223,372,036,854,775,808
abbrev pub capped : ℕ → ℕ
capped v = min v 9223372036854775808

-- ---- literals
-- The literal of a Float: none for flag 0, and none for bits that are above infinity's, which no accepted sheet has.
unfoldable pub float_held : List Node → NodeId → Option spec.Literal
float_held nodes n =
    if eqb (flag nodes n) 1
    then (if leb (bits_from 0 (text nodes n)) 9218868437227405312 then some (float (bits_from 0 (text nodes n))) else none)
    else none

-- the literal of an Integer: none above 9223372036854775807
unfoldable pub integer_held : List Node → NodeId → Option spec.Literal
integer_held nodes n = if leb (value_from 0 (text nodes n)) 9223372036854775807 then some (integer (value_from 0 (text nodes n))) else none

-- by the kind: none but those two have a literal
unfoldable pub literal_held : List Node → rust.Option SyntaxKind → NodeId → Option spec.Literal
literal_held nodes (rust.Some kind.Float) n = float_held nodes n
literal_held nodes (rust.Some kind.Integer) n = integer_held nodes n
literal_held nodes _ n = none

-- the step that lowers a node with such a literal: Missing without a pointer where there is none
unfoldable pub alloc_literal : List Node → NodeId → Option spec.Literal → Low ℕ
alloc_literal nodes n none = alloc_missing
alloc_literal nodes n (some l) = alloc_expr (spec.literal l) (pointer nodes n)

-- ---- what the code gives
unfoldable pub literal_given : List ℕ → rust.Option rust_literal.Literal → Option spec.Literal
literal_given s rust.None = none
literal_given s (rust.Some l) = some (literal_of (text_in s) l)

unfoldable pub ValidGiven : rust.Option rust_literal.Literal → Type 0
ValidGiven rust.None = Unit {0}
ValidGiven (rust.Some l) = Valid l

pub record LiteralRead (s : List ℕ) (o : Option spec.Literal) (r : rust.Option rust_literal.Literal) : Type 0 where
  pub is : literal_given s r ≡ o
  pub valid : ValidGiven r
