-- The literal of a Float or an Integer by what was read of its text; and that lowering allocates it. Assumes nothing.
use Rattle.std.specs.Prelude.{if◌then◌else◌}
use mathlib.Core.Path.{◌≡◌, refl, ap, ◌∙◌}
use mathlib.Core.Bool.{Bool, true, false}
use mathlib.Core.List.{List}
use mathlib.Core.Option.{none, some}
use Prim.Native.Nat.{ℕ, ◌≤◌}
use native.Mathlib.Omega.{arith}
use lib.Dec.{eqb, leb}
use lib.Ieee.{Float}
use borrow.Author.Tests.{eq-eqb, eqb-true, le-leb}
use Rattle.spec.specs.Basics.{NodeId, ExprId}
use Rattle.spec.specs.Sheet.{Node, bits_from, value_from}
use Rattle.spec.specs.Keys.{flag, text, pointer}
use Rattle.spec.specs.Module as spec
use Rattle.spec.specs.State.{SetId, Low, alloc_expr, alloc_missing}
use Rattle.spec.specs.Steps.{when}
use Rattle.spec.specs.Lower.{lower_float, lower_integer}
use Rattle.module.specs.Literals.{float_bits, literal_of}
use Rattle.module.specs.declared.literal.Literal.TheVariants as code
use Rattle.module.proofs.LiteralLaws.{float_valid}
use Rattle.layout.specs.Texts.{text_in}
use Rattle.keys.specs.Literals.{capped, float_held, integer_held, literal_held, alloc_literal, literal_given, ValidGiven, LiteralRead}
use Rattle.module.specs.declared.syntax_kind.SyntaxKind.TheVariants as kind
use Rattle.std.specs.Prelude as rust

-- ---- a Float
module _ (s : List ℕ) (nodes : List Node) (n : NodeId) (f : ℕ) (e : f ≡ flag nodes n) where
  module _ (h : f ≡ 1) (t : ℕ) (q : text_in s t ≡ text nodes n) (bits : ℕ) (b : bits ≡ capped (bits_from 0 (text_in s t))) where
    bits_are : bits ≡ capped (bits_from 0 (text nodes n))
    bits_are = b ∙ ap (λ x. capped (bits_from 0 x)) q

    pub float_there : bits ≤ 9218868437227405312 → (x : Float) → float_bits x ≡ bits → LiteralRead s (float_held nodes n) (rust.Some (code.Float x))
    unfolding float_held literal_given ValidGiven literal_of
    float_there l x g =
        let same : bits_from 0 (text nodes n) ≡ bits = omega (arith, bits_are) in
        record {
          is = rw (← e, eq-eqb f 1 h, same, le-leb bits 9218868437227405312 l, g);
          valid = float_valid bits x l g;
        }

-- ---- what lowering allocates
module _ (nodes : List Node) (lower : NodeId → Low ExprId) (merge : SetId → NodeId → Low (Unit {0})) (n : NodeId) where
  -- THEOREM. Lowering a Float allocates its literal, if its bits are at most those of infinity.
  pub lowers_float : (flag nodes n ≡ 1 → bits_from 0 (text nodes n) ≤ 9218868437227405312) → lower_float nodes lower merge n ≡ alloc_literal nodes n (literal_held nodes (rust.Some kind.Float) n)
  unfolding lower_float literal_held float_held alloc_literal when
  lowers_float h = go (eqb (flag nodes n) 1) refl
    where
      go : (b : Bool) → eqb (flag nodes n) 1 ≡ b
          → when b (alloc_expr (spec.literal (spec.float (bits_from 0 (text nodes n)))) (pointer nodes n)) alloc_missing
          ≡ alloc_literal nodes n (if b then (if leb (bits_from 0 (text nodes n)) 9218868437227405312 then some (spec.float (bits_from 0 (text nodes n))) else none) else none)
      go true q = rw (le-leb (bits_from 0 (text nodes n)) 9218868437227405312 (h (eqb-true (flag nodes n) 1 q)))
      go false q = refl

  -- THEOREM. Lowering an Integer allocates its literal.
  pub lowers_integer : lower_integer nodes lower merge n ≡ alloc_literal nodes n (literal_held nodes (rust.Some kind.Integer) n)
  unfolding lower_integer literal_held integer_held alloc_literal when
  lowers_integer = go (leb (value_from 0 (text nodes n)) 9223372036854775807)
    where
      go : (b : Bool) → when b (alloc_expr (spec.literal (spec.integer (value_from 0 (text nodes n)))) (pointer nodes n)) alloc_missing
          ≡ alloc_literal nodes n (if b then some (spec.integer (value_from 0 (text nodes n))) else none)
      go true = refl
      go false = refl
