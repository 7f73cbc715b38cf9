-- `keys::ast_utils::flatten_paren` meets its contract.
use Rattle.intake.proofs.KindLaws.{unless_other, unless_kind}
use Rattle.keys.proofs.ParenLaws.{flattening_more, flattened_none, flattened_out, flattened_other}
use Rattle.module.specs.Ids.{node_of}
use Rattle.module.specs.declared.syntax_kind.SyntaxKind.TheVariants as kind
use Rattle.module.specs.SyntaxKinds.{number_of_syntax}
use Prim.Native.Nat.{◌+◌, ◌-◌}
use mathlib.Core.Path.{◌≡◌, refl}
use native.Mathlib.Omega.{arith}
use Rattle.keys.proofs.ast_utils.flatten_paren.Goals as goal

pub returns-in_err-n : goal.returns-in_err-n
unfolding node_of
returns-in_err-n c = rw c.from_residual.ensures (flattened_none c.loop.invariant c.in_err-n.was)

pub returns-then-ne : goal.returns-then-ne
unfolding node_of number_of_syntax
returns-then-ne c = flattened_other c.loop.invariant _ c.in_ok-n.was _ refl (unless_other c.syntax_kind.ensures kind.Paren c.ne.ensures c.if-ne.true)

pub loop-preserved : goal.loop-preserved
unfolding number_of_syntax
loop-preserved c = let less : (256 - c.loop.counter) - 1 ≡ 256 - (c.loop.counter + 1) = omega arith in rw less at (flattening_more c.loop.invariant _ c.in_ok-n.was _ refl (unless_kind c.syntax_kind.ensures kind.Paren c.ne.ensures c.if-ne.false) (omega arith) _ c.kid-cur.ensures)

pub returns : goal.returns
returns c = flattened_out c.loop.invariant (omega arith)
