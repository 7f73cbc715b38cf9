-- `module::syntax_kind::SyntaxKind::of` meets its contract.
use native.Mathlib.Omega.{arith}
use Rattle.module.proofs.SyntaxKindLaws.{syntax_none}
use Rattle.module.proofs.syntax_kind.SyntaxKind.of.Goals as goal

pub returns-in_default : goal.returns-in_default
returns-in_default c = syntax_none _ (omega arith)
