-- `keys::ast_utils::is_interpolation` meets its contract.
use Rattle.intake.proofs.KindLaws.{if_kind, if_other}
use Rattle.keys.proofs.KeyLaws.{interpolation_gone, interpolation_told}
use Rattle.module.specs.declared.syntax_kind.SyntaxKind.TheVariants as kind
use Rattle.module.specs.SyntaxKinds.{number_of_syntax}
use Rattle.keys.proofs.ast_utils.is_interpolation.Goals as goal

pub returns-in_default : goal.returns-in_default
returns-in_default c = interpolation_gone _ _ _ _ c.kid.ensures c.in_default.is

pub returns : goal.returns
unfolding number_of_syntax
returns c = interpolation_told _ _ _ _ c.kid.ensures _ c.in-Some.is _ (if_kind c.syntax_kind.ensures kind.Interpolation c.eq.ensures) (if_other c.syntax_kind.ensures kind.Interpolation c.eq.ensures)
