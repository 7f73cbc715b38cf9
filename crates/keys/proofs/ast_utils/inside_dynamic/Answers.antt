-- `keys::ast_utils::inside_dynamic` meets its contract.
use Rattle.intake.proofs.KindLaws.{if_kind, if_other}
use Rattle.keys.proofs.KeyLaws.{inside_str, inside_other}
use Rattle.keys.specs.AstUtils.{attr_kind_of}
use Rattle.module.specs.Ids.{node_of}
use Rattle.module.specs.declared.syntax_kind.SyntaxKind.TheVariants as kind
use Rattle.module.specs.SyntaxKinds.{number_of_syntax}
use mathlib.Core.Path.{refl}
use Rattle.keys.proofs.ast_utils.inside_dynamic.Goals as goal

pub returns-in-Some : goal.returns-in-Some
unfolding number_of_syntax
returns-in-Some c = inside_str _ _ _ c.in-Some.is _ refl (if_kind c.syntax_kind.ensures kind.Str c.eq.ensures c.if-eq.true) c.str_key.ensures

pub returns-in_default : goal.returns-in_default
unfolding attr_kind_of node_of number_of_syntax
returns-in_default c = inside_other _ _ _ c.in-Some.is _ refl (if_other c.syntax_kind.ensures kind.Str c.eq.ensures c.if-eq.false)
