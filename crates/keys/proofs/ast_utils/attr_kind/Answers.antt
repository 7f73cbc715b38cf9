-- `keys::ast_utils::attr_kind` meets its contract.
use Rattle.intake.proofs.KindLaws.{if_kind, if_other}
use Rattle.keys.proofs.KeyLaws.{attr_ident, attr_str, attr_dynamic}
use Rattle.keys.specs.AstUtils.{attr_kind_of}
use Rattle.module.specs.declared.syntax_kind.SyntaxKind.TheVariants as kind
use Rattle.module.specs.SyntaxKinds.{number_of_syntax}
use mathlib.Core.Path.{refl}
use Rattle.keys.proofs.ast_utils.attr_kind.Goals as goal

pub returns-then-eq : goal.returns-then-eq
unfolding attr_kind_of number_of_syntax
returns-then-eq c = attr_ident _ _ _ refl (if_kind c.syntax_kind-kind.ensures kind.Ident c.eq.ensures c.if-eq.true) _ c.node_text.ensures

pub returns-then-eq-2 : goal.returns-then-eq-2
unfolding number_of_syntax
returns-then-eq-2 c = attr_str _ _ _ refl (if_other c.syntax_kind-kind.ensures kind.Ident c.eq.ensures c.if-eq.false) (if_kind c.syntax_kind-kind.ensures kind.Str c.eq-else-eq.ensures c.if-eq-2.true) c.str_key.ensures

pub returns-else-eq-2 : goal.returns-else-eq-2
unfolding number_of_syntax
returns-else-eq-2 c = attr_dynamic _ _ _ refl (if_other c.syntax_kind-kind.ensures kind.Ident c.eq.ensures c.if-eq.false) (if_other c.syntax_kind-kind.ensures kind.Str c.eq-else-eq.ensures c.if-eq-2.false) c.kid.ensures c.flatten_paren.ensures c.inside_dynamic.ensures
