-- `lower::reads::param_node` meets its contract.
use Rattle.lower.proofs.ReadLaws.{param_ident, param_pattern}
use Rattle.intake.proofs.KindLaws.{if_kind, if_other}
use Rattle.module.specs.declared.syntax_kind.SyntaxKind.TheVariants as code_kind
use Rattle.module.specs.SyntaxKinds.{number_of_syntax}
use mathlib.Core.Path.{refl}
use Rattle.lower.proofs.reads.param_node.Goals as goal

pub returns-then-eq : goal.returns-then-eq
unfolding number_of_syntax
returns-then-eq c = param_ident _ _ _ refl _ c.kid-first.ensures (if_kind c.syntax_kind.ensures code_kind.IdentParam c.eq.ensures c.if-eq.true)

pub returns : goal.returns
unfolding number_of_syntax
returns c = param_pattern _ _ _ refl _ c.kid-first.ensures (if_other c.syntax_kind.ensures code_kind.IdentParam c.eq.ensures c.if-eq.false) _ c.kid_of.ensures _ c.pattern_kind.ensures
