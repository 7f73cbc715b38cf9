-- `lower::reads::first_entry` meets its contract.
use Rattle.lower.proofs.ReadLaws.{entries_after, entries_all}
use Rattle.intake.proofs.KindLaws.{if_kind, if_other}
use Rattle.module.specs.declared.syntax_kind.SyntaxKind.TheVariants as code_kind
use Rattle.module.specs.SyntaxKinds.{number_of_syntax}
use mathlib.Core.Path.{refl}
use Rattle.lower.proofs.reads.first_entry.Goals as goal

pub returns-then-eq : goal.returns-then-eq
unfolding number_of_syntax
returns-then-eq c = entries_after _ _ _ refl (if_kind c.syntax_kind.ensures code_kind.LetIn c.eq.ensures c.if-eq.true)

pub returns-else-eq : goal.returns-else-eq
unfolding number_of_syntax
returns-else-eq c = entries_all _ _ _ refl (if_other c.syntax_kind.ensures code_kind.LetIn c.eq.ensures c.if-eq.false)
