-- `lower::reads::into_set` meets its contract.
use Rattle.lower.proofs.ReadLaws.{into_node, into_none, into_unlike, into_merged, into_new}
use Rattle.intake.proofs.KindLaws.{unless_kind, unless_other}
use Rattle.module.specs.declared.syntax_kind.SyntaxKind.TheVariants as code_kind
use Rattle.module.specs.SyntaxKinds.{number_of_syntax}
use mathlib.Core.Path.{refl}
use Rattle.lower.proofs.reads.into_set.Goals as goal

pub returns-in_err-v : goal.returns-in_err-v
returns-in_err-v c = rw c.from_residual.ensures (into_none _ _ _ _ c.in_err-v.was)

pub returns-then-ne : goal.returns-then-ne
unfolding number_of_syntax
returns-then-ne c = into_node _ _ _ _ _ c.in_ok-v.was (into_unlike _ _ _ _ _ refl (unless_other c.syntax_kind.ensures code_kind.AttrSet c.ne.ensures c.if-ne.true))

pub returns-in_err-t : goal.returns-in_err-t
unfolding number_of_syntax
returns-in_err-t c =
    rw c.from_residual-in_err-t.ensures (into_node _ _ _ _ _ c.in_ok-v.was (into_new _ _ _ _ _ refl (unless_kind c.syntax_kind.ensures code_kind.AttrSet c.ne.ensures c.if-ne.false) _ c.nested_at.ensures c.in_err-t.was))

pub returns : goal.returns
unfolding number_of_syntax
returns c = into_node _ _ _ _ _ c.in_ok-v.was (into_merged _ _ _ _ _ refl (unless_kind c.syntax_kind.ensures code_kind.AttrSet c.ne.ensures c.if-ne.false) _ c.nested_at.ensures _ c.in_ok-t.was)
