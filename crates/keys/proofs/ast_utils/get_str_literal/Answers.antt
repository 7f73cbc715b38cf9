-- `keys::ast_utils::get_str_literal` meets its contract.
use Rattle.intake.proofs.KindLaws.{unless_other, unless_kind}
use Rattle.keys.proofs.ItemLaws.{next_end, next_first, next_is_not}
use Rattle.keys.proofs.KeyLaws.{parts_none, parts_two, part_literal, part_other}
use Rattle.layout.specs.Texts.{maybe_text}
use Rattle.module.specs.declared.syntax_kind.SyntaxKind.TheVariants as kind
use Rattle.module.specs.SyntaxKinds.{number_of_syntax}
use mathlib.Core.Path.{refl}
use mathlib.Core.Path.{sym, ◌∙◌}
use Rattle.keys.proofs.ast_utils.get_str_literal.Goals.{then-is_some-via-then-is_some, then-is_some-via-else-is_some+then-ne}
use Rattle.keys.proofs.ast_utils.get_str_literal.Goals as goal

pub returns-in_default : goal.returns-in_default
unfolding maybe_text
returns-in_default c = parts_none _ _ _ (next_end _ _ _ _ c.next_item.ensures c.in_default.is)

pub returns-then-is_some : goal.returns-then-is_some
unfolding maybe_text number_of_syntax
returns-then-is_some c =
    let first = next_first _ _ _ _ c.next_item.ensures _ _ c.in-Some.is in
    elim c.then-is_some.branch [
      | then-is_some-via-then-is_some w ↦ parts_two _ _ _ _ first _ c.next_item-2.ensures (sym c.is_some.ensures ∙ w.if-is_some.true)
      | then-is_some-via-else-is_some+then-ne w ↦
          part_other _ _ _ _ first (next_is_not _ _ _ _ c.next_item-2.ensures (sym c.is_some.ensures ∙ w.if-is_some.false)) _ refl
          (unless_other w.syntax_kind.ensures kind.LiteralPart w.ne.ensures w.if-ne.true)
    ]

pub returns : goal.returns
unfolding maybe_text number_of_syntax
returns c =
    part_literal _ _ _ _ (next_first _ _ _ _ c.next_item.ensures _ _ c.in-Some.is)
    (next_is_not _ _ _ _ c.next_item-2.ensures (sym c.is_some.ensures ∙ c.if-is_some.false)) _ refl
    (unless_kind c.syntax_kind.ensures kind.LiteralPart c.ne.ensures c.if-ne.false) _ c.node_text.ensures
