-- `sheet::position::Position::kind` meets its contract.
use Rattle.std.proofs.Common.{◌∙◌, sym}
use denote.Enum.Bare.{same_true, same_false}
use borrow.Author.Tests.{not-true, not-false}
use Rattle.module.specs.contracts.syntax_kind.SyntaxKind.{the_type}
use Rattle.module.specs.declared.syntax_kind.SyntaxKind.TheVariants.{Root}
use Rattle.sheet.proofs.Exits.{same_error, nothing}
use Rattle.sheet.proofs.NodeLaws.{kind_bad, kind_none, kind_not_root, kind_root, kind_other}
use Rattle.sheet.proofs.position.Position.kind.Goals as goal
use Rattle.sheet.proofs.position.Position.kind.Goals.{else-i-eq0-via-then-i-eq0+else-ne, else-i-eq0-via-else-i-eq0}

pub returns-in_err-number : goal.returns-in_err-number
returns-in_err-number c = rw (same_error _ _ c.from_residual.ensures.1) (kind_bad _ _ _ _ _ c.in_err-number.ensures)

pub returns-in_err-kind : goal.returns-in_err-kind
returns-in_err-kind c =
    let p = nothing _ _ _ c.in_err-kind.ensures.value in
    rw (same_error _ _ c.from_residual-in_err-kind.ensures.1, p.1, c.refused-wrong.ensures.0, c.refused-wrong.ensures.1) (kind_none _ _ _ _ _ c.in_ok-number.ensures (sym c.of.ensures ∙ p.0))

pub returns-then-ne : goal.returns-then-ne
returns-then-ne c =
    rw (c.refused-wrong.ensures.0, c.refused-wrong.ensures.1)
    (kind_not_root _ _ _ _ _ c.in_ok-number.ensures c.in_ok-kind.kind (sym c.of.ensures ∙ c.in_ok-kind.ensures.ok_part) c.if-i-eq0.true
    (same_false the_type c.in_ok-kind.kind Root (not-true _ (sym c.if-ne.ensures))))

pub returns : goal.returns
returns c = elim c.else-i-eq0.branch [
  | else-i-eq0-via-then-i-eq0+else-ne w ↦
      kind_root _ _ _ _ _ c.in_ok-number.ensures c.in_ok-kind.kind (sym c.of.ensures ∙ c.in_ok-kind.ensures.ok_part) w.if-i-eq0.true
      (same_true the_type tt c.in_ok-kind.kind Root (not-false _ (sym w.if-ne.ensures)))
  | else-i-eq0-via-else-i-eq0 w ↦
      kind_other _ _ _ _ _ c.in_ok-number.ensures c.in_ok-kind.kind (sym c.of.ensures ∙ c.in_ok-kind.ensures.ok_part) w.if-i-eq0.false
]
