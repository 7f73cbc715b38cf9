use Rattle.std.proofs.Common.{◌∙◌}
use Rattle.sheet.proofs.DecimalLaws.{no_text, zero_first, one_digit, other_first}
use Rattle.sheet.proofs.decimals.decimal.Goals as goal
use Rattle.sheet.proofs.decimals.decimal.Goals.{else-first-eq48-via-then-first-eq48+else-not-is_empty, else-first-eq48-via-else-first-eq48}

pub returns-in_err-first : goal.returns-in_err-first
returns-in_err-first c = rw c.from_residual.ensures (no_text c.args.text.now c.in_err-first.ensures.cases)

pub returns-then-not-is_empty : goal.returns-then-not-is_empty
returns-then-not-is_empty c = rw c.in_ok-first.ensures.cases.0 (zero_first c.in_ok-first.first.now c.in_ok-first.rest.now c.if-first-eq48.true c.if-not-is_empty.ensures)

pub returns : goal.returns
returns c =
    c.digits.ensures ∙ rw c.in_ok-first.ensures.cases.0 (elim c.else-first-eq48.branch [
      | else-first-eq48-via-then-first-eq48+else-not-is_empty w ↦ one_digit c.in_ok-first.first.now c.in_ok-first.rest.now w.if-not-is_empty.ensures
      | else-first-eq48-via-else-first-eq48 w ↦ other_first c.in_ok-first.first.now c.in_ok-first.rest.now w.if-first-eq48.false
    ])
