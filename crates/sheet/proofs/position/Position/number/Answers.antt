use Rattle.std.proofs.Common.{arith}
use Rattle.sheet.proofs.Exits.{same_error, nothing}
use Rattle.sheet.proofs.NumberLaws.{number_other, number_malformed, number_low, number_high, number_right}
use Rattle.sheet.proofs.position.Position.number.Goals as goal
use Rattle.sheet.proofs.position.Position.number.Goals.{then-n-from-via-then-n-from, then-n-from-via-else-n-from+then-from-n}

pub returns-in_err-value : goal.returns-in_err-value
returns-in_err-value c =
    let p = nothing _ _ _ c.in_err-value.ensures.value in
    rw (same_error _ _ c.from_residual.ensures.1, p.1, c.refused-malformed.ensures.0, c.refused-malformed.ensures.1) (number_other c.args.key.now _ c.args.lo c.args.hi c.args.s.now c.args.self.at c.line.result c.line.ensures.result_value p.0)

pub returns-in_err-n : goal.returns-in_err-n
returns-in_err-n c =
    let p = nothing _ _ _ c.in_err-n.ensures.value in
    rw (same_error _ _ c.from_residual-in_err-n.ensures.1, p.1, c.refused-malformed.ensures.0, c.refused-malformed.ensures.1)
    (number_malformed c.args.key.now _ c.args.lo c.args.hi c.args.s.now c.args.self.at c.line.result c.line.ensures.result_value
    c.in_ok-value.value c.in_ok-value.ensures.ok_part c.decimal.result (rw (← c.of.ensures) c.decimal.ensures) p.0)

pub returns-then-n-from : goal.returns-then-n-from
returns-then-n-from c = rw (c.refused.ensures.0, c.refused.ensures.1) (elim c.then-n-from.branch [
  | then-n-from-via-then-n-from w ↦ number_low c.args.key.now _ c.args.lo c.args.hi c.args.s.now c.args.self.at c.line.result c.line.ensures.result_value
      c.in_ok-value.value c.in_ok-value.ensures.ok_part c.decimal.result (rw (← c.of.ensures) c.decimal.ensures) c.in_ok-n.n c.in_ok-n.ensures.ok_part (omega arith) (omega arith)
  | then-n-from-via-else-n-from+then-from-n w ↦ number_high c.args.key.now _ c.args.lo c.args.hi c.args.s.now c.args.self.at c.line.result c.line.ensures.result_value
      c.in_ok-value.value c.in_ok-value.ensures.ok_part c.decimal.result (rw (← c.of.ensures) c.decimal.ensures) c.in_ok-n.n c.in_ok-n.ensures.ok_part (omega arith) (omega arith)
])

pub returns : goal.returns
returns c =
    number_right c.args.key.now _ c.args.lo c.args.hi c.args.s.now c.args.self.at c.line.result c.line.ensures.result_value
    c.in_ok-value.value c.in_ok-value.ensures.ok_part c.decimal.result (rw (← c.of.ensures) c.decimal.ensures) c.in_ok-n.n c.in_ok-n.ensures.ok_part (omega arith) (omega arith) (omega arith) c.after.result.at c.after.ensures
