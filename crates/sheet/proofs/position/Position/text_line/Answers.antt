use Rattle.std.proofs.Common.{arith}
use Rattle.spec.specs.Sheet.{line, field}
use Rattle.sheet.specs.Keyed.{line_of, field_of}
use Rattle.sheet.proofs.TextLaws.{text_other, text_no_end, text_half, text_other_byte, text_value, text_formed, text_long}
use Rattle.sheet.proofs.position.Position.text_line.Goals as goal
use Rattle.sheet.proofs.position.Position.text_line.Goals.{then-digits-eq1-via-then-digits-eq1, then-digits-eq1-via-else-digits-eq1+then-rest-digits-ne10}

pub returns-in_err-rest-clause-result_value : goal.returns-in_err-rest-clause-result_value
unfolding line_of line field_of field
returns-in_err-rest-clause-result_value c =
    rw c.from_residual.ensures (text_other c.args.s.now c.args.self.at c.requires c.after_key.result c.after_key.ensures c.in_err-rest.was)

pub returns-in_err-digits-clause-result_value : goal.returns-in_err-digits-clause-result_value
unfolding line_of line field_of field
returns-in_err-digits-clause-result_value c =
    rw c.from_residual-in_err-digits.ensures
    (text_no_end c.args.s.now c.args.self.at c.requires c.after_key.result c.after_key.ensures c.in_ok-rest.rest c.in_ok-rest.was c.in_err-digits.ensures)

pub returns-then-digits-eq1-clause-result_value : goal.returns-then-digits-eq1-clause-result_value
unfolding line_of line field_of field
returns-then-digits-eq1-clause-result_value c = elim c.then-digits-eq1.branch [
  | then-digits-eq1-via-then-digits-eq1 w ↦
      text_half c.args.s.now c.args.self.at c.requires c.after_key.result c.after_key.ensures c.in_ok-rest.rest c.in_ok-rest.was c.in_ok-digits.digits c.in_ok-digits.ensures
      w.if-digits-eq1.true
  | then-digits-eq1-via-else-digits-eq1+then-rest-digits-ne10 w ↦
      text_other_byte c.args.s.now c.args.self.at c.requires c.after_key.result c.after_key.ensures c.in_ok-rest.rest c.in_ok-rest.was c.in_ok-digits.digits c.in_ok-digits.ensures
      w.if-rest-digits-ne10.true
]

pub returns-clause-result_value : goal.returns-clause-result_value
unfolding line_of line field_of field
returns-clause-result_value c =
    text_value c.args.s.now c.args.self.at c.requires c.after_key.result c.after_key.ensures c.in_ok-rest.rest c.in_ok-rest.was c.in_ok-digits.digits c.in_ok-digits.ensures
    c.if-digits-eq1.false c.if-rest-digits-ne10.false

pub returns-clause-text_inside : goal.returns-clause-text_inside
returns-clause-text_inside c =
    text_formed c.args.s.now c.args.self.at c.requires c.after_key.result c.after_key.ensures c.in_ok-rest.rest c.in_ok-rest.was c.in_ok-digits.digits c.in_ok-digits.ensures
    c.if-digits-eq1.false c.if-rest-digits-ne10.false

pub overflow_add-result : goal.overflow_add-result
overflow_add-result c =
    omega (arith, text_long c.args.s.now c.args.self.at c.requires c.after_key.result c.after_key.ensures c.in_ok-rest.rest c.in_ok-rest.was c.in_ok-digits.digits c.in_ok-digits.ensures)
