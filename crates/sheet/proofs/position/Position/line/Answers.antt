use Rattle.std.proofs.Common.{◌∙◌, ap, arith}
use Rattle.sheet.specs.Lines.{got_line}
use Rattle.sheet.proofs.LineLaws.{line_other, line_endless, line_long, line_value}
use Rattle.sheet.proofs.position.Position.line.Goals as goal

pub returns-in_err-rest-clause-result_value : goal.returns-in_err-rest-clause-result_value
returns-in_err-rest-clause-result_value c =
    ap (got_line c.args.s.now c.args.self.at) c.from_residual.ensures ∙ line_other c.args.key.now c.args.s.now c.args.self.at c.requires c.after_key.result c.after_key.ensures c.in_err-rest.was

pub returns-in_err-length-clause-result_value : goal.returns-in_err-length-clause-result_value
returns-in_err-length-clause-result_value c =
    ap (got_line c.args.s.now c.args.self.at) c.from_residual-in_err-length.ensures
    ∙ line_endless c.args.key.now c.args.s.now c.args.self.at c.requires c.after_key.result c.after_key.ensures c.in_ok-rest.rest c.in_ok-rest.was c.in_err-length.ensures

pub overflow_add-result : goal.overflow_add-result
overflow_add-result c = omega (arith, line_long c.args.key.now c.args.s.now c.args.self.at c.requires c.after_key.result c.after_key.ensures c.in_ok-rest.rest c.in_ok-rest.was c.in_ok-length.length c.in_ok-length.ensures)

pub returns-clause-result_value : goal.returns-clause-result_value
returns-clause-result_value c =
    line_value c.args.key.now c.args.s.now c.args.self.at c.requires c.after_key.result c.after_key.ensures c.in_ok-rest.rest c.in_ok-rest.was c.in_ok-length.length c.in_ok-length.ensures

pub returns-clause-value_inside : goal.returns-clause-value_inside
returns-clause-value_inside c = (omega arith, line_long c.args.key.now c.args.s.now c.args.self.at c.requires c.after_key.result c.after_key.ensures c.in_ok-rest.rest c.in_ok-rest.was c.in_ok-length.length c.in_ok-length.ensures)
