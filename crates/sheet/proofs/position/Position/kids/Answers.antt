use Rattle.std.proofs.Common.{◌∙◌, ap, Ok}
use Rattle.spec.specs.Basics.{bytes}
use Rattle.spec.specs.Sheet.{line, field, kid_list, wrong_kid, all_below}
use Rattle.sheet.specs.Keyed.{line_of, field_of}
use Rattle.sheet.specs.Kids.{kids_of}
use Rattle.sheet.proofs.Exits.{same_error, nothing}
use Rattle.sheet.proofs.KidLaws.{kids_agree}
use Rattle.sheet.proofs.VerdictLaws.{told_other, told_malformed, told_wrong, told_right}
use Rattle.sheet.proofs.position.Position.kids.Goals as goal

pub returns-in_err-list-clause-result_value : goal.returns-in_err-list-clause-result_value
unfolding line_of line field_of field
returns-in_err-list-clause-result_value c =
    let p = nothing _ _ _ c.in_err-list.ensures.value in
    rw (same_error _ _ c.from_residual.ensures.1, p.1, c.refused-malformed.ensures.0, c.refused-malformed.ensures.1)
    (told_other (bytes "kids=") kid_list kids_of kids_agree wrong_kid (all_below c.args.nodes) c.args.s.now c.args.self.at c.line.result c.line.ensures.result_value p.0)

pub returns-in-Ok-true-clause-result_value : goal.returns-in-Ok-true-clause-result_value
unfolding line_of line field_of field
returns-in-Ok-true-clause-result_value c =
    (told_right (bytes "kids=") kid_list kids_of kids_agree wrong_kid (all_below c.args.nodes) c.args.s.now c.args.self.at c.line.result c.line.ensures.result_value
    c.in_ok-list.list c.in_ok-list.ensures.ok_part c.judge_kids.result (rw (← c.of.ensures) c.judge_kids.ensures)
    (rw c.in_ok-list.ensures.ok_part at c.line.ensures.value_inside) (c.in-Ok-true.is ∙ ap Ok c.in-Ok-true.field-0-test)).0

pub returns-in-Ok-false-clause-result_value : goal.returns-in-Ok-false-clause-result_value
unfolding line_of line field_of field
returns-in-Ok-false-clause-result_value c =
    rw (c.refused.ensures.0, c.refused.ensures.1)
    (told_wrong (bytes "kids=") kid_list kids_of kids_agree wrong_kid (all_below c.args.nodes) c.args.s.now c.args.self.at c.line.result c.line.ensures.result_value
    c.in_ok-list.list c.in_ok-list.ensures.ok_part c.judge_kids.result (rw (← c.of.ensures) c.judge_kids.ensures)
    (c.in-Ok-false.is ∙ ap Ok c.in-Ok-false.field-0-test))

pub returns-in-Err-clause-result_value : goal.returns-in-Err-clause-result_value
unfolding line_of line field_of field
returns-in-Err-clause-result_value c =
    rw (c.refused-malformed.ensures.0, c.refused-malformed.ensures.1)
    (told_malformed (bytes "kids=") kid_list kids_of kids_agree wrong_kid (all_below c.args.nodes) c.args.s.now c.args.self.at c.line.result c.line.ensures.result_value
    c.in_ok-list.list c.in_ok-list.ensures.ok_part c.judge_kids.result (rw (← c.of.ensures) c.judge_kids.ensures) c.in-Err.field-0 c.in-Err.is)
