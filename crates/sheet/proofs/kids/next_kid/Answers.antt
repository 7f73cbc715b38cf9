use Rattle.std.proofs.Common.{arith}
use borrow.Author.Tests.{true-eqb}
use Rattle.sheet.specs.Kids.{kid_of}
use Rattle.sheet.proofs.Exits.{same_error}
use Rattle.sheet.proofs.KidLaws.{step_none, part_inside, at_comma, no_kid, one_kid, rest_left}
use Rattle.sheet.proofs.kids.next_kid.Goals as goal

pub returns-then-is_empty-clause-result_value : goal.returns-then-is_empty-clause-result_value
returns-then-is_empty-clause-result_value c = step_none c.args.kids.now (true-eqb _ 0 c.if-is_empty.ensures)

pub split_at-requires : goal.split_at-requires
split_at-requires c = omega (arith, c.part_end.ensures, part_inside c.args.kids.now)

pub returns-in_err-rest-clause-result_value : goal.returns-in_err-rest-clause-result_value
returns-in_err-rest-clause-result_value c =
    rw (same_error _ _ c.from_residual.ensures.1)
    (at_comma c.args.kids.now _ _ c.part_end.result c.part_end.ensures c.split_at.ensures.front c.split_at.ensures.back c.if-is_empty.ensures c.in_err-rest.ensures)

pub returns-in_err-kid-clause-result_value : goal.returns-in_err-kid-clause-result_value
returns-in_err-kid-clause-result_value c =
    rw (same_error _ _ c.from_residual-in_err-kid.ensures.1)
    (no_kid c.args.kids.now _ _ c.part_end.result c.part_end.ensures c.split_at.ensures.front c.split_at.ensures.back c.if-is_empty.ensures c.in_ok-rest.rest.now c.in_ok-rest.ensures
    c.in_err-kid.ensures)

pub returns-clause-result_value : goal.returns-clause-result_value
returns-clause-result_value c =
    one_kid c.args.kids.now _ _ c.part_end.result c.part_end.ensures c.split_at.ensures.front c.split_at.ensures.back c.if-is_empty.ensures c.in_ok-rest.rest.now c.in_ok-rest.ensures
    (kid_of c.in_ok-kid.kid) c.in_ok-kid.ensures

pub returns-clause-rest_inside : goal.returns-clause-rest_inside
returns-clause-rest_inside c =
    rest_left c.args.kids.now _ _ c.part_end.result c.part_end.ensures c.split_at.ensures.front c.split_at.ensures.back c.if-is_empty.ensures c.in_ok-rest.rest.now c.in_ok-rest.ensures
