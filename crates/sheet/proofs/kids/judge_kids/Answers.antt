use Rattle.std.proofs.Common.{arith}
use Rattle.sheet.specs.Kids.{kid_of}
use Rattle.sheet.proofs.Exits.{same_error}
use Rattle.sheet.proofs.KidLaws.{judging_malformed, judging_end, judging_low, judging_high}
use Rattle.sheet.proofs.kids.judge_kids.Goals as goal

pub returns-in_err-kid : goal.returns-in_err-kid
returns-in_err-kid c = rw (same_error _ _ c.from_residual.ensures.1) (judging_malformed c.loop-kid.invariant (omega arith) c.in_err-kid.ensures.result_value)

pub loop-kid-preserved-then-not-is_below : goal.loop-kid-preserved-then-not-is_below
loop-kid-preserved-then-not-is_below c =
    judging_high c.loop-kid.invariant (omega arith) c.in-Some.rest.now (kid_of c.in-Some.kid) (rw c.in-Some.is at c.in_ok-kid.ensures.result_value) c.if-not-is_below.ensures

pub loop-kid-preserved : goal.loop-kid-preserved
loop-kid-preserved c =
    judging_low c.loop-kid.invariant (omega arith) c.in-Some.rest.now (kid_of c.in-Some.kid) (rw c.in-Some.is at c.in_ok-kid.ensures.result_value) c.if-not-is_below.ensures

pub returns : goal.returns
returns c = judging_end c.loop-kid.invariant (omega arith) (rw c.in_default.is at c.in_ok-kid.ensures.result_value)
