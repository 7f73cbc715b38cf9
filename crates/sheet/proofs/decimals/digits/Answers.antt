use Rattle.std.proofs.Common.{◌∙◌, sym}
use Rattle.sheet.proofs.DecimalLaws.{same_digit, digits_other, digits_more, digits_end}
use Rattle.sheet.proofs.decimals.digits.Goals as goal

pub returns-then-not-is_ascii_digit : goal.returns-then-not-is_ascii_digit
returns-then-not-is_ascii_digit c =
    digits_other c.args.text.now c.loop-c.value c.loop-c.c-index c.loop-c.invariant c.loop-c-test.true (sym (same_digit _) ∙ sym c.if-not-is_ascii_digit.ensures.value)

pub loop-c-preserved : goal.loop-c-preserved
loop-c-preserved c =
    digits_more c.args.text.now c.loop-c.value c.loop-c.c-index c.loop-c.invariant c.loop-c-test.true (sym (same_digit _) ∙ sym c.if-not-is_ascii_digit.ensures.value)
    c.with_digit-value.result c.with_digit-value.ensures

pub returns : goal.returns
returns c = digits_end c.args.text.now c.loop-c.value c.loop-c.c-index c.loop-c.invariant c.loop-c-test.false
