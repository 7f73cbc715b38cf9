-- `intake::bring::kid_word` meets its contract.
use Rattle.intake.proofs.BringKidLaws.{word_end, word_absent, word_number, never_malformed}
use Rattle.intake.proofs.bring.kid_word.Goals as goal

pub returns-in-Ok-Some-Some-default : goal.returns-in-Ok-Some-Some-default
returns-in-Ok-Some-Some-default c =
    let w = c.in-Ok-Some-Some-default in
    word_number c.args.kids.now c.requires w.rest.now (rw w.field-0-is at w.ensures.rest_inside) w.k (rw (w.field-0-is, w.field-0-0-0-is) at w.ensures.result_value)

pub returns-in-Ok-Some-None-default : goal.returns-in-Ok-Some-None-default
returns-in-Ok-Some-None-default c =
    let w = c.in-Ok-Some-None-default in
    word_absent c.args.kids.now c.requires w.rest.now (rw w.field-0-is at w.ensures.rest_inside) (rw (w.field-0-is, w.field-0-0-0-is) at w.ensures.result_value)

pub returns-in-Ok-None : goal.returns-in-Ok-None
returns-in-Ok-None c = word_end c.args.kids.now c.requires (rw c.in-Ok-None.field-0-is at c.in-Ok-None.ensures.result_value)

pub returns-in-Err : goal.returns-in-Err
returns-in-Err c = absurd (never_malformed c.args.kids.now c.requires c.in-Err.ensures.result_value)
