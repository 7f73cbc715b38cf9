use Rattle.std.proofs.Common.{◌∙◌, ap, rules}
use lib.Pointwise.{pointwise}
use lib.Dec.{eqb}
use Rattle.sheet.proofs.Exits.{same_error, nothing}
use Rattle.sheet.proofs.KidLaws.{kid_dash, kid_malformed, kid_number}
use Rattle.sheet.proofs.kids.kid_in.Goals as goal

pub returns-then-eq : goal.returns-then-eq
returns-then-eq c = kid_dash c.args.part.now (c.if-eq.ensures ∙ ap (pointwise eqb c.args.part.now) c.as_slice.ensures)

pub returns-in_err-n : goal.returns-in_err-n
returns-in_err-n c =
    let p = nothing _ _ _ c.in_err-n.ensures.value in
    rw (same_error _ _ c.from_residual.ensures.1) (kid_malformed c.args.part.now (c.if-eq.ensures ∙ ap (pointwise eqb c.args.part.now) c.as_slice.ensures) c.decimal.result c.decimal.ensures p.0)

pub returns : goal.returns
returns c = kid_number c.args.part.now (c.if-eq.ensures ∙ ap (pointwise eqb c.args.part.now) c.as_slice.ensures) c.decimal.result c.decimal.ensures c.in_ok-n.n c.unwrap_or.result c.in_ok-n.ensures.ok_part (search rules)
