use Rattle.std.proofs.Common.{◌∙◌, ap}
use Rattle.std.specs.Option.{unwrap_or}
use Rattle.std.proofs.Common.{length}
use Rattle.sheet.proofs.KidLaws.{part_is}
use Rattle.sheet.proofs.kids.part_end.Goals as goal

pub returns : goal.returns
returns c = c.unwrap_or.ensures ∙ ap (λ o. unwrap_or o (length c.args.kids.now)) c.first_comma.ensures ∙ part_is c.args.kids.now
