use Rattle.sheet.proofs.LineLaws.{slice_from, key_is}
use Rattle.sheet.proofs.position.Position.after_key.Goals as goal

pub returns : goal.returns
returns c = key_is c.args.key.now _ _ (slice_from c.args.s.now c.args.self.at c.requires) c.strip_prefix.result c.strip_prefix.ensures.cases
