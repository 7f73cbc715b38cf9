use Rattle.sheet.proofs.TextLaws.{empty_is}
use Rattle.sheet.proofs.texts.is_empty.Goals as goal

pub returns : goal.returns
returns c = empty_is c.args.text.now
