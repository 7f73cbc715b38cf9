-- `sheet::texts::is_float` meets its contract.
use Rattle.std.proofs.Common.{refl}
use Rattle.sheet.proofs.TextLaws.{float_long, float_told}
use Rattle.sheet.proofs.texts.is_float.Goals as goal

pub returns-then-text-ne8 : goal.returns-then-text-ne8
returns-then-text-ne8 c = float_long c.args.text.now c.if-text-ne8.true

pub returns : goal.returns
returns c = float_told c.args.text.now c.if-text-ne8.false _ c.decode_text.new.d _ refl c.decode_text.ensures c.from_be_bytes.ensures
