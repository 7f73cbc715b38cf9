-- `sheet::texts::decode_text` meets its contract.
use Rattle.std.proofs.Common.{refl, arith, length, ◌/◌}
use Rattle.sheet.proofs.TextLaws.{written_none, written_more, written_all}
use Rattle.sheet.proofs.texts.decode_text.Goals as goal

pub loop-i-init : goal.loop-i-init
loop-i-init c = written_none c.args.d.now c.args.at c.args.text.now

pub loop-i-preserved : goal.loop-i-preserved
loop-i-preserved c =
    written_more c.args.text.now (length c.args.text.now / 2) refl _ _ _ _ c.loop-i.invariant (omega arith) _ (rw c.as_chunks.ensures.front at c.hex_byte.ensures)

pub returns : goal.returns
returns c = written_all c.args.text.now (length c.args.text.now / 2) refl _ _ _ _ c.loop-i.invariant (omega arith)
