-- `keys::literals::float_literal` meets its contract.
use Rattle.keys.proofs.LiteralLaws.{float_there}
use Rattle.keys.proofs.literals.float_literal.Goals as goal

pub returns : goal.returns
returns c = float_there _ _ _ _ c.node_flag.ensures c.if-node_flag-ne1.false _ c.node_text.ensures _ c.bits_in-bits.ensures c.if-bits-gt-INFINITY_BITS.false _ c.float_of.ensures
