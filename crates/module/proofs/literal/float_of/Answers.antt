-- `module::literal::float_of` meets its contract.
use Rattle.module.proofs.LiteralLaws.{low_no_nan, bits_back}
use Rattle.module.proofs.literal.float_of.Goals as goal

pub float_from_bits-result : goal.float_from_bits-result
float_from_bits-result c = low_no_nan _ c.requires

pub returns : goal.returns
returns c = bits_back _ c.requires
