-- `module::literal::bits_of` meets its contract.
use Rattle.module.proofs.LiteralLaws.{unsigned_no_nan}
use Rattle.module.specs.Literals.{float_bits}
use mathlib.Core.Path.{refl}
use Rattle.module.proofs.literal.bits_of.Goals as goal

pub float_to_bits-result : goal.float_to_bits-result
float_to_bits-result c = unsigned_no_nan _ c.requires

pub returns : goal.returns
unfolding float_bits
returns c = refl
