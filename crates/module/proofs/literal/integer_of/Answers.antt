-- `module::literal::integer_of` meets its contract.
use Rattle.module.proofs.LiteralLaws.{integer_is, integer_value}
use Rattle.module.proofs.literal.integer_of.Goals as goal

pub returns : goal.returns
returns c = let answer = integer_value _ _ c.requires (integer_is _ c.requires) in record { result_value = answer.0; not_negative = answer.1 }
