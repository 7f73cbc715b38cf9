-- `store::codes::literal_row` meets its contract.
use Rattle.module.proofs.LiteralLaws.{unsigned_in}
use Rattle.store.proofs.CodeLaws.{float_says, integer_says}
use mathlib.Core.Path.{refl, ◌∙◌}
use Rattle.store.proofs.codes.literal_row.Goals as goal

pub bits_of-requires : goal.bits_of-requires
bits_of-requires c = unsigned_in _ _ c.in-Float.is c.requires

pub returns-in-Float : goal.returns-in-Float
returns-in-Float c = float_says _ _ _ c.in-Float.is c.requires c.halves.ensures.0 (c.halves.ensures.1 ∙ c.bits_of.ensures)

pub returns-in-Integer : goal.returns-in-Integer
returns-in-Integer c = integer_says _ _ _ _ _ c.in-Integer.is c.requires c.halves-in-Integer.ensures.0 c.halves-in-Integer.ensures.1 c.value_of.ensures refl
