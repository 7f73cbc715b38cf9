-- `module::literal::value_of` meets its contract.
use Rattle.module.proofs.LiteralLaws.{value_cast, value_zero, value_itself}
use Rattle.module.proofs.literal.value_of.Goals as goal

pub overflow_cast-result : goal.overflow_cast-result
overflow_cast-result c = value_cast c.args.n c.ranges.n c.if-n-lt0.false

pub returns-then-n-lt0 : goal.returns-then-n-lt0
returns-then-n-lt0 c = value_zero c.args.n c.ranges.n c.if-n-lt0.true

pub returns-else-n-lt0 : goal.returns-else-n-lt0
returns-else-n-lt0 c = value_itself c.args.n c.ranges.n c.if-n-lt0.false
