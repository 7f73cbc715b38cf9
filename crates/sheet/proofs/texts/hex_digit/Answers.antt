use Rattle.std.proofs.Common.{arith}
use Rattle.sheet.proofs.TextLaws.{of_number, of_letter, of_other}
use Rattle.sheet.proofs.texts.hex_digit.Goals as goal

pub returns-in-48-to-57 : goal.returns-in-48-to-57
returns-in-48-to-57 c = of_number c.args.c (omega arith) (omega arith)

pub returns-in-97-to-102 : goal.returns-in-97-to-102
returns-in-97-to-102 c = of_letter c.args.c (omega arith) (omega arith)

pub returns-in_default : goal.returns-in_default
returns-in_default c = of_other c.args.c (λ a b. omega arith) (λ a b. omega arith)

pub returns-in_default-2 : goal.returns-in_default-2
returns-in_default-2 c = of_other c.args.c (λ a b. omega arith) (λ a b. omega arith)

pub returns-in_default-3 : goal.returns-in_default-3
returns-in_default-3 c = of_other c.args.c (λ a b. omega arith) (λ a b. omega arith)
