use Rattle.std.proofs.Common.{arith}
use Rattle.sheet.proofs.TextLaws.{is_number, is_letter, is_other}
use Rattle.sheet.proofs.texts.is_hex.Goals as goal

pub returns-in-48-to-57 : goal.returns-in-48-to-57
returns-in-48-to-57 c = is_number c.args.c (omega arith) (omega arith)

pub returns-in-48-to-57-2 : goal.returns-in-48-to-57-2
returns-in-48-to-57-2 c = is_letter c.args.c (omega arith) (omega arith)

pub returns-in_default : goal.returns-in_default
returns-in_default c = is_other c.args.c (λ a b. omega arith) (λ a b. omega arith)

pub returns-in_default-2 : goal.returns-in_default-2
returns-in_default-2 c = is_other c.args.c (λ a b. omega arith) (λ a b. omega arith)

pub returns-in_default-3 : goal.returns-in_default-3
returns-in_default-3 c = is_other c.args.c (λ a b. omega arith) (λ a b. omega arith)
