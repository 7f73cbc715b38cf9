-- `reader::line_after` meets its contract.
use Rattle.reader.proofs.ReadingLaws.{after_beyond, after_value, after_endless}
use native.Mathlib.Omega.{arith}
use Rattle.reader.proofs.line_after.Goals as goal

pub returns-then-s-at : goal.returns-then-s-at
returns-then-s-at c = after_beyond c.args.s.now c.args.at c.if-s-at.true

pub overflow_add-result : goal.overflow_add-result
overflow_add-result c = omega (arith, c.in-Some.ensures.value_inside, c.after.ensures)

pub returns-in-Some : goal.returns-in-Some
returns-in-Some c = after_value c.args.s.now c.args.at c.first-first.result.at c.first-first.ensures c.line.result c.line.ensures.result_value c.in-Some.v c.in-Some.is c.after.result.at c.after.ensures

pub returns-in-None : goal.returns-in-None
returns-in-None c = after_endless c.args.s.now c.args.at c.first-first.result.at c.first-first.ensures c.line.result c.line.ensures.result_value c.in-None.is
