use Rattle.std.proofs.Common.{arith}
use Rattle.sheet.proofs.Exits.{same_error}
use Rattle.sheet.proofs.SheetLaws.{reading_bad, reading_more, reading_end}
use Rattle.sheet.proofs.position.Position.nodes.Goals as goal

pub returns-in_err-here : goal.returns-in_err-here
returns-in_err-here c = rw (same_error _ _ c.from_residual.ensures.1) (reading_bad c.loop-i.invariant c.loop-i-test.true _ _ c.in_err-here.ensures.result_value)

pub loop-i-preserved : goal.loop-i-preserved
loop-i-preserved c = reading_more c.loop-i.invariant c.loop-i-test.true c.in_ok-here.field-0 c.in_ok-here.ensures.result_value c.in_ok-here.ensures.formed_node

pub returns : goal.returns
returns c = reading_end c.loop-i.invariant (omega arith)
