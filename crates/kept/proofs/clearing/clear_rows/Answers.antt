-- `kept::clearing::clear_rows` meets its contract.
use Rattle.kept.proofs.ZeroLaws.{row_before, zeroed_more}
use native.Mathlib.Omega.{arith}
use Rattle.kept.proofs.clearing.clear_rows.Goals as goal

pub overflow_mul-row : goal.overflow_mul-row
overflow_mul-row c = omega (arith, row_before c.args.row _ _ c.loop-i-test.true)

pub overflow_add-table : goal.overflow_add-table
overflow_add-table c = omega (arith, row_before c.args.row _ _ c.loop-i-test.true)

pub put32-requires : goal.put32-requires
put32-requires c = omega (arith, row_before c.args.row _ _ c.loop-i-test.true, c.loop-i.invariant.wrote.size)

pub loop-i-preserved : goal.loop-i-preserved
loop-i-preserved c = zeroed_more _ _ _ _ _ _ _ c.requires.0 c.requires.1 c.requires.2 c.requires.3 c.loop-i-test.true c.loop-i.invariant c.put32.ensures
