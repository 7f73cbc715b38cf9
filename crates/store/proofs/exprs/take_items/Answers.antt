-- `store::exprs::take_items` meets its contract.
use Rattle.store.proofs.ExprLaws.{took_some}
use Rattle.store.proofs.exprs.take_items.Goals as goal

pub returns-then-count-gt0 : goal.returns-then-count-gt0
returns-then-count-gt0 c = took_some _ _ _ _ _ _ c.requires.0 c.if-count-gt0.true c.requires.2 c.requires.1 c.move_run.ensures c.put32.ensures
