-- `lower::leaves::alloc_lone` meets its contract.
use Rattle.lower.proofs.LeafLaws.{lone_taken}
use Rattle.lower.proofs.leaves.alloc_lone.Goals as goal

pub returns : goal.returns
returns c = lone_taken _ _ _ _ _ _ c.waiting_count-base.ensures c.alloc_expr.ensures
