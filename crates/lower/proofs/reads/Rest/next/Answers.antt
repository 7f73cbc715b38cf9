-- `lower::reads::Rest::next` meets its contract.
use Rattle.lower.proofs.ReadLaws.{rest_next}
use Rattle.lower.proofs.reads.Rest.next.Goals as goal

pub returns : goal.returns
returns c = rest_next _ _ _ c.in_ok-n.was _ c.next_item.ensures _ _ c.in_ok-a.was
