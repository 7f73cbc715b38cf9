-- `tree::nodes::first_kid` meets its contract.
use Rattle.tree.proofs.NodeLaws.{never_malformed, first_read}
use Rattle.tree.proofs.nodes.first_kid.Goals as goal

pub unreachable-requires : goal.unreachable-requires
unreachable-requires c = never_malformed _ c.requires _ c.next_kid.ensures.result_value c.next_kid.ensures.rest_inside _ c.in_default.is

pub returns : goal.returns
returns c = first_read _ c.requires _ c.next_kid.ensures.result_value c.next_kid.ensures.rest_inside _ c.in-Ok.is
