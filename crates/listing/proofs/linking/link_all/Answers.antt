-- `listing::linking::link_all` meets its contract.
use Rattle.listing.proofs.LinkLaws.{linking_none, linking_more, linking_done}
use Rattle.listing.proofs.linking.link_all.Goals as goal

pub loop-e-init : goal.loop-e-init
loop-e-init c = linking_none _ _ _ _ c.get32.ensures c.at_most-count.ensures.0

pub loop-e-preserved : goal.loop-e-preserved
loop-e-preserved c = linking_more _ _ _ _ _ c.loop-e-test.true c.loop-e.invariant c.link_one.ensures

pub returns : goal.returns
returns c = linking_done _ _ _ _ c.loop-e.invariant c.loop-e-test.false
