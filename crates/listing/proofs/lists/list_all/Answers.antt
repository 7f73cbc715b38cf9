-- `listing::lists::list_all` meets its contract.
use Rattle.listing.proofs.ListingLaws.{listing_none, ready, listing_more, listing_done}
use native.Mathlib.Omega.{arith}
use Rattle.listing.proofs.lists.list_all.Goals as goal

pub loop-x-init : goal.loop-x-init
loop-x-init c = listing_none _ c.requires.3

pub list_one-requires : goal.list_one-requires
list_one-requires c = (omega (arith, c.requires.0, c.loop-x.invariant.relisted.wrote.size), ready _ _ _ _ c.requires.1 c.requires.2 c.loop-x.invariant c.loop-x-test.true)

pub loop-x-preserved : goal.loop-x-preserved
loop-x-preserved c = listing_more _ _ _ _ c.loop-x.invariant c.list_one.ensures

pub returns : goal.returns
returns c = listing_done _ _ _ _ c.loop-x.invariant c.loop-x.auto.x-end c.loop-x-test.false
