-- `listing::lists::list_one` meets its contract.
use Rattle.listing.proofs.ListingLaws.{walking_none, walking_next, walking_more, walking_done}
use native.Mathlib.Omega.{arith}
use Rattle.listing.proofs.lists.list_one.Goals as goal

pub loop-next-init : goal.loop-next-init
loop-next-init c = walking_none _ _ _ c.requires.1 c.get32-next.ensures

pub get32-next-requires-in-loop-next : goal.get32-next-requires-in-loop-next
get32-next-requires-in-loop-next c = let m = walking_next _ _ _ _ _ c.requires.1 c.loop-next.invariant c.loop-next-test.true in omega (arith, m.low, c.requires.0, c.loop-next.invariant.relisted.wrote.size, c.add_reference.ensures.relisted.wrote.size)

pub overflow_add-i : goal.overflow_add-i
overflow_add-i c = let m = walking_next _ _ _ _ _ c.requires.1 c.loop-next.invariant c.loop-next-test.true in omega (arith, m.few)

pub loop-next-smaller : goal.loop-next-smaller
loop-next-smaller c = let m = walking_next _ _ _ _ _ c.requires.1 c.loop-next.invariant c.loop-next-test.true in omega (arith, m.more)

pub loop-next-preserved : goal.loop-next-preserved
loop-next-preserved c = walking_more _ _ _ _ _ _ _ c.requires.1 c.loop-next.invariant c.loop-next-test.true c.add_reference.ensures c.get32-next-in-loop-next.ensures

pub returns : goal.returns
returns c = walking_done _ _ _ _ _ _ c.requires.1 c.loop-next.invariant c.loop-next-test.false c.end_references.ensures
