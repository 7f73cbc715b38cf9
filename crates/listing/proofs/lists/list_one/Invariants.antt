-- The loops of `listing::lists::list_one`.
use Prim.Native.Nat.{◌-◌}
use Rattle.listing.proofs.ListingLaws.{Walking}
use Rattle.listing.specs.Links.{answered_from}
use lib.ListN.{length}
use Rattle.listing.proofs.lists.list_one.Given as goal

abbrev pub invariant-loop-next : goal.invariant-loop-next
invariant-loop-next l = Walking l.x.0 l.initial.store l.store l.next l.i

abbrev pub decreases-loop-next : goal.decreases-loop-next
decreases-loop-next l = length (answered_from l.initial.store 0 l.x.0) - l.i
