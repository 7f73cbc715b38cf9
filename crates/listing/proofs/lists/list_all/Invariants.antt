-- The loop of `listing::lists::list_all`.
use Rattle.listing.proofs.ListingLaws.{Listing}
use Rattle.listing.proofs.lists.list_all.Given as goal

abbrev pub invariant-loop-x : goal.invariant-loop-x
invariant-loop-x l = Listing l.x l.initial.store l.store
