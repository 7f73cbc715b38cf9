-- `listing::lists::list_references` meets its contract.
use Rattle.listing.proofs.ListingLaws.{linked_now, listed_anew}
use native.Mathlib.Omega.{arith}
use Rattle.listing.proofs.lists.list_references.Goals as goal

pub list_all-requires : goal.list_all-requires
list_all-requires c = (omega (arith, c.requires, c.link_references.ensures.wrote.size, c.clear_references.ensures.relisted.wrote.size), c.at_most-n.ensures.1, linked_now _ _ _ _ _ c.get32.ensures c.at_most-n.ensures.0 c.at_most-n.ensures.1 c.link_references.ensures c.clear_references.ensures.relisted, c.clear_references.ensures.listed)

pub returns : goal.returns
returns c = listed_anew _ _ _ _ _ _ c.get32.ensures c.at_most-n.ensures.0 c.link_references.ensures c.clear_references.ensures c.list_all.ensures
