-- `listing::linking::link_references` meets its contract.
use Rattle.listing.proofs.LinkLaws.{links_every}
use Rattle.listing.proofs.linking.link_references.Goals as goal

pub returns : goal.returns
returns c = links_every _ _ _ _ _ c.get32.ensures c.at_most-n.ensures.0 c.at_most-n.ensures.1 c.clear_rows.ensures c.link_all.ensures
