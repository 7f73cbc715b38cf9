-- `listing::linking::link_one` meets its contract.
use Rattle.listing.proofs.LinkLaws.{links_none, links_past, links_one}
use Rattle.module.specs.Ids.{name_of}
use mathlib.Core.Path.{sym, ap, ◌∙◌}
use Rattle.listing.proofs.linking.link_one.Goals as goal

pub returns-in_default : goal.returns-in_default
unfolding name_of
returns-in_default c = links_none _ _ _ (sym c.name_meant.ensures ∙ ap name_of c.in_default.is)

pub returns-then-n-name : goal.returns-then-n-name
unfolding name_of
returns-then-n-name c = links_past _ _ _ _ (sym c.name_meant.ensures ∙ ap name_of c.in-Some.is) c.if-n-name.true

pub returns : goal.returns
unfolding name_of
returns c = links_one _ _ _ _ _ _ _ c.requires.0 c.requires.1 c.requires.2 (sym c.name_meant.ensures ∙ ap name_of c.in-Some.is) c.if-n-name.false c.get32-head.ensures c.put32.ensures c.put32-2.ensures
