-- The loop of `listing::linking::link_all`.
use Rattle.listing.proofs.LinkLaws.{Linking}
use Rattle.listing.proofs.linking.link_all.Given as goal

abbrev pub invariant-loop-e : goal.invariant-loop-e
invariant-loop-e l = Linking l.n l.e l.initial.store l.store
