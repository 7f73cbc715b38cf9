-- The loop of `keys::items::next_item`.
use Rattle.keys.proofs.ItemLaws.{Passed}
use Rattle.layout.specs.Nodes.{nodes_of}
use Rattle.keys.proofs.items.next_item.Given as goal

abbrev pub invariant-loop-at : goal.invariant-loop-at
invariant-loop-at l = Passed (nodes_of l.store) l.n.0 l.i l.at
