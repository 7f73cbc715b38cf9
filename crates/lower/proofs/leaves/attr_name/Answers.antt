-- `lower::leaves::attr_name` meets its contract.
use Rattle.lower.proofs.LeafLaws.{attr_taken, attr_hole}
use Rattle.lower.proofs.leaves.attr_name.Goals as goal

pub returns-in-Some : goal.returns-in-Some
returns-in-Some c = attr_taken _ _ _ c.node_pointer-p.ensures _ c.name_of_ident.ensures _ c.in-Some.is c.alloc_lone.ensures

pub returns-in-None : goal.returns-in-None
returns-in-None c = attr_hole _ _ _ c.node_pointer-p.ensures _ c.name_of_ident.ensures c.in-None.is c.alloc_missing.ensures
