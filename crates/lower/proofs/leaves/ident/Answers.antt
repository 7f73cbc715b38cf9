-- `lower::leaves::ident` meets its contract.
use Rattle.lower.proofs.LeafLaws.{ident_taken, ident_hole}
use Rattle.lower.proofs.leaves.ident.Goals as goal

pub returns-in-Some : goal.returns-in-Some
returns-in-Some c = ident_taken _ _ _ c.node_pointer-p.ensures _ c.name_of_ident.ensures _ c.in-Some.is c.alloc_lone.ensures

pub returns-in-None : goal.returns-in-None
returns-in-None c = ident_hole _ _ _ c.node_pointer-p.ensures _ c.name_of_ident.ensures c.in-None.is c.alloc_lone-in-None.ensures
