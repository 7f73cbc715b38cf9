-- `lower::leaves::literal` meets its contract.
use Rattle.lower.proofs.LeafLaws.{literal_fits, literal_taken, literal_hole}
use native.Mathlib.Omega.{arith}
use Rattle.lower.proofs.leaves.literal.Goals as goal

pub alloc_lone-requires : goal.alloc_lone-requires
alloc_lone-requires c = (omega arith, literal_fits _ _ _ _ c.literal_of.ensures _ c.in-Some.is)

pub returns-in-Some : goal.returns-in-Some
returns-in-Some c = literal_taken _ _ _ _ c.literal_of.ensures _ c.in-Some.is _ c.node_pointer-p.ensures c.alloc_lone.ensures

pub returns-in-None : goal.returns-in-None
returns-in-None c = literal_hole _ _ _ _ c.literal_of.ensures c.in-None.is c.alloc_missing.ensures
