-- `kept::references::reference_at` meets its contract.
use Rattle.kept.proofs.ReferenceLaws.{found}
use native.Mathlib.Omega.{arith}
use Rattle.kept.proofs.references.reference_at.Goals as goal

pub in_use-from-requires : goal.in_use-from-requires
in_use-from-requires c = let m = found c.args.store.now c.args.x.0 _ _ c.reference_count.ensures c.if-i-reference_count.true in omega arith

pub get32-requires : goal.get32-requires
get32-requires c = let m = found c.args.store.now c.args.x.0 _ _ c.reference_count.ensures c.if-i-reference_count.true in omega (arith, c.in_use-from.ensures.0)
