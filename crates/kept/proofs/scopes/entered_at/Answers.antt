-- `kept::scopes::entered_at` meets its contract.
use Rattle.kept.proofs.ScopeReads.{named, below_cap}
use native.Mathlib.Omega.{arith}
use Rattle.kept.proofs.scopes.entered_at.Goals as goal

pub in_use-from-requires : goal.in_use-from-requires
in_use-from-requires c = let m = named _ _ _ (below_cap _ _ _ c.entered_count.ensures c.if-i-entered_count.true) in omega arith

pub get32-requires : goal.get32-requires
get32-requires c = let m = named _ _ _ (below_cap _ _ _ c.entered_count.ensures c.if-i-entered_count.true) in omega (arith, c.in_use-from.ensures.0)
