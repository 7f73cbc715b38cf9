-- `store::exprs::alloc_missing` meets its contract.
use Rattle.store.proofs.ExprLaws.{missing_allocated}
use mathlib.Core.Path.{refl}
use Rattle.store.proofs.exprs.alloc_missing.Goals as goal

pub returns : goal.returns
returns c = missing_allocated _ _ (record { sort = 0; a = 0; b = 0; c = 0 }) _ _ _ c.waiting_count-base.ensures refl c.alloc_row.ensures
