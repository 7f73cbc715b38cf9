-- `merge::inherit::inherited_from` meets its contract.
use Rattle.merge.proofs.InheritSteps.{inherits_from}
use Rattle.module.specs.Ids.{binding_of}
use Rattle.rows.specs.Decoded.{item_with}
use Rattle.merge.proofs.inherit.inherited_from.Goals as goal

pub returns : goal.returns
unfolding binding_of item_with
returns c = inherits_from _ _ _ c.waiting_count-base.ensures c.alloc_expr-l.ensures c.push_item.ensures c.alloc_expr-e.ensures
