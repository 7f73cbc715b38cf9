-- The functions of the cycle `+finishing` meet their contracts.
use Rattle.merge.proofs.FinishLaws.{static_listed}
use Rattle.open_sets.specs.Entries.{entry_with}
use Rattle.rows.specs.Decoded.{item_with}
use Rattle.merge.proofs.finish.+finishing.Goals as goal

pub finish_entry-returns-in-Static : goal.finish_entry-returns-in-Static
unfolding entry_with item_with
finish_entry-returns-in-Static t c = rw c.in-Static.is (static_listed _ _ _ _ _ _ _ _ c.finish_value-v.ensures c.push_item.ensures)
