-- `keys::items::next_item` meets its contract.
use Rattle.keys.proofs.ItemLaws.{passed_more, passed_item, passed_end}
use Rattle.keys.proofs.items.next_item.Goals as goal

pub returns-in-Some : goal.returns-in-Some
returns-in-Some c = passed_item c.loop-at.invariant _ c.kid_count-at-end.ensures c.loop-at-test.true _ c.kid.ensures _ c.in-Some.is

pub loop-at-preserved : goal.loop-at-preserved
loop-at-preserved c = passed_more c.loop-at.invariant _ c.kid_count-at-end.ensures c.loop-at-test.true _ c.kid.ensures c.in_default.is

pub returns : goal.returns
returns c = passed_end c.loop-at.invariant _ c.kid_count-at-end.ensures c.loop-at-test.false
