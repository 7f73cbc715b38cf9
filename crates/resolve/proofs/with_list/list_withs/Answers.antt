-- `resolve::with_list::list_withs` meets its contract.
use Rattle.resolve.proofs.IdLaws.{a_scope, no_scope}
use Rattle.resolve.proofs.WithListLaws.{lists_none, lists_short, lists_all}
use Rattle.resolve.proofs.with_list.list_withs.Goals as goal
use Rattle.resolve.proofs.with_list.list_withs.Goals.{then-count-buffer, else-count-buffer}

pub returns-in_default : goal.returns-in_default
returns-in_default c = lists_none _ _ _ (no_scope c.in_default.is c.scope_of.ensures)

pub returns : goal.returns
returns c =
    elim c.if-count-buffer.branch [
      | then-count-buffer w ↦ rw w.buffer-is (lists_all _ _ _ (a_scope c.in-Some.is c.scope_of.ensures) _ c.count_withs-count.ensures.0 _ _ w.if-count-buffer.true w.write_withs.ensures)
      | else-count-buffer w ↦ rw w.buffer-is (lists_short _ _ _ (a_scope c.in-Some.is c.scope_of.ensures) _ c.count_withs-count.ensures.0 _ w.if-count-buffer.false)
    ]
