-- `moving::by_name::moved_by_name` meets its contract.
use Rattle.moving.proofs.OneLaws.{not_movable, no_text_lem, by_name}
use Rattle.moving.proofs.by_name.moved_by_name.Goals as goal

pub returns-then-not-may_move : goal.returns-then-not-may_move
returns-then-not-may_move c = not_movable _ _ _ _ _ c.may_move.ensures c.if-not-may_move.true-raw

pub returns-in_default : goal.returns-in_default
returns-in_default c = no_text_lem _ _ _ _ _ c.may_move.ensures c.if-not-may_move.false-raw _ c.reference_text.ensures c.in_default.is

pub returns : goal.returns
returns c = by_name _ _ _ _ _ c.may_move.ensures c.if-not-may_move.false-raw _ c.reference_text.ensures _ c.in-Some.is _ c.resolve_renamed-a.ensures _ c.unless_kept.ensures
