-- The functions of the cycle `+walk` meet their contracts.
use Rattle.spec.specs.Kinds.{takes}
use Rattle.tree.proofs.WalkLaws.{stops, walks_as, misnumbered, misplaced, too_deep, goes_in, miscounted, kids_walked, skipped, no_place, no_slot, onward, stopped_in, low_kid, going_more, going_ends}
use Rattle.std.proofs.lemmas.Result.{err_from_is_err_and}
use mathlib.Core.Path.{◌∙◌, ap}
use native.Mathlib.Omega.{arith}
use Rattle.tree.proofs.nodes.Tree.+walk.Goals as goal

-- ---- enter

pub enter-returns-then-k-front : goal.enter-returns-then-k-front
enter-returns-then-k-front t c = stops _ _ _ _ c.refused.ensures (misnumbered _ _ _ _ _ _ c.if-k-front.true)

pub enter-returns-then-not-takes : goal.enter-returns-then-not-takes
enter-returns-then-not-takes t c =
    stops _ _ _ _ c.refused-then-not-takes.ensures
    (misplaced _ _ _ _ _ _ c.if-k-front.false (c.if-not-takes.ensures ∙ ap (takes _) c.lines-lines.ensures.kind))

pub enter-returns-then-parent-eq0 : goal.enter-returns-then-parent-eq0
enter-returns-then-parent-eq0 t c =
    stops _ _ _ _ c.refused-then-parent-eq0.ensures
    (too_deep _ _ _ _ _ _ c.if-k-front.false (c.if-not-takes.ensures ∙ ap (takes _) c.lines-lines.ensures.kind) c.if-parent-eq0.true)

pub enter-returns : goal.enter-returns
enter-returns t c =
    walks_as (goes_in _ _ _ _ _ _ c.if-k-front.false (c.if-not-takes.ensures ∙ ap (takes _) c.lines-lines.ensures.kind) c.if-parent-eq0.false) c.walk.ensures

-- ---- walk

pub walk-returns-then-not-fit : goal.walk-returns-then-not-fit
walk-returns-then-not-fit t c = stops _ _ _ _ c.refused.ensures (miscounted _ _ _ _ c.requires _ c.count_kids.ensures c.if-not-fit.ensures)

pub walk-returns : goal.walk-returns
walk-returns t c = walks_as (kids_walked _ _ _ _ c.requires _ c.count_kids.ensures c.if-not-fit.ensures _ c.of-places.ensures) c.walk_kids.ensures

-- ---- walk_kid

pub walk_kid-returns-in_err-places : goal.walk_kid-returns-in_err-places
walk_kid-returns-in_err-places t c =
    let p = err_from_is_err_and c.from_residual.result c.from_residual.ensures.1 in
    rw (p.1, p.2) (no_place _ _ _ c.args.todo _ c.in_default.is _ c.skip.ensures _ c.refused.ensures _ c.in_err-places.ensures.value c.in_err-places.ensures.ok_part)

pub walk_kid-returns-in_default : goal.walk_kid-returns-in_default
walk_kid-returns-in_default t c =
    skipped _ _ _ c.args.todo _ c.in_default.is _ c.skip.ensures _ c.in_ok-places.ensures.ok_part c.requires.1

pub walk_kid-returns-in_err-slot : goal.walk_kid-returns-in_err-slot
walk_kid-returns-in_err-slot t c =
    let p = err_from_is_err_and c.from_residual-in_err-slot.result c.from_residual-in_err-slot.ensures.1 in
    rw (p.1, p.2) (no_slot _ _ _ c.args.todo _ _ c.in-Some.is _ c.fill.ensures _ c.refused-2.ensures _ c.in_err-slot.ensures.value c.in_err-slot.ensures.ok_part)

pub walk_kid-returns-in_err-front : goal.walk_kid-returns-in_err-front
walk_kid-returns-in_err-front t c =
    let p = err_from_is_err_and c.from_residual-in_err-front.result c.from_residual-in_err-front.ensures.1 in
    rw (p.1, p.2) (stopped_in _ _ _ c.args.todo _ _ c.in-Some.is _ c.fill.ensures _ c.in_ok-slot.ensures.ok_part _ c.in_err-front.ensures)

pub walk_kid-returns : goal.walk_kid-returns
walk_kid-returns t c = onward _ _ _ c.args.todo _ _ c.in-Some.is _ c.fill.ensures _ c.in_ok-slot.ensures.ok_part _ c.in_ok-front.ensures

-- ---- walk_kids

pub walk_kids-walk_kid-requires : goal.walk_kids-walk_kid-requires
walk_kids-walk_kid-requires t c = (omega (arith, c.decreases), (low_kid _ _ _ _ c.in-Some.ensures c.loop-kid.invariant.low, c.loop-kid.invariant.ready))

pub walk_kids-loop-kid-preserved : goal.walk_kids-loop-kid-preserved
walk_kids-loop-kid-preserved t c = going_more c.loop-kid.invariant _ _ c.in-Some.ensures _ c.in_ok-todo.ensures

pub walk_kids-returns : goal.walk_kids-returns
walk_kids-returns t c = going_ends c.loop-kid.invariant c.in_default.ensures
