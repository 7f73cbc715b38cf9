-- The loop of `moving::by_name::move_answers`.
use Rattle.moving.proofs.AllLaws.{Moving}
use Rattle.spec.specs.Calls.{at_name}
use Rattle.moving.proofs.by_name.move_answers.Given as goal

abbrev pub invariant-loop-e : goal.invariant-loop-e
invariant-loop-e l = Moving (at_name l.name.name.0) l.new l.initial.store l.initial.moved l.e l.count l.store l.moved
