-- The loop of `nameres::resolution::answer_all`.
use Rattle.nameres.specs.Resolution.{AnswersFirst}
use Rattle.nameres.proofs.resolution.answer_all.Given as goal

abbrev pub invariant-loop-e : goal.invariant-loop-e
invariant-loop-e l = AnswersFirst l.e l.initial.store l.store
