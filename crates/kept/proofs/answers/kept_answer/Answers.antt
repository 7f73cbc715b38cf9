-- `kept::answers::kept_answer` meets its contract.
use Rattle.kept.proofs.AnswerLaws.{kept_out}
use Rattle.kept.proofs.answers.kept_answer.Goals as goal

pub returns-then-in_use-i : goal.returns-then-in_use-i
returns-then-in_use-i c = kept_out _ _ _ _ c.in_use.ensures.0 c.if-in_use-i.true
