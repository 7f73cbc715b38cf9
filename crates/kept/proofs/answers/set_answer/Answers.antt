-- `kept::answers::set_answer` meets its contract.
use Rattle.kept.proofs.AnswerLaws.{kept_now}
use borrow.Author.Rules.{rules}
use Rattle.kept.proofs.answers.set_answer.Goals as goal

pub returns : goal.returns
returns c = kept_now _ _ _ _ _ _ c.requires c.in_use.ensures.0 c.if-in_use-i.false c.answer_word-n.ensures c.if-n.false (search rules) c.put32.ensures
