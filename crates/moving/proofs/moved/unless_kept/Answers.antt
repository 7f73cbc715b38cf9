-- `moving::moved::unless_kept` meets its contract.
use Rattle.std.specs.Prelude.{◌≡◌}
use Rattle.answer.specs.contracts.answer.AnswerPartialEq.TheImpl.{ghosts}
use Rattle.moving.proofs.SameLaws.{kept_one, kept_none}
use Rattle.moving.proofs.moved.unless_kept.Goals as goal

pub returns-then-eq : goal.returns-then-eq
returns-then-eq c = let e : c.eq.result ≡ ghosts.eq c.in-Some.was c.args.a = c.eq.ensures in rw c.if-eq.true at (kept_one _ _ _ _ c.kept_answer.ensures _ c.in-Some.is _ e)

pub returns-else-eq : goal.returns-else-eq
returns-else-eq c = let e : c.eq.result ≡ ghosts.eq c.in-Some.was c.args.a = c.eq.ensures in rw c.if-eq.false at (kept_one _ _ _ _ c.kept_answer.ensures _ c.in-Some.is _ e)

pub returns-in-None : goal.returns-in-None
returns-in-None c = kept_none _ _ _ _ c.kept_answer.ensures c.in-None.is
