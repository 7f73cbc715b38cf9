-- `moving::by_name::move_by_name` meets its contract.
use Rattle.moving.proofs.AllLaws.{moves_none, moves_all}
use native.Mathlib.Omega.{arith}
use Rattle.moving.proofs.by_name.move_by_name.Goals as goal

pub returns-then-count-eq0 : goal.returns-then-count-eq0
returns-then-count-eq0 c = moves_none _ _ _ _ (omega (arith, c.requires.1.1, c.if-count-eq0.true))

pub returns : goal.returns
returns c = moves_all _ _ _ _ _ _ _ c.requires.1.0.named c.move_answers.ensures c.list_references.ensures (λ z. c.if-count-eq0.false (omega (arith, c.requires.1.1)))
