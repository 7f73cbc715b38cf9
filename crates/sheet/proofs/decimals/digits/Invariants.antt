use Rattle.sheet.proofs.DecimalLaws.{Digits}
use Rattle.sheet.proofs.decimals.digits.Given as goal

abbrev pub invariant-loop-c : goal.invariant-loop-c
invariant-loop-c l = Digits l.text l.value l.c-index
