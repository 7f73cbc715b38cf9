-- The loops of `soundness::firsts::firsts_ascend`.
use Prim.Native.Nat.{◌+◌, ◌*◌}
use Rattle.soundness.proofs.SoundLaws.{Climbs}
use Rattle.words.specs.Words.{word}
use Rattle.soundness.proofs.firsts.firsts_ascend.Given as goal

abbrev pub invariant-loop-i : goal.invariant-loop-i
invariant-loop-i l = Climbs (λ k. word l.store (l.at + l.stride * k)) l.i l.last
