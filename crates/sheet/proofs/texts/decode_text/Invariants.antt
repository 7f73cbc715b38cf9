-- The loop of `sheet::texts::decode_text`.
use Rattle.std.proofs.Common.{◌≡◌, take}
use Rattle.words.specs.Runs.{splice}
use Rattle.sheet.specs.Texts.{decoded}
use Rattle.sheet.proofs.texts.decode_text.Given as goal

abbrev pub invariant-loop-i : goal.invariant-loop-i
invariant-loop-i l = l.d ≡ splice l.fn.d l.at (take l.i (decoded l.text))
