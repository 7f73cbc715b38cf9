-- `words::word::get32` meets its contract.
use Rattle.words.proofs.WordLaws.{word_bytes}
use Prim.Native.Nat.{◌+◌}
use native.Mathlib.Omega.{arith}
use Rattle.words.proofs.word.get32.Goals as goal

pub returns : goal.returns
returns c =
    let byte = c.type_inv.s in
    let at = c.args.at in
    omega (arith, word_bytes c.args.s.now at c.requires, c.from_le_bytes.ensures, byte at, byte (at + 1), byte (at + 2), byte (at + 3))
