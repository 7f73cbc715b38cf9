-- `words::word::put32` meets its contract.
use Rattle.words.specs.Words.{set_word}
use Rattle.words.proofs.WordLaws.{bytes_of_four}
use Rattle.words.proofs.word.put32.Goals as goal

pub returns : goal.returns
unfolding set_word
returns c = rw (← bytes_of_four c.args.v, ← c.to_le_bytes.ensures) c.put_bytes.ensures
