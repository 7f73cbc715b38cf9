-- `texts::read::text_bytes` meets its contract.
use Rattle.words.specs.Runs.{run}
use mathlib.Core.Path.{sym}
use Rattle.texts.proofs.read.text_bytes.Goals as goal

pub returns-clause-bytes : goal.returns-clause-bytes
unfolding run
returns-clause-bytes c = sym c.text_range.ensures.same
