-- `layout::rows::put_words` meets its contract.
use Rattle.std.specs.Prelude.{◌≡◌, ◌+◌, ◌*◌}
use Rattle.std.proofs.Common.{arith}
use mathlib.Core.Path.{◌∙◌, sym}
use Rattle.layout.proofs.WriteLaws.{words_more, words_end}
use Rattle.layout.proofs.rows.put_words.Goals as goal

pub loop-i-preserved : goal.loop-i-preserved
loop-i-preserved g c = c.loop-i.invariant ∙ words_more _ _ _ _ _ (omega arith) c.put32.ensures

pub returns : goal.returns
returns g c = sym (c.loop-i.invariant ∙ words_end c.loop-i.store (c.args.at + 4 * c.loop-i.i) c.loop-i.i c.args.words (omega arith))
