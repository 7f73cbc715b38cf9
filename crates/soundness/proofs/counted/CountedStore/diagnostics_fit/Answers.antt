-- `soundness::counted::CountedStore::diagnostics_fit` meets its contract.
use Rattle.std.proofs.Common.{rules}
use Rattle.soundness.proofs.RangeLaws.{all_of_rows}
use Prim.Native.Nat.{◌+◌, ◌*◌}
use Rattle.layout.specs.Layout.{diagnostic_row, diagnostics_at}
use Rattle.words.specs.Words.{word}
use Rattle.texts.specs.Fits.{text_fits}
use Rattle.soundness.specs.Sound.{diagnostics_fit}
use mathlib.Core.Path.{refl}
use Rattle.soundness.proofs.counted.CountedStore.diagnostics_fit.Goals as goal

pub returns : goal.returns
unfolding diagnostics_fit
returns c = rw (← c.args.self.now.counted.taken.diagnostics) (all_of_rows (λ i. text_fits c.args.self.now.store.now (word c.args.self.now.store.now (diagnostics_at + diagnostic_row * i))) _ _ c.all.ensures.ran (λ x b q k. search rules) _ refl)
