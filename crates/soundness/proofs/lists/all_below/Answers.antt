-- `soundness::lists::all_below` meets its contract.
use Rattle.std.proofs.Common.{rules}
use Rattle.soundness.proofs.RangeLaws.{all_of_rows}
use Prim.Native.Nat.{◌+◌, ◌*◌}
use lib.Dec.{ltb}
use Rattle.words.specs.Words.{word}
use mathlib.Core.Path.{refl}
use Rattle.soundness.proofs.lists.all_below.Goals as goal

pub returns : goal.returns
returns c = all_of_rows (λ j. ltb (word c.args.store.now (c.args.at + 4 * j)) c.args.bound) _ _ c.all.ensures.ran (λ x b q k. search rules) _ refl
