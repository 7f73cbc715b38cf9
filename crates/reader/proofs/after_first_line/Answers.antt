-- `reader::after_first_line` meets its contract.
use mathlib.Core.Path.{sym}
use Prim.Native.Nat.{◌≤◌}
use native.Mathlib.Omega.{arith}
use lib.ListN.{length}
use lib.Seq.{length-take-le}
use Rattle.reader.proofs.ReadingLaws.{after_inside}
use Rattle.reader.proofs.after_first_line.Goals as goal

pub returns-clause-upper_bound : goal.returns-clause-upper_bound
returns-clause-upper_bound c =
    let inside : c.next_line-r.result.at ≤ length c.args.sheet.now = grind (arith, after_inside c.args.sheet.now 0 (omega arith)) in
    (inside, sym (length-take-le c.next_line-r.result.at c.args.sheet.now inside))
