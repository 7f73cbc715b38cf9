-- `tree::places::Places::fit` meets its contract.
use Rattle.tree.proofs.PlaceLaws.{count_exact, count_short, count_long}
use native.Mathlib.Omega.{arith}
use lib.ListN.{length}
use mathlib.Core.Path.{◌∙◌}
use borrow.Author.Tests.{lt-leb}
use Rattle.tree.proofs.places.Places.fit.Goals as goal

pub returns-in-None : goal.returns-in-None
returns-in-None c = count_exact _ c.args.kids c.args.self c.requires c.in-None.is

pub returns-then-kids-least : goal.returns-then-kids-least
returns-then-kids-least c = count_long _ c.args.kids c.args.self c.requires _ c.in-Some.is (omega arith) _ c.short_enough.ensures

pub returns-else-kids-least : goal.returns-else-kids-least
returns-else-kids-least c = lt-leb (length c.args.self.counted.now) c.args.kids (omega arith) ∙ count_short _ c.args.kids c.args.self c.requires _ c.in-Some.is (omega arith)
