-- `tree::nodes::count_kids` meets its contract.
use Rattle.std.proofs.Common.{◌∙◌, ap, ◌+◌, rules}
use Rattle.std.proofs.lemmas.Iterator.{YieldsList-from_slice}
use Rattle.std.proofs.lemmas.Iterator.Consumers.{YieldsList-from_filter, count_from_yields_List}
use Rattle.std.proofs.lemmas.List.Sums.{length-filter}
use borrow.Author.Tests.{tests, true-eqb, false-eqb}
use lib.Dec.{eqb}
use Rattle.tree.proofs.NodeLaws.{count_none, count_some}
use Rattle.tree.proofs.nodes.count_kids.Goals as goal

pub returns-then-is_empty : goal.returns-then-is_empty
returns-then-is_empty c = count_none _ (true-eqb _ 0 c.if-is_empty.ensures)

pub returns : goal.returns
returns c =
    ap (λ n. n + 1)
    (count_from_yields_List c.filter.result _ c.count.ensures.ran
    (YieldsList-from_filter _ (λ b. eqb b 44) (YieldsList-from_slice c.args.kids.now (cc)) c.filter.ensures.closure (λ x b q k. search (rules, tests)))
    ∙ length-filter (λ b. eqb b 44) c.args.kids.now)
    ∙ count_some _ c.requires (false-eqb _ 0 c.if-is_empty.ensures)
