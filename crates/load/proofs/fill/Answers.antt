-- `load::fill` meets its contract.
use Rattle.load.proofs.FillLaws.{fills}
use Rattle.load.proofs.fill.Goals as goal

pub returns : goal.returns
returns c = fills c.requires c.clear.ensures c.bring_nodes.ensures c.lower.ensures c.keep_module.ensures
