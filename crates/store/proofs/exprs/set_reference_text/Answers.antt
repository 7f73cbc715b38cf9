-- `store::exprs::set_reference_text` meets its contract.
use Rattle.store.proofs.TextChangeLaws.{reworded_at}
use borrow.Author.Rules.{rules}
use Rattle.store.proofs.exprs.set_reference_text.Goals as goal

pub returns-in-Some : goal.returns-in-Some
returns-in-Some c = reworded_at _ _ _ _ _ c.requires c.in-Some.ensures (search rules) c.put32.ensures
