-- `store::names::set_name_text` meets its contract.
use Rattle.store.proofs.TextChangeLaws.{names_cap, renamed}
use borrow.Author.Rules.{rules}
use Rattle.store.proofs.names.set_name_text.Goals as goal

pub returns : goal.returns
returns c = renamed _ _ _ _ _ c.requires (names_cap _ _ c.name_count.ensures.0) c.if-name_count-n.false (search rules) c.put32.ensures
