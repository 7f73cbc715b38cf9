-- `put_text::put_text` meets its contract.
use Rattle.put_text.proofs.ChangeLaws.{may_move_lem, text_changed}
use Rattle.put_text.proofs.put_text.Goals as goal

pub move_answers_of-requires : goal.move_answers_of-requires
move_answers_of-requires c = (c.requires.0, (may_move_lem _ _ _ _ c.requires.1.0, c.requires.1.1))

pub returns : goal.returns
returns c = text_changed _ _ _ _ _ _ _ _ _ _ _ c.requires.1.1 c.requires.1.0 c.move_answers_of.ensures c.add_text-t.ensures c.set_text.ensures c.spend.ensures
