-- `moving::named::bears_either` meets its contract.
use Rattle.moving.proofs.NamedLaws.{bears_new}
use Rattle.moving.proofs.named.bears_either.Goals as goal

pub returns : goal.returns
returns c = bears_new _ _ _ _ _ c.reference_text.ensures _ c.in-Some.is _ c.texts_equal.ensures _ c.if-texts_equal.false c.text_is.ensures
