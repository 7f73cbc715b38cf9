-- `texts::held::text_fits` meets its contract.
use borrow.Author.Tests.{eq-eqb, ne_eqb}
use Rattle.texts.specs.Fits.{text_fits}
use Rattle.texts.proofs.held.text_fits.Goals as goal

pub returns-then-text-eq-ABSENT : goal.returns-then-text-eq-ABSENT
unfolding text_fits
returns-then-text-eq-ABSENT c = rw (eq-eqb _ _ c.if-text-eq-ABSENT.true)

pub returns-else-text-eq-ABSENT : goal.returns-else-text-eq-ABSENT
unfolding text_fits
returns-else-text-eq-ABSENT c = rw (ne_eqb _ _ c.if-text-eq-ABSENT.false, ← c.requires.1.0) c.lies_within.ensures
