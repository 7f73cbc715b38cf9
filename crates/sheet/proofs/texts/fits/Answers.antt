-- `sheet::texts::fits` meets its contract.
use Rattle.sheet.proofs.TextLaws.{fits_none, fits_any, fits_digits, fits_float, fits_no_float, fits_named, fits_no_name}
use Rattle.sheet.specs.Rules.{rule_of}
use mathlib.Core.Path.{ap, ◌∙◌}
use borrow.Author.Tests.{eq-eqb}
use Rattle.sheet.proofs.texts.fits.Goals as goal

pub returns-then-flag-eq1 : goal.returns-then-flag-eq1
returns-then-flag-eq1 c = fits_float _ _ _ (ap rule_of c.in-Float.is) c.if-flag-eq1.true _ c.is_float.ensures

pub returns-then-flag-eq1-2 : goal.returns-then-flag-eq1-2
returns-then-flag-eq1-2 c = eq-eqb _ 1 c.if-flag-eq1-2.true ∙ fits_named _ _ _ (ap rule_of c.in-Named.is) c.if-flag-eq1-2.true

pub returns-in-NoText : goal.returns-in-NoText
returns-in-NoText c = fits_none _ _ _ (ap rule_of c.in-NoText.is) _ c.is_empty.ensures

pub returns-in-AnyText : goal.returns-in-AnyText
returns-in-AnyText c = fits_any _ _ _ (ap rule_of c.in-AnyText.is)

pub returns-in-Digits : goal.returns-in-Digits
returns-in-Digits c = fits_digits _ _ _ (ap rule_of c.in-Digits.is) _ c.is_number.ensures

pub returns-else-flag-eq1 : goal.returns-else-flag-eq1
returns-else-flag-eq1 c = fits_no_float _ _ _ (ap rule_of c.in-Float.is) c.if-flag-eq1.false _ c.is_empty-else-flag-eq1.ensures

pub returns-else-flag-eq1-2 : goal.returns-else-flag-eq1-2
returns-else-flag-eq1-2 c = fits_no_name _ _ _ (ap rule_of c.in-Named.is) c.if-flag-eq1-2.false _ c.is_empty-else-flag-eq1-2.ensures
