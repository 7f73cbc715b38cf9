-- `sheet::texts::all_digits` meets its contract.
use Rattle.std.proofs.Common.{refl, length, ◌/◌}
use Rattle.std.proofs.lemmas.Iterator.{YieldsList-from_slice, cases_from_all}
use borrow.Author.Rules.{rules}
use borrow.Author.Tests.{tests}
use Rattle.spec.specs.Sheet.{is_digit}
use Rattle.std.proofs.Common.{◌≡◌, true, false}
use Rattle.sheet.proofs.DecimalLaws.{same_digit}
use Rattle.sheet.proofs.TextLaws.{byte_of, numbers_told}
use Rattle.sheet.proofs.texts.all_digits.Goals as goal

pub returns : goal.returns
returns c =
    numbers_told c.args.text.now (length c.args.text.now / 2) refl _
    (cases_from_all _ _ _ (λ p. is_digit (byte_of p) ≡ true) (λ p. is_digit (byte_of p) ≡ false) c.all.ensures.ran (YieldsList-from_slice _ (cc))
    (λ x q k. search (rules, tests, same_digit)) (λ x q k. search (rules, tests, same_digit)))
