use Rattle.std.proofs.Common.{◌∙◌, ap, not}
use Rattle.sheet.proofs.TextLaws.{number_none, number_some}
use Rattle.sheet.proofs.texts.is_number.Goals as goal

pub returns-then-not-is_empty : goal.returns-then-not-is_empty
returns-then-not-is_empty c = number_some _ c.if-not-is_empty.ensures c.all_digits.result c.all_digits.ensures

pub returns-else-not-is_empty : goal.returns-else-not-is_empty
returns-else-not-is_empty c = ap not c.if-not-is_empty.false ∙ number_none _ c.if-not-is_empty.ensures
