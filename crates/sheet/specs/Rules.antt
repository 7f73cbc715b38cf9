-- The code's rules for texts are those of the definitions.
use Rattle.spec.specs.Kinds as spec
use Rattle.sheet.specs.declared.kinds.TextRule.{TextRule}
use Rattle.sheet.specs.declared.kinds.TextRule.TheVariants.{NoText, AnyText, Digits, Float, Named}

abbrev pub rule_of : TextRule → spec.TextRule
rule_of NoText = spec.no_text
rule_of AnyText = spec.any_text
rule_of Digits = spec.digits
rule_of Float = spec.float
rule_of Named = spec.named
