use Rattle.std.proofs.Common.{refl, true}
use Rattle.spec.specs.Basics.{bytes}
use Rattle.spec.specs.Sheet.{line, field, hex, wrong_text, text_fits, malformed}
use Rattle.sheet.specs.Keyed.{line_of, field_of}
use Rattle.sheet.specs.Texts.{decoded}
use Rattle.sheet.specs.Lines.{span_of}
use Rattle.sheet.specs.Rules.{rule_of}
use Rattle.sheet.proofs.Exits.{same_error, nothing}
use Rattle.sheet.proofs.VerdictLaws.{tested_bad, tested_right, tested_wrong}
use Rattle.sheet.proofs.position.Position.text.Goals as goal

pub returns-in_err-text-clause-result_value : goal.returns-in_err-text-clause-result_value
unfolding line_of line field_of field
returns-in_err-text-clause-result_value c =
    let p = nothing _ _ _ c.in_err-text.ensures.value in
    rw (same_error _ _ c.from_residual.ensures.1, p.1, c.refused-malformed.ensures.0, c.refused-malformed.ensures.1)
    (tested_bad (bytes "text=") hex wrong_text (text_fits (rule_of c.args.rule) c.args.flag) (λ a. true) (λ a e. refl) c.args.s.now c.args.self.at malformed c.args.self.at (rw p.0 at c.text_line.ensures.result_value))

pub returns-then-not-fits-clause-result_value : goal.returns-then-not-fits-clause-result_value
unfolding line_of line field_of field
returns-then-not-fits-clause-result_value c =
    rw (c.refused.ensures.0, c.refused.ensures.1)
    (tested_wrong (bytes "text=") hex wrong_text (text_fits (rule_of c.args.rule) c.args.flag) (λ a. true) (λ a e. refl) c.args.s.now c.args.self.at
    (decoded (span_of c.args.s.now c.in_ok-text.text)) _ (rw c.in_ok-text.ensures.ok_part at c.text_line.ensures.result_value)
    (rw c.of.ensures at c.if-not-fits.ensures))

pub returns-clause-result_value : goal.returns-clause-result_value
unfolding line_of line field_of field
returns-clause-result_value c =
    tested_right (bytes "text=") hex wrong_text (text_fits (rule_of c.args.rule) c.args.flag) (λ a. true) (λ a e. refl) c.args.s.now c.args.self.at
    (decoded (span_of c.args.s.now c.in_ok-text.text)) _ (rw c.in_ok-text.ensures.ok_part at c.text_line.ensures.result_value)
    (rw c.of.ensures at c.if-not-fits.ensures)
