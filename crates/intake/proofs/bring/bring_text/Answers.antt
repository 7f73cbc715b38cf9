-- `intake::bring::bring_text` meets its contract.
use Rattle.intake.proofs.BringTextLaws.{text_over, text_brought}
use mathlib.Core.Path.{refl}
use native.Mathlib.Omega.{arith}
use Rattle.intake.proofs.bring.bring_text.Goals as goal

pub returns-then-first-n-gt-SHEET_TEXT_LIMIT : goal.returns-then-first-n-gt-SHEET_TEXT_LIMIT
returns-then-first-n-gt-SHEET_TEXT_LIMIT c = text_over _ _ _ _ refl (omega arith)

pub returns : goal.returns
returns c = text_brought _ _ _ _ refl c.requires.0 (omega arith) _ _ c.put32.ensures c.decode_text.ensures
