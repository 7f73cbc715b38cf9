-- `texts::add::add_text` meets its contract.
use Rattle.texts.proofs.AddLaws.{text_none, text_full, text_added}
use lib.ListN.{length}
use mathlib.Core.Path.{refl}
use native.Mathlib.Omega.{arith}
use Rattle.texts.proofs.add.add_text.Goals.{then-n-eq0-via-then-n-eq0, then-n-eq0-via-else-n-eq0+then-n-gt-LONGEST, then-n-eq0-via-else-n-eq0+else-n-gt-LONGEST+then-n-k}
use Rattle.texts.proofs.add.add_text.Goals as goal

pub returns-then-n-eq0 : goal.returns-then-n-eq0
returns-then-n-eq0 c =
    elim c.then-n-eq0.branch [
      | then-n-eq0-via-then-n-eq0 w ↦ text_none _ _ w.if-n-eq0.true
      | then-n-eq0-via-else-n-eq0+then-n-gt-LONGEST w ↦ text_full _ _ w.if-n-eq0.false (omega (arith, w.if-n-gt-LONGEST.true))
      | then-n-eq0-via-else-n-eq0+else-n-gt-LONGEST+then-n-k w ↦ text_full _ _ w.if-n-eq0.false (omega (arith, w.if-n-k.true, c.get32-k.ensures))
    ]

pub returns : goal.returns
returns c = text_added _ _ _ _ c.args.bytes.now c.get32-k.result (length c.args.bytes.now) c.requires c.get32-k.ensures refl c.if-n-eq0.false (omega (arith, c.if-n-k.false, c.if-n-gt-LONGEST.false)) c.put32.ensures c.copy_run.ensures c.put32-2.ensures
