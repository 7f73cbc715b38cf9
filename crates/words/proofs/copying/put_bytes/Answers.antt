-- `words::copying::put_bytes` meets its contract.
use Rattle.words.proofs.RunLaws.{splice_is}
use lib.ListN.{length}
use lib.Seq.{take-length}
use Rattle.std.proofs.lemmas.Slice.{put_mid-paste}
use mathlib.Core.Path.{refl, sym, ◌∙◌}
use native.Mathlib.Omega.{arith}
use Rattle.words.proofs.copying.put_bytes.Goals as goal

pub returns : goal.returns
returns c =
    put_mid-paste _ _ _ _ _ (length c.args.t.now) c.copy_from_slice.ensures.after (omega arith) refl
    ∙ rw (take-length c.args.t.now) (sym (splice_is _ _ _ _ refl c.requires))
