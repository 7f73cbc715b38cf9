-- The loop of `resolve::references::write_references`.
use Rattle.layout.specs.Keeps.{kept_in}
use Rattle.resolve.proofs.ReferenceLaws.{Copying}
use Rattle.spec.specs.Kept.{kept_references}
use Rattle.resolve.proofs.references.write_references.Given as goal

abbrev pub invariant-loop-i : goal.invariant-loop-i
invariant-loop-i l = Copying (kept_references (kept_in l.store) l.x.0) l.initial.buffer l.i l.buffer
