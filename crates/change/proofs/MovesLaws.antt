-- What a change moves in any store, sound or not and whoever made it. Assumes nothing.
use mathlib.Core.Path.{sym, ◌∙◌}
use mathlib.Core.List.{List}
use Prim.Native.Nat.{ℕ}
use Rattle.spec.specs.Calls.{Call}
use Rattle.spec.specs.Demand.{Moves}
use Rattle.spec.proofs.change.Demand3.{call_moves}
use Rattle.layout.specs.Keeps.{kept_in}
use Rattle.soundness.specs.Sound.{condition_of}
use Rattle.nameres.proofs.StepLaws.{answers_many, exprs_many}
use Rattle.requests.specs.Requests.{outcome_in, Changed}

-- THEOREM. It moves only what it may and tells exactly what it moved: of a Reference one answer at most, of a name no
-- more than there are References that bear its old or new text in its scope or inside it.
pub changed_moves : (c : Call) (s b p : List ℕ) (r : ℕ) (t b' p' : List ℕ) → Changed c s b p r t b' p' → Moves (kept_in s) c (outcome_in s c) (kept_in t)
unfolding outcome_in
changed_moves c s b p r t b' p' x = rw x.leaves.kept (call_moves (kept_in s) (answers_many s ∙ sym (exprs_many s)) (condition_of s) c)
