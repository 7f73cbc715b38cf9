-- Listed anew from answers that are those worked out afresh, the kept references are those worked out afresh. Assumes
-- nothing.
use mathlib.Core.Path.{◌≡◌, sym}
use mathlib.Core.List.{List}
use Prim.Native.Nat.{ℕ}
use Rattle.spec.specs.Module.{Module}
use Rattle.spec.specs.Scopes.{Scopes}
use Rattle.spec.specs.Answer.{references}
use Rattle.spec.specs.Kept.{tabulate, answers_afresh, references_afresh, answered_with}
use Rattle.spec.proofs.general.ListLaws.{tabulate_same}
use Rattle.spec.proofs.change.Incremental.{Afresh, references_are}
use Rattle.layout.specs.Keeps.{kept_in}
use Rattle.kept.specs.References.{with_references}
use Rattle.listing.specs.Lists.{Lists}

-- THEOREM. The references of all names, as a load defines them, are listed by the answers.
pub references_listed : (m : Module) (w : Scopes) → references_afresh m w ≡ tabulate (λ x. answered_with x 0 (answers_afresh m w)) 0 m.names
unfolding references_afresh
references_listed m w = tabulate_same (references m w) (λ x. answered_with x 0 (answers_afresh m w)) (references_are m w) 0 m.names

-- THEOREM. A store whose kept answers are those worked out afresh has kept references that are so too, once they are
-- listed anew.
pub listed_afresh : (s t : List ℕ) → Lists s t → (kept_in s).answers ≡ answers_afresh (kept_in s).lowered (kept_in s).scopes → Afresh (kept_in t)
unfolding with_references
listed_afresh s t d e =
    rw d.does (record { answers = e; references = rw e (sym (references_listed (kept_in s).lowered (kept_in s).scopes)) })
