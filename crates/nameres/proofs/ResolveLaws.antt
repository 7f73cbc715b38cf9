-- Answers worked out, and from these the kept references listed anew. Assumes nothing.
use mathlib.Core.Path.{◌≡◌, refl, sym, ◌∙◌}
use mathlib.Core.Logic.{inl, inr, ⊎_elim}
use mathlib.Core.Bool.{true}
use mathlib.Core.List.{List}
use mathlib.Core.Option.{Option}
use Prim.Native.Nat.{ℕ, ◌+◌, ◌*◌, ◌<◌}
use native.Mathlib.Omega.{arith}
use Rattle.words.specs.Words.{word}
use Rattle.spec.specs.Basics.{ExprId}
use Rattle.spec.specs.Answer.{Answer}
use Rattle.spec.specs.Kept.{Kept, tabulate, answered_with}
use Rattle.layout.specs.Layout.{expr_limit, name_limit, use_row, expr_count, name_count, uses_at, scopes_at, firsts_at}
use Rattle.layout.specs.Rows.{cap}
use Rattle.layout.specs.Changes.{Outside, Wrote, Still}
use Rattle.layout.specs.Regions.{resolving}
use Rattle.layout.specs.Keeps.{scopes_in, kept_in}
use Rattle.layout.proofs.RowLaws.{cap_le}
use Rattle.layout.proofs.Frames.{same_on, number_kept}
use Rattle.layout.proofs.WriteLaws.{still_then}
use Rattle.soundness.specs.Sound.{kept_fits}
use Rattle.soundness.specs.Coded.{ScopesFit}
use Rattle.soundness.proofs.FrameLaws.{KeptFits, kept_from, scopes_fit_kept}
use Rattle.kept.specs.Answers.{AnswerFits, Unmoved}
use Rattle.kept.specs.References.{Listed, with_references}
use Rattle.listing.specs.Lists.{relisting, Lists}
use Rattle.listing.proofs.Afresh.{references_listed}
use Rattle.nameres.specs.Resolution.{Nameable, Scoped, with_answers, Answers, AnswersAll, Resolved}
use Rattle.nameres.proofs.StepLaws.{scoped_still}

module _ (as' : Kept → List (Option Answer)) (s u t : List ℕ) (a : Answers as' s u) (l : Lists u t) where
  pub both_wrote : Wrote resolving s t
  unfolding Outside relisting
  both_wrote = record {
    size = l.wrote.size ∙ a.wrote.size;
    other = λ j o.
        l.wrote.other j (⊎_elim (λ z. inl z) (λ z. inr (omega arith)) o.1.0, (⊎_elim (λ z. inl (omega arith)) (λ z. inr z) o.1.0, tt))
        ∙ a.wrote.other j (o.0, tt);
  }

  pub both_still : Still s t
  both_still = still_then a.still l.still

  pub both_placed : Unmoved s t
  unfolding relisting
  both_placed = record { scope = λ e q. same_on uses_at scopes_at l.wrote refl (uses_at + use_row * e) (omega arith) (omega arith) ∙ a.placed.scope e q }

  -- all fits where every answer does once the answers are written
  pub both_fits : Scoped s → ((e : ExprId) → e < word s expr_count → AnswerFits u e) → kept_fits t ≡ true
  unfolding AnswerFits relisting
  both_fits h fit = kept_from t (fitting (number_kept l.wrote 0 refl) (number_kept l.wrote 4 refl) (number_kept a.wrote 0 refl) (number_kept a.wrote 4 refl))
    where
      scoped : Scoped u
      scoped = scoped_still as' s u a h

      fitting : word t expr_count ≡ word u expr_count → word t name_count ≡ word u name_count → word u expr_count ≡ word s expr_count → word u name_count ≡ word s name_count → KeptFits t
      fitting exprs names exprs_were names_were =
          let few = scoped.few_exprs in
          let uses = same_on uses_at scopes_at l.wrote refl in
          let all : cap (word u name_count) name_limit ≡ word t name_count = cap_le (word u name_count) name_limit scoped.few_names ∙ sym names in
          let some_exprs : cap (word u expr_count) expr_limit ≡ word t expr_count = cap_le (word u expr_count) expr_limit scoped.few_exprs ∙ sym exprs in
          let listed : Listed (word t name_count) t = rw (← all) l.listed in
          record {
            placed = λ e q.
                let m : e < word u expr_count = rw exprs at q in
                rw (uses (uses_at + use_row * e) (omega arith) (omega arith), number_kept l.wrote 20 refl) (scoped.fits.placed e m);
            answers = λ e q.
                let m : e < word u expr_count = rw exprs at q in
                let k : e < word s expr_count = rw exprs_were at m in
                rw (uses (uses_at + use_row * e + 4) (omega arith) (omega arith), names) (fit e k);
            listed = record { begins = listed.begins; rises = listed.rises; few = listed.few };
            references = λ j q. rw some_exprs at (l.exprs j (rw all q));
          }

  -- what is kept then
  pub both_does : Nameable (scopes_in s)
      → kept_in t ≡ with_references (tabulate (λ x. answered_with x 0 (as' (kept_in s))) 0 (kept_in s).lowered.names) (with_answers (as' (kept_in s)) (kept_in s))
  unfolding with_answers
  both_does named = l.does ∙ rw (a.does named)

-- THEOREM. All is kept as it is worked out afresh.
pub resolved : (s u t : List ℕ) → AnswersAll s u → Lists u t → Resolved s t
unfolding with_answers with_references
resolved s u t all l =
    let a = all.answers in
    record {
      wrote = both_wrote _ s u t a l;
      still = both_still _ s u t a l;
      placed = both_placed _ s u t a l;
      fits = λ h. both_fits _ s u t a l h (all.fit h);
      does = λ named. both_does _ s u t a l named ∙ rw (references_listed (kept_in s).lowered (kept_in s).scopes);
    }

-- scopes fit while all is resolved
module _ (s t : List ℕ) (w : Wrote resolving s t) (placed : Unmoved s t) where
  pub resolving_scopes : Scoped s → ScopesFit t
  resolving_scopes h =
      let few = h.few_exprs in
      scopes_fit_kept s t (number_kept w 0 refl) (number_kept w 4 refl) (number_kept w 20 refl) (same_on scopes_at firsts_at w refl) (λ e q. placed.scope e (omega arith)) h.fits
