-- compute_name_resolution in a store: the kept answer of every Reference, and of every name its references.
use Rattle.std.specs.Prelude.{◌≡◌, true, List, ℕ, zero, suc, ◌≤◌, ◌<◌, set}
use Rattle.std.proofs.Math.Option.{Option}
use Rattle.words.specs.Words.{word}
use Rattle.spec.specs.Basics.{ExprId, ScopeId}
use Rattle.spec.specs.Scopes.{Scopes}
use Rattle.spec.specs.Answer.{Answer, answer, scope_at}
use Rattle.spec.specs.Kept.{Kept, answers_afresh, references_afresh}
use Rattle.spec.proofs.sound.ScopeRange.{KindIn}
use Rattle.layout.specs.Layout.{expr_count, name_count, expr_limit, name_limit}
use Rattle.layout.specs.Changes.{Wrote, Still}
use Rattle.layout.specs.Regions.{answering, resolving}
use Rattle.layout.specs.Keeps.{scopes_in, kept_in}
use Rattle.soundness.specs.Sound.{kept_fits}
use Rattle.soundness.specs.Coded.{ScopesFit}
use Rattle.kept.specs.Answers.{AnswerFits, Unmoved}

-- What each scope holds has a number that a row can hold: so it is in what a load leaves, and in every sound store.
pub record Nameable (w : Scopes) : Type 0 where
  pub kinds : (s : ScopeId) → KindIn name_limit expr_limit (scope_at w.scopes s).kind

-- The scopes of a store fit, and so do its counts of expressions and names.
pub record Scoped (s : List ℕ) : Type 0 where
  pub fits : ScopesFit s
  pub few_exprs : word s expr_count ≤ expr_limit
  pub few_names : word s name_count ≤ name_limit

unfoldable pub with_answers : List (Option Answer) → Kept → Kept
with_answers as' k = record { lowered = k.lowered; scopes = k.scopes; answers = as'; references = k.references; spent = k.spent }

-- the first n of a list, each set anew
unfoldable pub set_to : {A : Type 0} → (ℕ → A) → ℕ → List A → List A
set_to f zero xs = xs
set_to f (suc n) xs = set (set_to f n xs) n (f n)

-- The answers are as `as'` says of what was kept, and nothing else is another. What fitted as an answer, in whatever
-- row, goes on to fit.
pub record Answers (as' : Kept → List (Option Answer)) (s t : List ℕ) : Type 0 where
  pub wrote : Wrote answering s t
  pub still : Still s t
  pub placed : Unmoved s t
  pub fits : Scoped s → (e : ExprId) → AnswerFits s e → AnswerFits t e
  pub does : Nameable (scopes_in s) → kept_in t ≡ with_answers (as' (kept_in s)) (kept_in s)

-- the answer of the expression e worked out afresh
unfoldable pub one_afresh : ExprId → Kept → List (Option Answer)
one_afresh e k = set k.answers e (answer k.lowered k.scopes e)

-- the answers of the first n expressions
unfoldable pub first_afresh : ℕ → Kept → List (Option Answer)
first_afresh n k = set_to (answer k.lowered k.scopes) n k.answers

-- ---- worked out afresh, an answer fits whatever stood there
-- of the expression e
pub record AnswersOne (e : ExprId) (s t : List ℕ) : Type 0 where
  pub answers : Answers (one_afresh e) s t
  pub fit : Scoped s → e < word s expr_count → AnswerFits t e

-- of the first n expressions
pub record AnswersFirst (n : ℕ) (s t : List ℕ) : Type 0 where
  pub answers : Answers (first_afresh n) s t
  pub fit : Scoped s → (e : ExprId) → e < n → e < word s expr_count → AnswerFits t e

-- of all of them
pub record AnswersAll (s t : List ℕ) : Type 0 where
  pub answers : Answers (λ k. answers_afresh k.lowered k.scopes) s t
  pub fit : Scoped s → (e : ExprId) → e < word s expr_count → AnswerFits t e

-- ---- with the kept references, which are listed anew
-- All is kept as it is worked out afresh, and it fits whatever stood there.
pub record Resolved (s t : List ℕ) : Type 0 where
  pub wrote : Wrote resolving s t
  pub still : Still s t
  pub placed : Unmoved s t
  pub fits : Scoped s → kept_fits t ≡ true
  pub does : Nameable (scopes_in s) → kept_in t ≡ (record {
    lowered = (kept_in s).lowered;
    scopes = (kept_in s).scopes;
    answers = answers_afresh (kept_in s).lowered (kept_in s).scopes;
    references = references_afresh (kept_in s).lowered (kept_in s).scopes;
    spent = (kept_in s).spent;
  })
