-- Kept answers and kept references in a store: what is read of them, and what each writer did.
use Rattle.std.specs.Prelude.{◌≡◌, List, [], ◌∷◌, ℕ, ◌+◌, ◌*◌, ◌≤◌, ◌<◌, set, eqb, if◌then◌else◌}
use Rattle.std.proofs.Math.Option.{Option, none, some}
use Rattle.spec.specs.Basics.{ExprId, ScopeId}
use Rattle.spec.specs.Scopes.{Scopes}
use Rattle.spec.specs.Answer as spec
use Rattle.spec.specs.Answer.{chain, withs_of, scope_of_expr}
use Rattle.spec.specs.Kept.{Kept, kept_answer}
use Rattle.answer.specs.declared.answer.Answer.{Answer}
use Rattle.answer.specs.Answers.{answer_with}
use Rattle.answer.specs.Words.{answer_word}
use Rattle.words.specs.Words.{word}
use Rattle.layout.specs.Layout.{absent, expr_limit, use_row, expr_count, name_count, uses_at}
use Rattle.layout.specs.Rows.{cap}
use Rattle.layout.specs.Changes.{Wrote, Still}
use Rattle.layout.specs.Keeps.{kept_in}

-- the Withs around a use in a scope, innermost first, and around an expression
unfoldable pub withs_in : Scopes → Option ScopeId → List ExprId
withs_in w none = []
withs_in w (some i) = withs_of w.scopes (chain w.scopes i)

unfoldable pub withs_at : Scopes → ExprId → List ExprId
withs_at w e = withs_in w (scope_of_expr w e)

-- another answer where there is one: of a Reference alone
unfoldable pub instead_of : Option spec.Answer → spec.Answer → Option spec.Answer
instead_of none a = none
instead_of (some before) a = some a

unfoldable pub answered_now : Kept → ExprId → Answer → Option spec.Answer
answered_now k e a = instead_of (kept_answer k e) (answer_with a (withs_at k.scopes e))

unfoldable pub keep_answer : ExprId → Answer → Kept → Kept
keep_answer e a k =
    if eqb (answer_word a) absent then k
    else record { lowered = k.lowered; scopes = k.scopes; answers = set k.answers e (answered_now k e a); references = k.references; spent = k.spent }

-- The answer a of the expression e is kept, as its word, and nothing else is another. An expression that is no
-- Reference has the word too.
pub record Answered (e : ExprId) (a : Answer) (s t : List ℕ) : Type 0 where
  pub wrote : Wrote ((uses_at + use_row * e + 4, uses_at + use_row * e + 8) ∷ []) s t
  pub still : Still s t
  pub does : kept_in t ≡ keep_answer e a (kept_in s)
  pub row : e < cap (word s expr_count) expr_limit → (answer_word a ≡ absent → ⊥) → word t (uses_at + use_row * e + 4) ≡ answer_word a
  pub past : cap (word s expr_count) expr_limit ≤ e → t ≡ s

-- ---- of the rows beside what they say
-- what stands as the answer of an expression, which may be no Reference, is the word of one that there can be
unfoldable pub AnswerFits : List ℕ → ExprId → Type 0
AnswerFits s e = word s (uses_at + use_row * e + 4) < 24 + word s name_count

-- the scope of no expression is another
pub record Unmoved (s t : List ℕ) : Type 0 where
  pub scope : (e : ExprId) → e < expr_limit → word t (uses_at + use_row * e) ≡ word s (uses_at + use_row * e)
