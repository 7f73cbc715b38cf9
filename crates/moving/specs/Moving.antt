-- What a text set at a place moves in a store: one answer, and all of them.
use Rattle.std.specs.Prelude.{◌≡◌, Bool, true, false, not, List, [], ℕ, ◌+◌, ◌*◌, ◌≤◌, ◌<◌, length, set, if◌then◌else◌}
use Rattle.std.proofs.Math.Option.{Option, some}
use Rattle.words.specs.Words.{word}
use Rattle.spec.specs.Basics.{Text, ExprId, NameId}
use Rattle.spec.specs.Scopes.{expr_at, name_at, holder}
use Rattle.spec.specs.Answer as spec
use Rattle.spec.specs.Answer.{answer_at, reference_text, scope_of_expr}
use Rattle.spec.specs.Calls.{Place}
use Rattle.spec.specs.Moved.{same_answer, cons_if}
use Rattle.spec.specs.Kept.{Kept, tabulate, kept_answer, resolved_again, moved_by, listed_again}
use Rattle.layout.specs.Layout.{expr_count}
use Rattle.layout.specs.Rows.{set_all}
use Rattle.layout.specs.Changes.{Wrote, Still}
use Rattle.layout.specs.Regions.{resolving}
use Rattle.layout.specs.Texts.{text_in}
use Rattle.layout.specs.States.{module_in}
use Rattle.layout.specs.Keeps.{scopes_in, kept_in}
use Rattle.module.specs.Ids.{scope_of}
use Rattle.soundness.specs.Sound.{kept_fits}
use Rattle.answer.specs.declared.answer.Answer.{Answer}
use Rattle.answer.specs.Answers.{answer_with}
use Rattle.kept.specs.Answers.{AnswerFits, Unmoved, withs_at}
use Rattle.nameres.specs.Resolution.{Nameable, Scoped, set_to, Answers}
use Rattle.moving.specs.declared.named.Named.{Named}
use Rattle.std.specs.Prelude as rust

-- whether the text, set at the place, moves the answer of e: the test of `moved_by`
unfoldable pub differs : Kept → Place → Text → ExprId → Bool
differs k p t e = not (same_answer (kept_answer k e) (resolved_again k p t e))

-- ---- answers held against each other
-- whether two answers of the code are the same, whatever Withs are around
pub record SameHere (a b : Answer) (r : Bool) : Type 0 where
  pub says : (es : List ExprId) → r ≡ same_answer (some (answer_with a es)) (some (answer_with b es))

-- an answer, unless it is the one that is kept
pub record OtherThan (e : ExprId) (a : Answer) (s : List ℕ) (r : rust.Option Answer) : Type 0 where
  pub is : r ≡ (if same_answer (kept_answer (kept_in s) e) (some (answer_with a (withs_at (scopes_in s) e))) then rust.None else rust.Some a)

-- ---- what is known of a place
-- the text and the scope of a name
pub record About (s : List ℕ) (x : Named) : Type 0 where
  pub text : text_in s x.text.0 ≡ (name_at (module_in s) x.name.0).text
  pub scope : scope_of x.scope ≡ holder (scopes_in s) x.name.0

-- the expression is a Reference
pub record Refers (e : ExprId) (s : List ℕ) : Type 0 where
  pub text : Text
  pub is : reference_text (expr_at (module_in s) e) ≡ some text

-- ---- one answer
-- It is what some text means at the Reference e, with some texts of the names.
pub record Means (e : ExprId) (a : Answer) (s : List ℕ) : Type 0 where
  pub text_of : NameId → Text
  pub sought : Text
  pub says : answer_with a (withs_at (scopes_in s) e) ≡ answer_at text_of (scopes_in s).scopes sought (scope_of_expr (scopes_in s) e)
  pub refers : Refers e s

-- what becomes of it
pub record MovesTo (p : Place) (bytes : Text) (e : ExprId) (s : List ℕ) (r : rust.Option Answer) : Type 0 where
  pub stays : r ≡ rust.None → differs (kept_in s) p bytes e ≡ false
  pub moves : (a : Answer) → r ≡ rust.Some a
      → (differs (kept_in s) p bytes e ≡ true) × ((resolved_again (kept_in s) p bytes e ≡ some (answer_with a (withs_at (scopes_in s) e))) × Means e a s)

-- a buffer has room for one more, if there is one, after n numbers
pub record Fits (b : Bool) (n : ℕ) (buffer : List ℕ) : Type 0 where
  pub room : b ≡ true → 4 * n + 4 ≤ length buffer

unfoldable pub one_moved : Place → Text → ExprId → Kept → List (Option spec.Answer)
one_moved p t e k = set k.answers e (resolved_again k p t e)

-- It is moved, if it is another, and stands as number n in the buffer b, which is c now; r are there.
pub record MovesOne (p : Place) (bytes : Text) (e : ExprId) (n : ℕ) (s b : List ℕ) (r : ℕ) (t c : List ℕ) : Type 0 where
  pub answers : Answers (one_moved p bytes e) s t
  pub list : c ≡ set_all b (4 * n) (cons_if (differs (kept_in s) p bytes e) e [])
  pub count : r ≡ n + length (cons_if (differs (kept_in s) p bytes e) e [])

-- ---- all answers
-- the scopes of the store name only what a row can hold, and the buffer has room for the list
pub record Movable (p : Place) (bytes : Text) (s b : List ℕ) : Type 0 where
  pub named : Nameable (scopes_in s)
  pub room : 4 * length (moved_by (kept_in s) p bytes) ≤ length b

-- the first n
unfoldable pub first_moved : Place → Text → ℕ → Kept → List (Option spec.Answer)
first_moved p t n k = set_to (resolved_again k p t) n k.answers

unfoldable pub all_moved : Place → Text → Kept → List (Option spec.Answer)
all_moved p t k = tabulate (resolved_again k p t) 0 k.lowered.exprs

-- All that are others are moved, and they stand in the buffer b, which is c now.
pub record MovesAnswers (p : Place) (bytes : Text) (s b t c : List ℕ) : Type 0 where
  pub answers : Answers (all_moved p bytes) s t
  pub list : c ≡ set_all b 0 (moved_by (kept_in s) p bytes)

-- the answers that a text moves are moved, and the references of names are up to date; the text is not set
unfoldable pub moved : Place → Text → Kept → Kept
moved p t k =
    record {
      lowered = k.lowered;
      scopes = k.scopes;
      answers = all_moved p t k;
      references = listed_again k (all_moved p t k) (moved_by k p t);
      spent = k.spent;
    }

pub record Moves (p : Place) (bytes : Text) (s b t c : List ℕ) : Type 0 where
  pub wrote : Wrote resolving s t
  pub still : Still s t
  pub placed : Unmoved s t
  -- all fits where every answer and every reference fitted
  pub fits : Scoped s → kept_fits s ≡ true → ((e : ExprId) → e < word s expr_count → AnswerFits s e) → kept_fits t ≡ true
  pub does : kept_in t ≡ moved p bytes (kept_in s)
  pub list : c ≡ set_all b 0 (moved_by (kept_in s) p bytes)
