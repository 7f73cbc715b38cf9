-- A Reference alone has a kept answer. Assumes nothing.
use mathlib.Core.Path.{◌≡◌, refl, ◌∙◌}
use mathlib.Core.Bool.{Bool, true, false}
use mathlib.Core.List.{List}
use mathlib.Core.Option.{none, some}
use Prim.Native.Nat.{ℕ, ◌≤◌, ◌<◌}
use native.Mathlib.Omega.{arith}
use lib.Dec.{eqb, ltb}
use borrow.Author.Tests.{eqb-true, eqb-false, ltb-true, ltb-false}
use Rattle.words.specs.Words.{word}
use Rattle.spec.specs.Scopes.{expr_at}
use Rattle.spec.specs.Answer as spec
use Rattle.spec.specs.Answer.{reference_text}
use Rattle.spec.specs.Kept.{kept_answer}
use Rattle.layout.specs.Layout.{expr_limit, expr_count}
use Rattle.layout.specs.Rows.{cap}
use Rattle.layout.specs.Exprs.{sort_of}
use Rattle.layout.specs.States.{module_in}
use Rattle.layout.specs.Keeps.{answer_in, kept_in}
use Rattle.layout.proofs.RowLaws.{get_d_rows, get_d_past}
use Rattle.rows.proofs.ReferenceLaws.{text_past, text_other, text_there}
use Rattle.kept.specs.Answers.{instead_of}

answers_past : (s : List ℕ) (e : ℕ) → cap (word s expr_count) expr_limit ≤ e → kept_answer (kept_in s) e ≡ none
unfolding kept_answer kept_in
answers_past s e h = get_d_past (answer_in s) (cap (word s expr_count) expr_limit) e none h

answers_in : (s : List ℕ) (e : ℕ) → e < cap (word s expr_count) expr_limit → kept_answer (kept_in s) e ≡ answer_in s e
unfolding kept_answer kept_in
answers_in s e h = get_d_rows (answer_in s) (cap (word s expr_count) expr_limit) e none h

-- what is no Reference has no answer
pub unanswered : (s : List ℕ) (e : ℕ) → reference_text (expr_at (module_in s) e) ≡ none → kept_answer (kept_in s) e ≡ none
unfolding answer_in sort_of
unanswered s e h = go (ltb e (cap (word s expr_count) expr_limit)) refl
  where
    sorted : e < cap (word s expr_count) expr_limit → (b : Bool) → eqb (sort_of s e) 21 ≡ b → kept_answer (kept_in s) e ≡ none
    sorted l true q =
        let z : ◌≡◌ {A = ℕ} 0 1 = cc (text_there s e _ _ refl l refl (eqb-true (sort_of s e) 21 q)) in
        absurd (omega arith)
    sorted l false q = answers_in s e l ∙ rw q

    go : (b : Bool) → ltb e (cap (word s expr_count) expr_limit) ≡ b → kept_answer (kept_in s) e ≡ none
    go true p = sorted (ltb-true e (cap (word s expr_count) expr_limit) p) (eqb (sort_of s e) 21) refl
    go false p = answers_past s e (ltb-false e (cap (word s expr_count) expr_limit) p)

-- a Reference has one, and another can stand in its place
pub answered : (s : List ℕ) (e : ℕ) (t : List ℕ) (a : spec.Answer) → reference_text (expr_at (module_in s) e) ≡ some t → instead_of (kept_answer (kept_in s) e) a ≡ some a
unfolding answer_in sort_of instead_of
answered s e t a h = go (ltb e (cap (word s expr_count) expr_limit)) refl
  where
    sorted : e < cap (word s expr_count) expr_limit → (b : Bool) → eqb (sort_of s e) 21 ≡ b → instead_of (kept_answer (kept_in s) e) a ≡ some a
    sorted l true q = rw (answers_in s e l, q)
    sorted l false q =
        let z : ◌≡◌ {A = ℕ} 0 1 = cc (text_other s e _ _ refl l refl (eqb-false (sort_of s e) 21 q)) in
        absurd (omega arith)

    go : (b : Bool) → ltb e (cap (word s expr_count) expr_limit) ≡ b → instead_of (kept_answer (kept_in s) e) a ≡ some a
    go true p = sorted (ltb-true e (cap (word s expr_count) expr_limit) p) (eqb (sort_of s e) 21) refl
    go false p =
        let z : ◌≡◌ {A = ℕ} 0 1 = cc (text_past s e _ refl (ltb-false e (cap (word s expr_count) expr_limit) p)) in
        absurd (omega arith)
