-- One answer worked out, and the answers of all expressions, in a store. Assumes nothing.
use mathlib.Core.Path.{◌≡◌, refl, sym, ap, ◌∙◌}
use mathlib.Core.Bool.{Bool, true, false}
use mathlib.Core.List.{List}
use mathlib.Core.Option.{Option, none, some}
use Prim.Native.Nat.{ℕ, ◌+◌, ◌*◌, ◌≤◌, ◌<◌}
use native.Mathlib.Numerals.{add-one}
use native.Mathlib.Omega.{arith}
use lib.Dec.{ltb}
use lib.ListN.{length}
use borrow.Author.Tests.{ne_eqb, ltb-true, ltb-false}
use Rattle.spec.specs.Basics.{ExprId}
use Rattle.spec.specs.Lower.{module_of}
use Rattle.spec.specs.Scopes.{expr_at}
use Rattle.spec.specs.Answer as spec
use Rattle.spec.specs.Answer.{text_of_name, answer_at, scope_of_expr, reference_text, answer_of, answer}
use Rattle.spec.specs.Kept.{Kept, answers_afresh}
use Rattle.layout.specs.Layout.{absent, expr_limit, use_row, expr_count, name_count, uses_at, scopes_at, firsts_at}
use Rattle.layout.specs.Rows.{cap}
use Rattle.layout.specs.Changes.{Wrote}
use Rattle.layout.specs.Regions.{answering}
use Rattle.layout.specs.Texts.{text_in, maybe_text}
use Rattle.layout.specs.Exprs.{made_in}
use Rattle.layout.specs.States.{exprs_of, state_of, module_in}
use Rattle.layout.specs.Keeps.{scopes_in, answer_in, kept_in}
use Rattle.layout.proofs.RowLaws.{length_rows, cap_le}
use Rattle.layout.proofs.Frames.{same_on, number_kept, wrote_none, wrote_then}
use Rattle.layout.proofs.WriteLaws.{still_then}
use Rattle.words.specs.Words.{word}
use Rattle.answer.specs.declared.answer.Answer.{Answer}
use Rattle.answer.specs.declared.answer.Answer.TheVariants.{Unresolved}
use Rattle.answer.specs.Answers.{answer_with}
use Rattle.answer.specs.Words.{answer_word}
use Rattle.kept.specs.Answers.{withs_at, instead_of, answered_now, keep_answer, Answered, AnswerFits}
use Rattle.spec.proofs.general.Sums.{compared}
use Rattle.soundness.proofs.FrameLaws.{scopes_fit_kept}
use Rattle.nameres.proofs.UseLaws.{unanswered, answered}
use Rattle.kept.proofs.SoundChanges.{answered_wrote, answered_placed, answered_other}
use Rattle.nameres.specs.Resolution.{Nameable, Scoped, with_answers, set_to, Answers, one_afresh, first_afresh, AnswersOne, AnswersFirst, AnswersAll}
use Rattle.nameres.proofs.HeldLaws.{answer_held, word_fits}
use Rattle.nameres.proofs.AnswerLoops.{set_to_all}
use Rattle.kept.proofs.AnswerLaws.{scopes_of_lem}
use Rattle.module.specs.declared.ids.TextId as rust_text_id
use Rattle.std.specs.Prelude as rust

pub module_kept : (s : List ℕ) → (kept_in s).lowered ≡ module_in s
unfolding kept_in
module_kept s = refl

same_kept : (k : Kept) (as' : List (Option spec.Answer)) → as' ≡ k.answers → with_answers as' k ≡ k
unfolding with_answers
same_kept k as' e = rw e

-- ---- what fits
-- the names are as many as they were
names_as : {s t : List ℕ} → Wrote answering s t → word t name_count ≡ word s name_count
names_as w = number_kept w 4 refl

-- scopes fit while answers are written
pub scoped_still : (as' : Kept → List (Option spec.Answer)) (s t : List ℕ) → Answers as' s t → Scoped s → Scoped t
scoped_still as' s t a h =
    let exprs = number_kept a.wrote 0 refl in
    let few = h.few_exprs in
    record {
      fits = scopes_fit_kept s t exprs (names_as a.wrote) (number_kept a.wrote 20 refl) (same_on scopes_at firsts_at a.wrote refl) (λ e l. a.placed.scope e (omega arith)) h.fits;
      few_exprs = rw exprs h.few_exprs;
      few_names = rw (names_as a.wrote) h.few_names;
    }

-- nothing is written
pub answers_none : (as' : Kept → List (Option spec.Answer)) (s : List ℕ) → as' (kept_in s) ≡ (kept_in s).answers → Answers as' s s
answers_none as' s e =
    record {
      wrote = wrote_none answering s;
      still = record { same = refl; used = refl };
      placed = record { scope = λ i l. refl };
      fits = λ _ i h. h;
      does = λ _. sym (same_kept (kept_in s) (as' (kept_in s)) e);
    }

-- the same answers, said otherwise
pub answers_as : (as' bs' : Kept → List (Option spec.Answer)) (s t : List ℕ) → Answers as' s t → as' (kept_in s) ≡ bs' (kept_in s) → Answers bs' s t
answers_as as' bs' s t a e =
    record {
      wrote = a.wrote;
      still = a.still;
      placed = a.placed;
      fits = a.fits;
      does = λ named. a.does named ∙ ap (λ (os : List (Option spec.Answer)). with_answers os (kept_in s)) e;
    }

-- one answer whose number fits
module _ (s t : List ℕ) (e : ExprId) (a : Answer) (put : Answered e a s t) (low : Scoped s → answer_word a < 24 + word s name_count) where
  names_put : word t name_count ≡ word s name_count
  names_put = names_as (answered_wrote e a s t put)

  has_word : Scoped s → answer_word a ≡ absent → ⊥
  has_word h q = omega (arith, low h, h.few_names)

  put_fits : Scoped s → e < cap (word s expr_count) expr_limit → AnswerFits t e
  unfolding AnswerFits
  put_fits h l = rw (put.row l (has_word h), names_put) (low h)

  pub put_fit : Scoped s → e < word s expr_count → AnswerFits t e
  put_fit h l = put_fits h (rw (cap_le (word s expr_count) expr_limit h.few_exprs) l)

  pub put_keeps : Scoped s → (i : ExprId) → AnswerFits s i → AnswerFits t i
  unfolding AnswerFits
  put_keeps h i f = compared i e (λ q. rw q (here (rw q at f))) (λ q. rw (answered_other e a s t put i q, names_put) f)
    where
      here : word s (uses_at + use_row * e + 4) < 24 + word s name_count → word t (uses_at + use_row * e + 4) < 24 + word t name_count
      here g = go (ltb e (cap (word s expr_count) expr_limit)) refl
        where
          go : (b : Bool) → ltb e (cap (word s expr_count) expr_limit) ≡ b → word t (uses_at + use_row * e + 4) < 24 + word t name_count
          go true q = put_fits h (ltb-true e (cap (word s expr_count) expr_limit) q)
          go false q = rw (put.past (ltb-false e (cap (word s expr_count) expr_limit) q)) g

-- ---- one expression
-- what is no Reference has no answer
pub afresh_other : (s t : List ℕ) (e : ExprId) (r : rust.Option rust_text_id.TextId) → maybe_text s r ≡ reference_text (expr_at (module_in s) e) → r ≡ rust.None → Answered e Unresolved s t → AnswersOne e s t
unfolding one_afresh answer answer_of maybe_text keep_answer answer_word answered_now instead_of with_answers
afresh_other s t e r h q put =
    let n : reference_text (expr_at (module_in s) e) ≡ none = sym h ∙ ap (maybe_text s) q in
    let low : Scoped s → answer_word Unresolved < 24 + word s name_count = λ _. omega arith in
    record {
      answers = record {
        wrote = answered_wrote e Unresolved s t put;
        still = put.still;
        placed = record { scope = λ i l. answered_placed e Unresolved s t put i };
        fits = put_keeps s t e Unresolved put low;
        does = λ _. put.does ∙ rw (unanswered s e n, module_kept s, n);
      };
      fit = put_fit s t e Unresolved put low;
    }

module _ (s t : List ℕ) (e k : ℕ) (r : rust.Option rust_text_id.TextId) (a : Answer)
    (h : maybe_text s r ≡ reference_text (expr_at (module_in s) e)) (q : r ≡ rust.Some (record { 0 = k }))
    (says : answer_with a (withs_at (scopes_in s) e) ≡ answer_at (text_of_name (module_in s)) (scopes_in s).scopes (text_in s k) (scope_of_expr (scopes_in s) e))
    (put : Answered e a s t) where
  has_text_lem : reference_text (expr_at (module_in s) e) ≡ some (text_in s k)
  unfolding maybe_text
  has_text_lem = sym h ∙ ap (maybe_text s) q

  worked_out : answer (kept_in s).lowered (kept_in s).scopes e ≡ some (answer_with a (withs_at (scopes_in s) e))
  unfolding answer answer_of
  worked_out = rw (module_kept s, scopes_of_lem s, has_text_lem, says)

  now_kept : answered_now (kept_in s) e a ≡ some (answer_with a (withs_at (scopes_in s) e))
  unfolding answered_now kept_in
  now_kept = answered s e (text_in s k) (answer_with a (withs_at (scopes_in s) e)) has_text_lem

  its_word : Scoped s → answer_word a < 24 + word s name_count
  its_word scoped = word_fits (text_of_name (module_in s)) s (text_in s k) (scope_of_expr (scopes_in s) e) a (withs_at (scopes_in s) e) scoped says

  -- a Reference has the answer that is worked out
  pub afresh_reference : AnswersOne e s t
  unfolding one_afresh keep_answer with_answers
  afresh_reference =
      record {
        answers = record {
          wrote = answered_wrote e a s t put;
          still = put.still;
          placed = record { scope = λ i l. answered_placed e a s t put i };
          fits = put_keeps s t e a put its_word;
          does = λ named.
              put.does ∙ rw (ne_eqb (answer_word a) absent (answer_held (text_of_name (module_in s)) (scopes_in s) (text_in s k) (scope_of_expr (scopes_in s) e) a (withs_at (scopes_in s) e) named says), now_kept, worked_out);
        };
        fit = put_fit s t e a put its_word;
      }

-- ---- all expressions, one after the other
pub named_still : (as' : List (Option spec.Answer)) (s u : List ℕ) → kept_in u ≡ with_answers as' (kept_in s) → Nameable (scopes_in s) → Nameable (scopes_in u)
unfolding with_answers
named_still as' s u e h = rw (sym (scopes_of_lem u) ∙ ap (λ (k : Kept). k.scopes) e ∙ scopes_of_lem s) h

pub afresh_none : (s : List ℕ) → AnswersFirst 0 s s
unfolding first_afresh set_to
afresh_none s = record { answers = answers_none (first_afresh 0) s refl; fit = λ _ e l. absurd (omega arith) }

more_afresh : (n : ℕ) (s u t : List ℕ) → Answers (first_afresh n) s u → Answers (one_afresh n) u t → Answers (first_afresh (n + 1)) s t
unfolding first_afresh one_afresh set_to with_answers
more_afresh n s u t a b =
    record {
      wrote = wrote_then a.wrote b.wrote;
      still = still_then a.still b.still;
      placed = record { scope = λ e l. b.placed.scope e l ∙ a.placed.scope e l };
      fits = λ h e f. b.fits (scoped_still _ s u a h) e (a.fits h e f);
      does = λ named. b.does (named_still _ s u (a.does named) named) ∙ rw (a.does named, add-one);
    }

pub afresh_more : (n : ℕ) (s u t : List ℕ) → AnswersFirst n s u → AnswersOne n u t → AnswersFirst (n + 1) s t
afresh_more n s u t a b =
    record {
      answers = more_afresh n s u t a.answers b.answers;
      fit = λ h e l k.
          let scoped = scoped_still (first_afresh n) s u a.answers h in
          let c : word u expr_count ≡ word s expr_count = number_kept a.answers.wrote 0 refl in
          compared e n
          (λ q. rw q (b.fit scoped (rw (c, ← q) k)))
          (λ q. b.answers.fits scoped e (a.fit h e (omega arith) k));
    }

-- as many answers as expressions
pub answers_many : (s : List ℕ) → length (kept_in s).answers ≡ length (exprs_of s)
unfolding kept_in exprs_of
answers_many s = length_rows (answer_in s) (cap (word s expr_count) expr_limit) ∙ sym (length_rows (made_in s) (cap (word s expr_count) expr_limit))

pub exprs_many : (s : List ℕ) → length (kept_in s).lowered.exprs ≡ length (exprs_of s)
unfolding kept_in module_in module_of state_of
exprs_many s = refl

afresh_all : (n : ℕ) (s t : List ℕ) → n ≡ length (exprs_of s) → Answers (first_afresh n) s t → Answers (λ k. answers_afresh k.lowered k.scopes) s t
unfolding first_afresh answers_afresh
afresh_all n s t e a =
    answers_as (first_afresh n) (λ k. answers_afresh k.lowered k.scopes) s t a
    (set_to_all (answer (kept_in s).lowered (kept_in s).scopes) none n (kept_in s).answers (kept_in s).lowered.exprs (answers_many s ∙ sym e) (exprs_many s ∙ sym e))

-- there are no more expressions than the count says
exprs_used : (s : List ℕ) → Scoped s → length (exprs_of s) ≡ word s expr_count
unfolding exprs_of
exprs_used s h = length_rows (made_in s) (cap (word s expr_count) expr_limit) ∙ cap_le (word s expr_count) expr_limit h.few_exprs

-- at the end of the loop
pub afresh_done : (e n : ℕ) (s t : List ℕ) → AnswersFirst e s t → e ≤ n → n ≤ e → n ≡ length (exprs_of s) → AnswersAll s t
afresh_done e n s t a l h c =
    record {
      answers = afresh_all e s t (omega (arith, c)) a.answers;
      fit = λ scoped i k. a.fit scoped i (omega (arith, c, exprs_used s scoped)) k;
    }
