-- All answers that a text moves, and with them the references of names. Assumes nothing.
use mathlib.Core.Path.{◌≡◌, refl, sym, ap, ◌∙◌}
use mathlib.Core.Bool.{Bool, true, false}
use mathlib.Core.List.{List, [], ◌∷◌}
use mathlib.Core.Option.{Option, none}
use Prim.Native.Nat.{ℕ, ◌+◌, ◌*◌, ◌≤◌, ◌<◌}
use native.Mathlib.Nat.{zero-add}
use native.Mathlib.Numerals.{add-one}
use native.Mathlib.Omega.{arith}
use lib.Dec.{eqb}
use lib.ListN.{length, get_or, length-set}
use lib.Seq.{ext_get_or, get_or-set_same, get_or-set_other}
use borrow.Author.Tests.{eqb-true, ne_eqb}
use Rattle.words.specs.Words.{set_word}
use Rattle.spec.specs.Basics.{Text, ExprId}
use Rattle.spec.specs.Answer as spec
use Rattle.spec.specs.Calls.{Place, at_reference}
use Rattle.spec.specs.Moved.{cons_if, may_move}
use Rattle.spec.specs.Kept.{Kept, tabulate, kept_answer, resolved_again, moved_by, answered_with, listed_again}
use Rattle.spec.proofs.general.Sums.{compared}
use Rattle.spec.proofs.general.BoolLaws.{differ}
use Rattle.spec.proofs.general.ListLaws.{get_d_tabulate, length_tabulate}
use Rattle.spec.proofs.change.MovedLaws.{answer_same, differs_nowhere}
use Rattle.layout.specs.Rows.{set_all}
use Rattle.layout.specs.Regions.{resolving}
use Rattle.layout.specs.States.{exprs_of, module_in}
use Rattle.layout.specs.Keeps.{scopes_in, kept_in}
use Rattle.layout.proofs.Frames.{wrote_none, wrote_then, text_still}
use Rattle.layout.proofs.WriteLaws.{still_then}
use Rattle.answer.specs.declared.answer.Answer.{Answer}
use Rattle.kept.specs.Answers.{Answered}
use Rattle.kept.specs.References.{with_references}
use Rattle.kept.proofs.AnswerLaws.{scopes_of_lem}
use Rattle.listing.specs.Lists.{Lists}
use Rattle.nameres.specs.Resolution.{Nameable, with_answers, set_to, Answers}
use Rattle.nameres.proofs.AnswerLoops.{get_d_set_to_past, set_to_all}
use Rattle.nameres.proofs.StepLaws.{module_kept, scoped_still, answers_none, answers_as, named_still, answers_many, exprs_many}
use Rattle.nameres.proofs.ResolveLaws.{both_wrote, both_still, both_placed, both_fits, both_does}
use Rattle.moving.specs.Moving.{differs, About, Refers, MovesTo, Fits, one_moved, MovesOne, first_moved, all_moved, MovesAnswers, moved, Moves}
use Rattle.moving.specs.declared.named.Named.{Named}
use Rattle.moving.proofs.OneLaws.{refers_in, moves_put, one_counted, none_counted}
use Rattle.moving.proofs.ListLaws.{Writing, writing_none, writing_fits, writing_on, writing_done, single_moved}
use Rattle.std.specs.Prelude as rust

-- as many expressions as are counted
pub counted : (s : List ℕ) (n : ℕ) → n ≡ length (exprs_of s) → n ≡ length (kept_in s).lowered.exprs
counted s n h = h ∙ sym (exprs_many s)

-- ---- one after the other
pub record Moving (p : Place) (t : Text) (s b : List ℕ) (e n : ℕ) (u c : List ℕ) : Type 0 where
  pub answers : Answers (first_moved p t e) s u
  pub list : Writing (kept_in s) p t b e n c

pub moving_none : (p : Place) (t : Text) (s b : List ℕ) → Moving p t s b 0 0 s b
unfolding first_moved set_to
moving_none p t s b = record { answers = answers_none (first_moved p t 0) s refl; list = writing_none (kept_in s) p t b }

module _ (p : Place) (t : Text) (s b : List ℕ) (e n : ℕ) (u c : List ℕ) (m : Moving p t s b e n u c) (named : Nameable (scopes_in s)) where
  -- what is not reached yet is as it was
  again_still : resolved_again (kept_in u) p t e ≡ resolved_again (kept_in s) p t e
  unfolding resolved_again kept_answer first_moved with_answers
  again_still = rw (m.answers.does named, get_d_set_to_past (resolved_again (kept_in s) p t) none e (kept_in s).answers e (omega arith))

  kept_still : kept_answer (kept_in u) e ≡ kept_answer (kept_in s) e
  unfolding kept_answer first_moved with_answers
  kept_still = rw (m.answers.does named) (get_d_set_to_past (resolved_again (kept_in s) p t) none e (kept_in s).answers e (omega arith))

  differs_still : differs (kept_in u) p t e ≡ differs (kept_in s) p t e
  unfolding differs
  differs_still = rw (again_still, kept_still)

  pub moving_fits : 4 * length (moved_by (kept_in s) p t) ≤ length b → e < length (kept_in s).lowered.exprs → Fits (differs (kept_in u) p t e) n c
  moving_fits room l = record { room = λ d. writing_fits (kept_in s) p t b e n c m.list room l (sym differs_still ∙ d) }

  module _ (r : ℕ) (v d : List ℕ) (one : MovesOne p t e n u c r v d) where
    more_answers : Answers (first_moved p t (e + 1)) s v
    unfolding first_moved one_moved set_to with_answers
    more_answers =
        let a = m.answers in
        let o = one.answers in
        record {
          wrote = wrote_then a.wrote o.wrote;
          still = still_then a.still o.still;
          placed = record { scope = λ i l. o.placed.scope i l ∙ a.placed.scope i l };
          fits = λ h i f. o.fits (scoped_still _ s u a h) i (a.fits h i f);
          does = λ _. o.does (named_still _ s u (a.does named) named) ∙ rw (again_still, a.does named, add-one);
        }

    pub moving_on : e < length (kept_in s).lowered.exprs → Moving p t s b (e + 1) r v d
    moving_on l =
        record {
          answers = more_answers;
          list = writing_on (kept_in s) p t b e n c m.list r d (one.list ∙ rw differs_still) (one.count ∙ rw differs_still) l;
        }

-- ---- all of them
all_as_first : (p : Place) (t : Text) (n : ℕ) (s u : List ℕ) → n ≡ length (exprs_of s) → Answers (first_moved p t n) s u → Answers (all_moved p t) s u
unfolding first_moved all_moved
all_as_first p t n s u e a =
    answers_as (first_moved p t n) (all_moved p t) s u a
    (set_to_all (resolved_again (kept_in s) p t) none n (kept_in s).answers (kept_in s).lowered.exprs (answers_many s ∙ sym e) (exprs_many s ∙ sym e))

pub moving_done : (p : Place) (t : Text) (s b : List ℕ) (e n q : ℕ) (u c : List ℕ) → Moving p t s b e q u c → e ≤ n → n ≤ e → n ≡ length (exprs_of s) → MovesAnswers p t s b u c
moving_done p t s b e n q u c m l h k =
    record {
      answers = all_as_first p t e s u (omega (arith, k)) m.answers;
      list = writing_done (kept_in s) p t b e q c m.list (omega (arith, counted s n k));
    }

-- the name stays what it was
pub about_still : (p : Place) (t : Text) (n : ℕ) (s u : List ℕ) (x : Named) → Answers (first_moved p t n) s u → Nameable (scopes_in s) → About s x → About u x
unfolding with_answers
about_still p t n s u x a named about =
    let k = a.does named in
    let m : module_in u ≡ module_in s = sym (module_kept u) ∙ ap (λ (q : Kept). q.lowered) k ∙ module_kept s in
    let w : scopes_in u ≡ scopes_in s = sym (scopes_of_lem u) ∙ ap (λ (q : Kept). q.scopes) k ∙ scopes_of_lem s in
    record { text = text_still s u x.text.0 a.still ∙ about.text ∙ rw m; scope = about.scope ∙ rw w }

-- ---- with the references of names
-- where nothing moves the answers are those that are kept
unmoved_answers : (p : Place) (t : Text) (s : List ℕ) → moved_by (kept_in s) p t ≡ [] → all_moved p t (kept_in s) ≡ (kept_in s).answers
unfolding all_moved moved_by kept_answer
unmoved_answers p t s h =
    ext_get_or none _ _ (length_tabulate _ 0 (kept_in s).lowered.exprs ∙ exprs_many s ∙ sym (answers_many s)) λ i l.
    let n = length_tabulate (resolved_again (kept_in s) p t) 0 (kept_in s).lowered.exprs in
    get_d_tabulate (resolved_again (kept_in s) p t) none 0 (kept_in s).lowered.exprs i (omega (arith, n))
    ∙ ap (resolved_again (kept_in s) p t) (zero-add i)
    ∙ sym (differs_nowhere (kept_in s).lowered (kept_answer (kept_in s)) (resolved_again (kept_in s) p t) h i (omega (arith, n)))

empty : (es : List ℕ) → length es ≡ 0 → es ≡ []
empty [] h = refl
empty (e ∷ es) h = absurd (omega arith)

pub moves_none : (p : Place) (t : Text) (s b : List ℕ) → length (moved_by (kept_in s) p t) ≡ 0 → Moves p t s b s b
unfolding moved listed_again set_all
moves_none p t s b h =
    let none_moved = empty (moved_by (kept_in s) p t) h in
    record {
      wrote = wrote_none resolving s;
      still = record { same = refl; used = refl };
      placed = record { scope = λ i l. refl };
      fits = λ _ k _. k;
      does = rw (none_moved, unmoved_answers p t s none_moved);
      list = rw none_moved;
    }

listed_again_lem : (k : Kept) (as' : List (Option spec.Answer)) (es : List ExprId) → (length es ≡ 0 → ⊥) → listed_again k as' es ≡ tabulate (λ x. answered_with x 0 as') 0 k.lowered.names
unfolding listed_again
listed_again_lem k as' [] h = absurd (h refl)
listed_again_lem k as' (e ∷ es) h = refl

pub moves_all : (p : Place) (t : Text) (s b u v c : List ℕ) → Nameable (scopes_in s) → MovesAnswers p t s b u c → Lists u v → (length (moved_by (kept_in s) p t) ≡ 0 → ⊥) → Moves p t s b v c
unfolding moved with_answers with_references
moves_all p t s b u v c named a l some_moved =
    record {
      wrote = both_wrote (all_moved p t) s u v a.answers l;
      still = both_still (all_moved p t) s u v a.answers l;
      placed = both_placed (all_moved p t) s u v a.answers l;
      fits = λ h _ fitted. both_fits (all_moved p t) s u v a.answers l h (λ e q. a.answers.fits h e (fitted e q));
      does = both_does (all_moved p t) s u v a.answers l named ∙ rw (listed_again_lem (kept_in s) (all_moved p t (kept_in s)) (moved_by (kept_in s) p t) some_moved);
      list = a.list;
    }

-- ---- of a Reference
-- its own answer alone differs
itself_only : (k : Kept) (n : ExprId) (t : Text) (e : ExprId) → differs k (at_reference n) t e ≡ true → e ≡ n
unfolding differs resolved_again may_move
itself_only k n t e h = go (eqb e n) refl
  where
    go : (b : Bool) → eqb e n ≡ b → e ≡ n
    go true q = eqb-true e n q
    go false q = differ (sym h ∙ rw (q, answer_same (kept_answer k e)))

module _ (s : List ℕ) (e : ExprId) (t : Text) (refers : Refers e s) (r : rust.Option Answer) (to : MovesTo (at_reference e) t e s r) where
  its_own : moved_by (kept_in s) (at_reference e) t ≡ cons_if (differs (kept_in s) (at_reference e) t e) e []
  its_own = single_moved (kept_in s) (at_reference e) t e (itself_only (kept_in s) e t) (rw (module_kept s) (refers_in s e refers))

  pub reference_counted : (a : Answer) → r ≡ rust.Some a → 1 ≡ length (moved_by (kept_in s) (at_reference e) t)
  reference_counted a q = one_counted (at_reference e) t e s r to a q ∙ rw its_own

  pub none_of_it : r ≡ rust.None → 0 ≡ length (moved_by (kept_in s) (at_reference e) t)
  none_of_it q = none_counted (at_reference e) t e s r to q ∙ rw its_own

  pub reference_stays : (b : List ℕ) → r ≡ rust.None → Moves (at_reference e) t s b s b
  reference_stays b q = moves_none (at_reference e) t s b (sym (none_of_it q))

  module _ (a : Answer) (q : r ≡ rust.Some a) (named : Nameable (scopes_in s)) where
    others : (i : ExprId) → (i ≡ e → ⊥) → resolved_again (kept_in s) (at_reference e) t i ≡ get_or (kept_in s).answers i none
    unfolding resolved_again may_move kept_answer
    others i z = rw (ne_eqb i e z)

    -- the answers with this one set are those that are resolved again, since no other is
    all_as_one : all_moved (at_reference e) t (kept_in s) ≡ one_moved (at_reference e) t e (kept_in s)
    unfolding all_moved one_moved
    all_as_one =
        let f = resolved_again (kept_in s) (at_reference e) t in
        let n = length_tabulate f 0 (kept_in s).lowered.exprs in
        let many = exprs_many s in
        let as_many = answers_many s in
        ext_get_or none _ _ (n ∙ exprs_many s ∙ sym (answers_many s) ∙ sym (length-set (kept_in s).answers e (f e))) λ i l.
        get_d_tabulate f none 0 (kept_in s).lowered.exprs i (omega (arith, n))
        ∙ ap f (zero-add i)
        ∙ compared i e
        (λ z. rw z (sym (get_or-set_same (kept_in s).answers e (f e) none (omega (arith, n)))))
        (λ z. others i z ∙ sym (get_or-set_other (kept_in s).answers e i (f e) none z))

    pub reference_moves : (b u v c : List ℕ) → Answered e a s u → c ≡ set_word b 0 e → Lists u v → Moves (at_reference e) t s b v c
    unfolding cons_if set_all
    reference_moves b u v c put w l =
        let d = (to.moves a q).0 in
        moves_all (at_reference e) t s b u v c named
        (record {
          answers = answers_as (one_moved (at_reference e) t e) (all_moved (at_reference e) t) s u (moves_put (at_reference e) t e s r to a q u put) (sym all_as_one);
          list = w ∙ sym (rw (its_own, d));
        })
        l (λ z. omega (arith, reference_counted a q))
