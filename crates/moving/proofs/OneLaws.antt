-- One answer: what becomes of it as if a text were set, and how it is moved. Assumes nothing.
use mathlib.Core.Path.{◌≡◌, refl, sym, ap, ◌∙◌}
use mathlib.Core.Bool.{Bool, true, false, not}
use mathlib.Core.List.{List, []}
use mathlib.Core.Option.{none, some}
use Prim.Native.Nat.{ℕ, ◌+◌, ◌*◌, ◌≤◌, ◌<◌}
use native.Mathlib.Omega.{arith}
use lib.Dec.{ltb}
use lib.ListN.{length, get_or-eq_default}
use lib.Seq.{set-get_or}
use borrow.Author.Tests.{eq-eqb, ne_eqb, ltb-true, ltb-false, not-true, not-false}
use Rattle.words.specs.Words.{word, set_word}
use Rattle.spec.specs.Basics.{Text, ExprId}
use Rattle.spec.specs.Module.{Made}
use Rattle.spec.specs.Scopes.{expr_at, made_at, name_at}
use Rattle.spec.specs.Answer.{text_of_name, answer_at, scope_of_expr, reference_text, answer_of, answer}
use Rattle.spec.specs.Calls.{Place, at_name, at_reference, set_name, set_reference}
use Rattle.spec.specs.Moved.{same_answer, cons_if, bears, may_move}
use Rattle.spec.specs.Kept.{Kept, kept_answer, resolved_again}
use Rattle.spec.proofs.general.BoolLaws.{differ}
use Rattle.spec.proofs.change.MovedLaws.{answer_same, not_same}
use Rattle.spec.proofs.change.Locality.{reference_set}
use Rattle.layout.specs.Layout.{absent, name_limit, name_count}
use Rattle.layout.specs.Rows.{set_all}
use Rattle.layout.specs.Texts.{text_in, maybe_text}
use Rattle.layout.specs.States.{module_in}
use Rattle.layout.specs.Keeps.{scopes_in, kept_in}
use Rattle.answer.specs.declared.answer.Answer.{Answer}
use Rattle.answer.specs.Answers.{answer_with}
use Rattle.answer.specs.Words.{answer_word}
use Rattle.kept.specs.Answers.{withs_at, answered_now, keep_answer, Answered}
use Rattle.kept.proofs.SoundChanges.{answered_wrote, answered_placed}
use Rattle.kept.proofs.AnswerLaws.{scopes_of_lem}
use Rattle.resolve.proofs.SetNameLaws.{mark_unset}
use Rattle.nameres.specs.Resolution.{Scoped, with_answers, Answers}
use Rattle.nameres.proofs.HeldLaws.{answer_held, word_fits}
use Rattle.nameres.proofs.UseLaws.{answered}
use Rattle.nameres.proofs.StepLaws.{module_kept, answers_none, put_keeps}
use Rattle.moving.specs.Moving.{differs, OtherThan, Refers, Means, MovesTo, one_moved, MovesOne}
use Rattle.module.specs.declared.ids.TextId as rust_text_id
use Rattle.std.specs.Prelude as rust

-- ---- what becomes of it
-- what the text may not move stays
unmovable : (k : Kept) (p : Place) (t : Text) (e : ExprId) → may_move k.lowered k.scopes p t e ≡ false → differs k p t e ≡ false
unfolding differs resolved_again
unmovable k p t e h = rw (h, answer_same (kept_answer k e))

staying : (p : Place) (t : Text) (e : ExprId) (s : List ℕ) → differs (kept_in s) p t e ≡ false → MovesTo p t e s rust.None
staying p t e s h = record { stays = λ _. h; moves = λ a q. let z : ◌≡◌ {A = ℕ} 0 1 = cc in absurd (omega arith) }

-- an answer that is worked out is held against the one that is kept
module _ (p : Place) (t : Text) (e : ExprId) (s : List ℕ) (a : Answer) (again : resolved_again (kept_in s) p t e ≡ some (answer_with a (withs_at (scopes_in s) e)))
    (means : Means e a s) where
  pub moves_to : (r : rust.Option Answer) → OtherThan e a s r → MovesTo p t e s r
  unfolding differs
  moves_to r h = go (same_answer (kept_answer (kept_in s) e) (some (answer_with a (withs_at (scopes_in s) e)))) refl
    where
      go : (b : Bool) → same_answer (kept_answer (kept_in s) e) (some (answer_with a (withs_at (scopes_in s) e))) ≡ b → MovesTo p t e s r
      go true q =
          let there : r ≡ rust.None = h.is ∙ rw q in
          record { stays = λ _. rw (again, q); moves = λ b u. let z : ◌≡◌ {A = ℕ} 0 1 = cc in absurd (omega arith) }
      go false q =
          let there : r ≡ rust.Some a = h.is ∙ rw q in
          record {
            stays = λ u. let z : ◌≡◌ {A = ℕ} 0 1 = cc in absurd (omega arith);
            moves = λ b u. let same : a ≡ b = cc in rw (← same) (rw (again, q), (again, means));
          }

-- ---- by a name
-- what bears no text stays
pub bare_stays : (s : List ℕ) (x : ℕ) (new : Text) (e : ExprId) (r : rust.Option rust_text_id.TextId) → maybe_text s r ≡ reference_text (expr_at (module_in s) e) → r ≡ rust.None → MovesTo (at_name x) new e s rust.None
unfolding may_move bears maybe_text
bare_stays s x new e r reads q =
    let bare : reference_text (expr_at (module_in s) e) ≡ none = sym reads ∙ ap (maybe_text s) q in
    staying (at_name x) new e s (unmovable (kept_in s) (at_name x) new e (rw (module_kept s, scopes_of_lem s, bare)))

module _ (s : List ℕ) (x : ℕ) (new : Text) (e : ExprId) (b : Bool) (may : b ≡ may_move (module_in s) (scopes_in s) (at_name x) new e) where
  may_kept : may_move (kept_in s).lowered (kept_in s).scopes (at_name x) new e ≡ b
  may_kept = rw (module_kept s, scopes_of_lem s) (sym may)

  pub not_movable : not b ≡ true → MovesTo (at_name x) new e s rust.None
  not_movable h = staying (at_name x) new e s (unmovable (kept_in s) (at_name x) new e (may_kept ∙ not-true b h))

  module _ (h : not b ≡ false) (r : rust.Option rust_text_id.TextId) (reads : maybe_text s r ≡ reference_text (expr_at (module_in s) e)) where
    -- what may move bears a text
    pub no_text_lem : r ≡ rust.None → MovesTo (at_name x) new e s rust.None
    unfolding may_move bears maybe_text
    no_text_lem q =
        let n : reference_text (expr_at (module_in s) e) ≡ none = sym reads ∙ ap (maybe_text s) q in
        let f : false ≡ true = sym (may ∙ rw n) ∙ not-false b h in
        differ (sym f)

    module _ (k : ℕ) (q : r ≡ rust.Some (record { 0 = k })) (a : Answer)
        (says : answer_with a (withs_at (scopes_in s) e) ≡ answer_at (text_of_name (set_name x new (module_in s))) (scopes_in s).scopes (text_in s k) (scope_of_expr (scopes_in s) e)) where
      bears_text : reference_text (expr_at (module_in s) e) ≡ some (text_in s k)
      unfolding maybe_text
      bears_text = sym reads ∙ ap (maybe_text s) q

      answers_named : answer (set_name x new (module_in s)) (scopes_in s) e ≡ some (answer_with a (withs_at (scopes_in s) e))
      unfolding answer answer_of expr_at made_at set_name
      answers_named = rw (bears_text, says)

      again_named : resolved_again (kept_in s) (at_name x) new e ≡ some (answer_with a (withs_at (scopes_in s) e))
      unfolding resolved_again
      again_named = rw (may_kept, not-false b h, module_kept s, scopes_of_lem s) answers_named

      pub by_name : (m : rust.Option Answer) → OtherThan e a s m → MovesTo (at_name x) new e s m
      by_name =
          moves_to (at_name x) new e s a again_named
          (record { text_of = text_of_name (set_name x new (module_in s)); sought = text_in s k; says = says; refers = record { text = text_in s k; is = bears_text } })

-- ---- by a Reference
-- a Reference is one of the expressions
pub refers_in : (s : List ℕ) (e : ExprId) → Refers e s → e < length (module_in s).exprs
unfolding expr_at made_at reference_text
refers_in s e refers = go (ltb e (length (module_in s).exprs)) refl
  where
    go : (b : Bool) → ltb e (length (module_in s).exprs) ≡ b → e < length (module_in s).exprs
    go true q = ltb-true e _ q
    go false q =
        let past : reference_text (expr_at (module_in s) e) ≡ none = ap (λ (d : Made). reference_text d.expr) (get_or-eq_default (module_in s).exprs _ (ltb-false e _ q)) in
        let z : ◌≡◌ {A = ℕ} 0 1 = cc (sym past ∙ refers.is) in
        absurd (omega arith)

module _ (s : List ℕ) (e : ExprId) (new : Text) (refers : Refers e s) (x : ℕ) (past : name_limit ≤ x) (a : Answer)
    (says : answer_with a (withs_at (scopes_in s) e) ≡ answer_at (text_of_name (set_name x new (module_in s))) (scopes_in s).scopes new (scope_of_expr (scopes_in s) e)) where
  as_it_stands : answer_with a (withs_at (scopes_in s) e) ≡ answer_at (text_of_name (module_in s)) (scopes_in s).scopes new (scope_of_expr (scopes_in s) e)
  as_it_stands = says ∙ rw (mark_unset s x new past)

  answers_worded : answer (set_reference e new (module_in s)) (scopes_in s) e ≡ some (answer_with a (withs_at (scopes_in s) e))
  unfolding answer answer_of text_of_name name_at set_reference
  answers_worded = rw (reference_set (module_in s) e new (refers_in s e refers), as_it_stands)

  again_worded : resolved_again (kept_in s) (at_reference e) new e ≡ some (answer_with a (withs_at (scopes_in s) e))
  unfolding resolved_again may_move
  again_worded = rw (eq-eqb e e refl, module_kept s, scopes_of_lem s) answers_worded

  pub by_reference : (r : rust.Option Answer) → OtherThan e a s r → MovesTo (at_reference e) new e s r
  by_reference =
      moves_to (at_reference e) new e s a again_worded
      (record { text_of = text_of_name (module_in s); sought = new; says = as_it_stands; refers = refers })

-- ---- moved
module _ (p : Place) (new : Text) (e : ExprId) (s : List ℕ) (r : rust.Option Answer) (to : MovesTo p new e s r) where
  -- nothing is written where it stays
  pub stays_put : r ≡ rust.None → Answers (one_moved p new e) s s
  unfolding one_moved kept_answer differs
  stays_put q =
      let same = not_same (kept_answer (kept_in s) e) (resolved_again (kept_in s) p new e) (to.stays q) in
      answers_none (one_moved p new e) s (rw (← same) (set-get_or (kept_in s).answers e none))

  module _ (a : Answer) (q : r ≡ rust.Some a) (t : List ℕ) (put : Answered e a s t) where
    its_word : Scoped s → answer_word a < 24 + word s name_count
    its_word scoped =
        let m = (to.moves a q).1.1 in
        word_fits m.text_of s m.sought (scope_of_expr (scopes_in s) e) a (withs_at (scopes_in s) e) scoped m.says

    now_kept : answered_now (kept_in s) e a ≡ some (answer_with a (withs_at (scopes_in s) e))
    unfolding answered_now kept_in
    now_kept = let m = (to.moves a q).1.1 in answered s e m.refers.text (answer_with a (withs_at (scopes_in s) e)) m.refers.is

    pub moves_put : Answers (one_moved p new e) s t
    unfolding one_moved keep_answer with_answers
    moves_put =
        let m = (to.moves a q).1.1 in
        record {
          wrote = answered_wrote e a s t put;
          still = put.still;
          placed = record { scope = λ i l. answered_placed e a s t put i };
          fits = put_keeps s t e a put its_word;
          does = λ named.
              put.does
              ∙ rw (ne_eqb (answer_word a) absent (answer_held m.text_of (scopes_in s) m.sought (scope_of_expr (scopes_in s) e) a (withs_at (scopes_in s) e) named m.says), now_kept, ← (to.moves a q).1.0);
        }

  -- counted, and listed
  pub one_counted : (a : Answer) → r ≡ rust.Some a → 1 ≡ length (cons_if (differs (kept_in s) p new e) e [])
  unfolding cons_if
  one_counted a q = rw (to.moves a q).0

  pub none_counted : r ≡ rust.None → 0 ≡ length (cons_if (differs (kept_in s) p new e) e [])
  unfolding cons_if
  none_counted q = rw (to.stays q)

  pub one_moved_lem : (n : ℕ) (b : List ℕ) (a : Answer) (q : r ≡ rust.Some a) (t : List ℕ) → Answered e a s t → (c : List ℕ) → c ≡ set_word b (4 * n) e → MovesOne p new e n s b (n + 1) t c
  unfolding cons_if set_all
  one_moved_lem n b a q t put c w =
      let d = (to.moves a q).0 in
      record { answers = moves_put a q t put; list = rw d w; count = rw d }

  pub none_moved : (n : ℕ) (b : List ℕ) → r ≡ rust.None → MovesOne p new e n s b n s b
  unfolding cons_if set_all
  none_moved n b q =
      let d = to.stays q in
      let z : n ≡ n + 0 = omega arith in
      record { answers = stays_put q; list = rw d; count = rw d z }
