-- Kept answers: what their words say, what is read of them, and what keeping one does. Assumes nothing.
use mathlib.Core.Path.{◌≡◌, refl, sym, ap, ◌∙◌}
use mathlib.Core.Logic.{◌⊎◌, inl, inr, ⊎_elim}
use mathlib.Core.Bool.{Bool, true, false}
use mathlib.Core.List.{List, [], ◌∷◌}
use mathlib.Core.Option.{Option, none, some}
use Prim.Native.Nat.{ℕ, ◌+◌, ◌-◌, ◌*◌, ◌≤◌, ◌<◌, ◌^◌}
use native.Mathlib.Omega.{arith}
use lib.ListN.{length, set}
use lib.Seq.{set_out}
use lib.Dec.{eqb, ltb}
use borrow.Author.Tests.{lt-ltb, le-ltb, eq-eqb, ne_eqb, ltb-true, ltb-false}
use Rattle.words.specs.Order.{pick}
use Rattle.words.specs.Words.{word, set_word}
use Rattle.words.proofs.WordLaws.{length_set_word, word_set_word_same, word_set_word_other}
use Rattle.spec.specs.Scopes.{Scopes}
use Rattle.spec.specs.Answer as spec
use Rattle.spec.specs.Answer.{chain, withs_of, scope_of_expr}
use Rattle.spec.specs.Kept.{Kept, kept_answer}
use Rattle.answer.specs.declared.answer.Answer.{Answer}
use Rattle.answer.specs.declared.answer.Answer.TheVariants.{Unresolved, Definition, Builtin, Withs}
use Rattle.answer.specs.Answers.{answer_with, maybe_with}
use Rattle.answer.specs.Words.{answer_of_word, answer_word}
use Rattle.layout.specs.Layout.{absent, expr_limit, name_limit, expr_row, use_row, expr_count, name_count, scope_count, spent_place, exprs_at, uses_at, scopes_at, Long}
use Rattle.layout.specs.Rows.{cap, rows_to, raised}
use Rattle.layout.specs.Changes.{Outside, Wrote, Still}
use Rattle.layout.specs.Exprs.{sort_of}
use Rattle.layout.specs.States.{module_in}
use Rattle.layout.specs.Keeps.{first_entered, scope_of, scopes_in, withs_around, answer_of, answer_in, references_of, kept_in}
use Rattle.kept.specs.Answers.{withs_in, withs_at, instead_of, answered_now, keep_answer, Answered}
use Rattle.layout.proofs.RowLaws.{length_rows, get_d_rows, get_d_past, rows_put, cap_lim}
use Rattle.layout.proofs.Frames.{clear_of, wrote_none}
use Rattle.layout.proofs.WriteLaws.{still_set_word}
use Rattle.kept.proofs.ScopeReads.{of_expr_in}
use Rattle.kept.proofs.ScopeLaws.{scopes_same, placed_by, scopes_are}
use Rattle.kept.proofs.KeepFrames.{answer_same, module_kept, references_kept}
use Rattle.std.specs.Prelude as rust

-- ---- what a word says
withs_are : (v : Scopes) (o : Option ℕ) → withs_around v o ≡ spec.withs (withs_in v o)
unfolding withs_around withs_in
withs_are v none = refl
withs_are v (some i) = refl

says_builtin : (v : Scopes) (o : Option ℕ) (n : ℕ) → 2 ≤ n → n < 24 → answer_of v o n ≡ spec.builtin (n - 2)
unfolding answer_of
says_builtin v o n h k = rw (ne_eqb n 0 (λ e. omega arith), ne_eqb n 1 (λ e. omega arith), lt-ltb n 24 k)

says_definition : (v : Scopes) (o : Option ℕ) (n : ℕ) → 24 ≤ n → answer_of v o n ≡ spec.definition (n - 24)
unfolding answer_of
says_definition v o n h = rw (ne_eqb n 0 (λ e. omega arith), ne_eqb n 1 (λ e. omega arith), le-ltb n 24 h)

picked : {A B : Type 0} (f : A → B) (b : Bool) (x y : A) → f (pick b x y) ≡ pick b (f x) (f y)
picked f true x y = refl
picked f false x y = refl

-- the same through the code's answer
pub word_says : (v : Scopes) (o : Option ℕ) (n : ℕ) → answer_with (answer_of_word n) (withs_in v o) ≡ answer_of v o n
unfolding answer_with answer_of_word answer_of
word_says v o n =
    let f : Answer → spec.Answer = λ a. answer_with a (withs_in v o) in
    let low = picked f (ltb n 24) (Builtin (n - 2)) (Definition (record { 0 = n - 24 })) in
    let one = picked f (eqb n 1) Withs (pick (ltb n 24) (Builtin (n - 2)) (Definition (record { 0 = n - 24 }))) in
    let two = picked f (eqb n 0) Unresolved (pick (eqb n 1) Withs (pick (ltb n 24) (Builtin (n - 2)) (Definition (record { 0 = n - 24 })))) in
    two ∙ ap (pick (eqb n 0) spec.unresolved) (one ∙ rw (withs_are v o) (ap (pick (eqb n 1) (spec.withs (withs_in v o))) low))

-- the word of an answer says it
pub says_again : (a : Answer) (v : Scopes) (o : Option ℕ) → (answer_word a ≡ absent → ⊥) → answer_of v o (answer_word a) ≡ answer_with a (withs_in v o)
unfolding answer_word answer_with answer_of
says_again Unresolved v o h = refl
says_again Withs v o h = withs_are v o
says_again (Builtin i) v o h = go (ltb i 22) refl
  where
    go : (b : Bool) → ltb i 22 ≡ b → answer_of v o (answer_word (Builtin i)) ≡ spec.builtin i
    go true e =
        let l = ltb-true i 22 e in
        let z : 2 + i - 2 ≡ i = omega arith in
        rw e (says_builtin v o (2 + i) (omega arith) (omega arith) ∙ ap spec.builtin z)
    go false e = absurd (h (rw e))
says_again (Definition x) v o h = go (ltb x.0 name_limit) refl
  where
    go : (b : Bool) → ltb x.0 name_limit ≡ b → answer_of v o (answer_word (Definition x)) ≡ spec.definition x.0
    go true e =
        let z : 24 + x.0 - 24 ≡ x.0 = omega arith in
        rw e (says_definition v o (24 + x.0) (omega arith) ∙ ap spec.definition z)
    go false e = absurd (h (rw e))

-- ---- reading
kept_in_lem : (s : List ℕ) (e : ℕ) → e < cap (word s expr_count) expr_limit → kept_answer (kept_in s) e ≡ answer_in s e
unfolding kept_answer kept_in
kept_in_lem s e h = get_d_rows (answer_in s) (cap (word s expr_count) expr_limit) e none h

pub kept_out : (s : List ℕ) (e n : ℕ) (es : List ℕ) → n ≡ cap (word s expr_count) expr_limit → n ≤ e → maybe_with rust.None es ≡ kept_answer (kept_in s) e
unfolding kept_answer kept_in maybe_with
kept_out s e n es en h = sym (get_d_past (answer_in s) (cap (word s expr_count) expr_limit) e none (rw (← en) h))

pub kept_other : (s : List ℕ) (e n k : ℕ) (es : List ℕ) → n ≡ cap (word s expr_count) expr_limit → e < n → k ≡ word s (exprs_at + expr_row * e + 4) → (k ≡ 21 → ⊥) → maybe_with rust.None es ≡ kept_answer (kept_in s) e
unfolding answer_in sort_of maybe_with
kept_other s e n k es en h ek ne =
    let z : word s (exprs_at + expr_row * e + 4) ≡ 21 → ⊥ = λ q. ne (ek ∙ q) in
    rw (kept_in_lem s e (rw (← en) h), ne_eqb (word s (exprs_at + expr_row * e + 4)) 21 z)

pub kept_is : (s : List ℕ) (e n k w : ℕ) (a : Answer) → n ≡ cap (word s expr_count) expr_limit → e < n → k ≡ word s (exprs_at + expr_row * e + 4) → k ≡ 21 → w ≡ word s (uses_at + use_row * e + 4) → a ≡ answer_of_word w → maybe_with (rust.Some a) (withs_at (scopes_in s) e) ≡ kept_answer (kept_in s) e
unfolding answer_in sort_of maybe_with withs_at scope_of
kept_is s e n k w a en h ek eq ew ea =
    let m : e < cap (word s expr_count) expr_limit = rw (← en) h in
    let z : word s (exprs_at + expr_row * e + 4) ≡ 21 = sym ek ∙ eq in
    rw (kept_in_lem s e m, eq-eqb (word s (exprs_at + expr_row * e + 4)) 21 z, of_expr_in s e m, ea, ← ew, word_says (scopes_in s) (raised (word s (uses_at + use_row * e))) w)

-- ---- keeping
pub kept_are : (s t : List ℕ) (os : List (Option spec.Answer)) → module_in t ≡ module_in s → scopes_in t ≡ scopes_in s → rows_to (answer_in t) (cap (word t expr_count) expr_limit) ≡ os → rows_to (references_of t) (cap (word t name_count) name_limit) ≡ rows_to (references_of s) (cap (word s name_count) name_limit) → word t spent_place ≡ word s spent_place
    → kept_in t ≡ record { lowered = (kept_in s).lowered; scopes = (kept_in s).scopes; answers = os; references = (kept_in s).references; spent = (kept_in s).spent }
unfolding kept_in
kept_are s t os a b c d e = rw (a, b, c, d, e)

pub no_word : (s : List ℕ) (e v : ℕ) (a : Answer) → v ≡ answer_word a → v ≡ absent → Answered e a s s
unfolding keep_answer
no_word s e v a ev h =
    let z : answer_word a ≡ absent = sym ev ∙ h in
    record {
      wrote = wrote_none ((uses_at + use_row * e + 4, uses_at + use_row * e + 8) ∷ []) s;
      still = record { same = refl; used = refl };
      does = rw z;
      row = λ l has. absurd (has z);
      past = λ l. refl;
    }

keeps : (k : Kept) (e : ℕ) (a : Answer) → (answer_word a ≡ absent → ⊥) → keep_answer e a k ≡ record { lowered = k.lowered; scopes = k.scopes; answers = set k.answers e (answered_now k e a); references = k.references; spent = k.spent }
unfolding keep_answer
keeps k e a h = rw (ne_eqb (answer_word a) absent h)

pub scopes_of_lem : (s : List ℕ) → (kept_in s).scopes ≡ scopes_in s
unfolding kept_in
scopes_of_lem s = refl

answered_by : (s : List ℕ) (e : ℕ) (a : Answer) → e < cap (word s expr_count) expr_limit → (b : Bool) → eqb (sort_of s e) 21 ≡ b → answered_now (kept_in s) e a ≡ pick b (some (answer_with a (withs_in (scopes_in s) (raised (word s (uses_at + use_row * e)))))) none
unfolding answered_now withs_at answer_in instead_of
answered_by s e a m true q = rw (kept_in_lem s e m, scopes_of_lem s, of_expr_in s e m, q)
answered_by s e a m false q = rw (kept_in_lem s e m, scopes_of_lem s, of_expr_in s e m, q)

pub no_expr : (s : List ℕ) (e n v : ℕ) (a : Answer) → n ≡ cap (word s expr_count) expr_limit → n ≤ e → v ≡ answer_word a → (v ≡ absent → ⊥) → Answered e a s s
unfolding kept_in
no_expr s e n v a en h ev ne =
    let z : length (rows_to (answer_in s) (cap (word s expr_count) expr_limit)) ≤ e = rw (length_rows (answer_in s) (cap (word s expr_count) expr_limit), ← en) h in
    record {
      wrote = wrote_none ((uses_at + use_row * e + 4, uses_at + use_row * e + 8) ∷ []) s;
      still = record { same = refl; used = refl };
      does = rw (keeps (kept_in s) e a (λ q. ne (ev ∙ q)), set_out (rows_to (answer_in s) (cap (word s expr_count) expr_limit)) e (answered_now (kept_in s) e a) z);
      row = λ l has. absurd (omega (arith, en));
      past = λ l. refl;
    }

module _ (s t : List ℕ) (e n v : ℕ) (a : Answer) (l : Long s) (en : n ≡ cap (word s expr_count) expr_limit) (h : e < n) (ev : v ≡ answer_word a) (ne : v ≡ absent → ⊥) (hv : v < 2 ^ 32) (et : t ≡ set_word s (uses_at + use_row * e + 4) v) where
  low : e < expr_limit
  low = omega (arith, cap_lim (word s expr_count) expr_limit)

  put_other : (j : ℕ) → (j + 4 ≤ uses_at + use_row * e + 4) ⊎ (uses_at + use_row * e + 4 + 4 ≤ j) → word t j ≡ word s j
  put_other j o = rw et (word_set_word_other s (uses_at + use_row * e + 4) v j o)

  -- the scope of every expression stands between the answers
  scope_word_lem : (i : ℕ) → word t (uses_at + use_row * i) ≡ word s (uses_at + use_row * i)
  scope_word_lem i = go (ltb e i) refl
    where
      go : (b : Bool) → ltb e i ≡ b → word t (uses_at + use_row * i) ≡ word s (uses_at + use_row * i)
      go true q = put_other (uses_at + use_row * i) (inr (omega (arith, ltb-true e i q)))
      go false q = put_other (uses_at + use_row * i) (inl (omega (arith, ltb-false e i q)))

  same_scopes : scopes_in t ≡ scopes_in s
  same_scopes =
      let f = low in
      scopes_are (scopes_in t) (scopes_in s)
      (scopes_same s t name_limit (put_other scope_count (inl (omega arith))) (λ j p q. put_other j (inr (omega arith))) (λ j p q. put_other j (inr (omega arith))) (λ i q. cap_lim (first_entered s (i + 1)) name_limit))
      (placed_by s t (put_other expr_count (inl (omega arith))) (λ i k. scope_word_lem i))

  same_sort : (i : ℕ) → i < expr_limit → sort_of t i ≡ sort_of s i
  unfolding sort_of
  same_sort i k = put_other (exprs_at + expr_row * i + 4) (inl (omega arith))

  word_here : word t (uses_at + use_row * e + 4) ≡ answer_word a
  word_here = let f = low in rw et (word_set_word_same s (uses_at + use_row * e + 4) v (omega arith) hv) ∙ ev

  one_answer : answer_in t e ≡ answered_now (kept_in s) e a
  unfolding answer_in scope_of
  one_answer =
      let f = low in
      let m : e < cap (word s expr_count) expr_limit = rw (← en) h in
      rw (same_sort e f, same_scopes, scope_word_lem e, word_here, says_again a (scopes_in s) (raised (word s (uses_at + use_row * e))) (λ q. ne (ev ∙ q))) (sym (answered_by s e a m (eqb (sort_of s e) 21) refl))

  many_answers : rows_to (answer_in t) (cap (word t expr_count) expr_limit) ≡ set (rows_to (answer_in s) (cap (word s expr_count) expr_limit)) e (answered_now (kept_in s) e a)
  many_answers =
      let c : word t expr_count ≡ word s expr_count = put_other expr_count (inl (omega arith)) in
      let m : e < cap (word s expr_count) expr_limit = rw (← en) h in
      let lim = cap_lim (word s expr_count) expr_limit in
      rw (c, ← one_answer) (rows_put (answer_in s) (answer_in t) (cap (word s expr_count) expr_limit) e m
      (λ i k. answer_same s t i same_scopes (same_sort i (omega arith)) (scope_word_lem i) (put_other (uses_at + use_row * i + 4) (inl (omega arith))))
      (λ i k k2. answer_same s t i same_scopes (same_sort i (omega arith)) (scope_word_lem i) (put_other (uses_at + use_row * i + 4) (inr (omega arith)))))

  wrote_one : Wrote ((uses_at, scopes_at) ∷ []) s t
  unfolding Outside
  wrote_one =
      let f = low in
      record {
        size = rw et (length_set_word s (uses_at + use_row * e + 4) v);
        other = λ j o. put_other j (clear_of (uses_at + use_row * e + 4) 4 uses_at scopes_at j (omega arith) (omega arith) o.0);
      }

  wrote_word : Wrote ((uses_at + use_row * e + 4, uses_at + use_row * e + 8) ∷ []) s t
  unfolding Outside
  wrote_word = record { size = wrote_one.size; other = λ j o. put_other j (⊎_elim (λ z. inl z) (λ z. inr (omega arith)) o.0) }

  pub kept_now : Answered e a s t
  unfolding kept_in
  kept_now =
      let f = low in
      let still : Still s t = rw et (still_set_word s (uses_at + use_row * e + 4) v (omega arith) (λ z. omega arith)) in
      record {
        wrote = wrote_word;
        still = still;
        row = λ l has. word_here;
        past = λ l. absurd (omega (arith, en));
        does = kept_are s t (set (rows_to (answer_in s) (cap (word s expr_count) expr_limit)) e (answered_now (kept_in s) e a)) (module_kept wrote_one still refl refl) same_scopes many_answers (references_kept wrote_one refl refl) (put_other spent_place (inl (omega arith))) ∙ sym (keeps (kept_in s) e a (λ q. ne (ev ∙ q)));
      }
