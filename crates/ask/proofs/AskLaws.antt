-- Asking a fit store: what each way through the code comes to. Assumes nothing.
use mathlib.Core.Path.{◌≡◌, refl, sym, ap, ◌∙◌}
use mathlib.Core.Bool.{Bool, true, false}
use mathlib.Core.List.{List}
use Prim.Native.Nat.{ℕ, ◌*◌, ◌≤◌, ◌<◌}
use native.Mathlib.Omega.{arith}
use lib.ListN.{length}
use lib.Dec.{ltb}
use borrow.Author.Tests.{ltb-true, ltb-false, le-leb, lt-leb}
use Rattle.spec.specs.Basics.{ExprId}
use Rattle.spec.specs.Calls.{fit, Call, ask_reference, ask_name, Outcome, refusal, answered, listed, reply_bytes, with_list, check, reply_of, in_buffer, give_answer, answer_call}
use Rattle.spec.specs.Kept.{kept_answer, kept_references, kept_moved}
use Rattle.layout.specs.Rows.{set_all}
use Rattle.layout.specs.States.{exprs_of, names_of}
use Rattle.layout.specs.Keeps.{scopes_in, kept_in}
use Rattle.soundness.specs.Sound.{condition_of}
use Rattle.answer.specs.declared.answer.Answer.{Answer}
use Rattle.answer.specs.Answers.{answer_with, maybe_with}
use Rattle.kept.specs.Answers.{withs_at}
use Rattle.resolve.specs.Withs.{Lists}
use Rattle.replies.specs.Replies.{list_of, buffer_after, in_bytes, Told}
use Rattle.requests.specs.Requests.{outcome_in, own_outcome, Asked}
use Rattle.refusals.specs.Numbers.{number_of}
use Rattle.refusals.specs.declared.refusal.Refusal.TheVariants.{NoSuchNumber, NotAReference, BufferShort}
use Rattle.replies.specs.declared.Refused.{Refused}
use Rattle.ask.specs.Finds.{found, Finds, FindsAnswer, FindsReferences}
use Rattle.nameres.proofs.StepLaws.{exprs_many}
use Rattle.requests.proofs.StateLaws.{state_passed, names_counted, told_asked}
use Rattle.std.specs.Prelude as rust

-- ---- what was found is told
module _ {A : Type 0} (c : ℕ → Call) (makes : A → Outcome) (count : A → ℕ) (s b p : List ℕ) (fits : condition_of s ≡ fit) (long : reply_bytes ≤ length p)
    (lent : reply_of (c (length p)) ≡ length p) (r : rust.Result A Refused) (b' : List ℕ) (finds : Finds c makes count s b r b') where
  comes_to : (w : rust.Result A Refused) → r ≡ w → outcome_in s (c (length p)) ≡ found w makes
  comes_to w q = state_passed s (c (length p)) fits (rw lent long) ∙ finds.comes (length p) ∙ ap (λ (u : rust.Result A Refused). found u makes) q

  buffer_is : (w : rust.Result A Refused) → r ≡ w → b' ≡ buffer_after (found w makes) b
  buffer_is w q = finds.buffer ∙ ap (λ (u : rust.Result A Refused). buffer_after (found u makes) b) q

  pub refused : (x : Refused) → r ≡ rust.Err x → (v : ℕ) (p' : List ℕ) → Told (refusal (number_of x.0) x.1) p v p' → Asked (c (length p)) s b p v b' p'
  unfolding found
  refused x q v p' told = told_asked (c (length p)) s b p v b' p' (refusal (number_of x.0) x.1) (comes_to (rust.Err x) q) told (buffer_is (rust.Err x) q)

  pub given : (a : A) → r ≡ rust.Ok a → (v : ℕ) (p' : List ℕ) → Told (makes a) p v p' → Asked (c (length p)) s b p v b' p'
  unfolding found
  given a q v p' told = told_asked (c (length p)) s b p v b' p' (makes a) (comes_to (rust.Ok a) q) told (buffer_is (rust.Ok a) q)

-- ---- nothing is found
-- a refusal leaves the buffer
none_found : {A : Type 0} (c : ℕ → Call) (makes : A → Outcome) (count : A → ℕ) (s b b' : List ℕ) (x : Refused) → ((reply : ℕ) → own_outcome s (c reply) ≡ refusal (number_of x.0) x.1) → b' ≡ b → Finds c makes count s b (rust.Err x) b'
unfolding found buffer_after list_of set_all
none_found c makes count s b b' x comes same =
    record {
      comes = comes;
      buffer = same;
      counted = λ a q. let z : ◌≡◌ {A = ℕ} 0 1 = cc in absurd (omega arith);
    }

-- ---- a list that has to fit
module _ {A : Type 0} (c : ℕ → Call) (makes : A → Outcome) (count : A → ℕ) (s b : List ℕ) (es : List ExprId) (o : Outcome) (k : ℕ) (b' : List ℕ) (lists : Lists es b k b')
    (comes : (reply : ℕ) → own_outcome s (c reply) ≡ in_buffer (kept_in s).lowered (kept_answer (kept_in s)) (kept_references (kept_in s)) (kept_in s).spent (kept_moved (kept_in s)) (length b) es o) where
  by_room : (reply : ℕ) → own_outcome s (c reply) ≡ check (ltb (length b) (4 * k)) 26 k o
  unfolding in_buffer
  by_room reply = comes reply ∙ rw (← lists.count)

  too_long : ltb (length b) (4 * k) ≡ true → Finds c makes count s b (rust.Err (record { 0 = BufferShort; 1 = k })) b'
  unfolding check
  too_long t =
      none_found c makes count s b b' (record { 0 = BufferShort; 1 = k }) (λ reply. by_room reply ∙ rw t)
      (lists.kept (rw (← lists.count) (ltb-true (length b) (4 * k) t)))

  fitting : ltb (length b) (4 * k) ≡ false → (a : A) → makes a ≡ o → list_of o ≡ es → count a ≡ k → Finds c makes count s b (rust.Ok a) b'
  unfolding check found buffer_after
  fitting f a made listed_lem as_many =
      record {
        comes = λ reply. by_room reply ∙ rw (f, made);
        buffer = rw (made, listed_lem) (lists.wrote (rw (← lists.count) (ltb-false (length b) (4 * k) f)));
        counted = λ i q.
            let same : a ≡ i = cc in
            rw (← same) (rw (made, listed_lem, as_many) (sym lists.count));
      }

-- ---- the answer of a Reference
module _ (s b : List ℕ) (n k : ℕ) (counted : k ≡ length (exprs_of s)) where
  pub no_expr : k ≤ n → FindsAnswer n s b (rust.Err (record { 0 = NoSuchNumber; 1 = n })) b
  unfolding answer_call check
  no_expr l = none_found _ _ _ s b b (record { 0 = NoSuchNumber; 1 = n }) (λ reply. rw (le-leb (length (kept_in s).lowered.exprs) n (omega (arith, l, counted, exprs_many s)))) refl

  module _ (there : n < k) (m : rust.Option Answer) (says : maybe_with m (withs_at (scopes_in s) n) ≡ kept_answer (kept_in s) n) where
    from_kept : (reply : ℕ) → own_outcome s (ask_reference n (length b) reply)
        ≡ give_answer (kept_in s).lowered (kept_answer (kept_in s)) (kept_references (kept_in s)) (kept_in s).spent (kept_moved (kept_in s)) n (length b) (maybe_with m (withs_at (scopes_in s) n))
    unfolding answer_call check
    from_kept reply = rw (lt-leb (length (kept_in s).lowered.exprs) n (omega (arith, there, counted, exprs_many s)), says)

    pub no_answer : m ≡ rust.None → FindsAnswer n s b (rust.Err (record { 0 = NotAReference; 1 = n })) b
    unfolding give_answer maybe_with
    no_answer q = none_found _ _ _ s b b (record { 0 = NotAReference; 1 = n }) (λ reply. from_kept reply ∙ rw q) refl

    module _ (a : Answer) (q : m ≡ rust.Some a) (i : ℕ) (b' : List ℕ) (lists : Lists (with_list (answer_with a (withs_at (scopes_in s) n))) b i b') where
      from_answer : (reply : ℕ) → own_outcome s (ask_reference n (length b) reply)
          ≡ in_buffer (kept_in s).lowered (kept_answer (kept_in s)) (kept_references (kept_in s)) (kept_in s).spent (kept_moved (kept_in s)) (length b) (with_list (answer_with a (withs_at (scopes_in s) n))) (answered (answer_with a (withs_at (scopes_in s) n)))
      unfolding give_answer maybe_with
      from_answer reply = from_kept reply ∙ rw q

      module _ (room : rust.Result ℕ Refused) (fits : room ≡ in_bytes i (length b) BufferShort) where
        pub answer_long : (x : Refused) → room ≡ rust.Err x → FindsAnswer n s b (rust.Err x) b'
        answer_long x u = go (ltb (length b) (4 * i)) refl
          where
            go : (t : Bool) → ltb (length b) (4 * i) ≡ t → FindsAnswer n s b (rust.Err x) b'
            go true t =
                let told : room ≡ rust.Err (record { 0 = BufferShort; 1 = i }) = fits ∙ rw t in
                let same : ◌≡◌ {A = Refused} (record { 0 = BufferShort; 1 = i }) x = cc in
                rw (← same) (too_long _ _ _ s b _ _ i b' lists from_answer t)
            go false t =
                let told : room ≡ rust.Ok i = fits ∙ rw t in
                let z : ◌≡◌ {A = ℕ} 0 1 = cc in
                absurd (omega arith)

        pub answer_told : (j : ℕ) → room ≡ rust.Ok j → FindsAnswer n s b (rust.Ok (a, i)) b'
        unfolding list_of
        answer_told j u = go (ltb (length b) (4 * i)) refl
          where
            go : (t : Bool) → ltb (length b) (4 * i) ≡ t → FindsAnswer n s b (rust.Ok (a, i)) b'
            go true t =
                let told : room ≡ rust.Err (record { 0 = BufferShort; 1 = i }) = fits ∙ rw t in
                let z : ◌≡◌ {A = ℕ} 0 1 = cc in
                absurd (omega arith)
            go false t = fitting _ _ _ s b _ _ i b' lists from_answer t (a, i) refl refl refl

-- ---- the references of a name
module _ (s b : List ℕ) (n k : ℕ) (counted : k ≡ length (names_of s)) where
  pub no_name : k ≤ n → FindsReferences n s b (rust.Err (record { 0 = NoSuchNumber; 1 = n })) b
  unfolding answer_call check
  no_name l = none_found _ _ _ s b b (record { 0 = NoSuchNumber; 1 = n }) (λ reply. rw (le-leb (length (kept_in s).lowered.names) n (omega (arith, l, counted, names_counted s)))) refl

  module _ (there : n < k) (i : ℕ) (b' : List ℕ) (lists : Lists (kept_references (kept_in s) n) b i b') where
    from_references : (reply : ℕ) → own_outcome s (ask_name n (length b) reply)
        ≡ in_buffer (kept_in s).lowered (kept_answer (kept_in s)) (kept_references (kept_in s)) (kept_in s).spent (kept_moved (kept_in s)) (length b) (kept_references (kept_in s) n) (listed (kept_references (kept_in s) n))
    unfolding answer_call check
    from_references reply = rw (lt-leb (length (kept_in s).lowered.names) n (omega (arith, there, counted, names_counted s)))

    pub references_listed : (room : rust.Result ℕ Refused) → room ≡ in_bytes i (length b) BufferShort → FindsReferences n s b room b'
    unfolding list_of
    references_listed room fits = go (ltb (length b) (4 * i)) refl
      where
        go : (t : Bool) → ltb (length b) (4 * i) ≡ t → FindsReferences n s b room b'
        go true t =
            let told : room ≡ rust.Err (record { 0 = BufferShort; 1 = i }) = fits ∙ rw t in
            rw told (too_long _ _ _ s b _ _ i b' lists from_references t)
        go false t =
            let told : room ≡ rust.Ok i = fits ∙ rw t in
            rw told (fitting _ _ _ s b _ _ i b' lists from_references t i refl refl refl)
