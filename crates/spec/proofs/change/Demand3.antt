-- Demand 3: every call of every list comes to what the plain book comes to, and moves only what it may, for any store
-- that does as `Kept` says. Assumes nothing.
use Rattle.std.specs.Prelude.{if◌then◌else◌}
use mathlib.Core.Path.{◌≡◌, refl, sym, ap, subst, ◌∙◌}
use mathlib.Core.Logic.{◌≢◌}
use mathlib.Core.Bool.{Bool, true, false, not}
use mathlib.Core.List.{List, [], ◌∷◌, map}
use mathlib.Core.Option.{Option, none, some}
use Prim.Native.Nat.{ℕ, ◌≤◌}
use native.Mathlib.Nat.{zero-add}
use native.Mathlib.Omega.{arith}
use lib.Dec.{ltb}
use lib.ListN.{length, get_or, get_or-eq_default}
use borrow.Author.Tests.{eqb-true, ltb-true, ltb-false}
use Rattle.words.specs.Equality.{equalb}
use Rattle.words.proofs.EqualityLaws.{equalb_refl}
use Rattle.spec.specs.Basics.{Text, ExprId, NameId}
use Rattle.spec.specs.Sheet.{Node}
use Rattle.spec.specs.Module.{Module}
use Rattle.spec.specs.Lower.{lower_module}
use Rattle.spec.specs.Scopes.{expr_at, scopes_of}
use Rattle.spec.specs.Answer.{Answer, reference_text}
use Rattle.spec.specs.Calls.{Condition, fit, Call, ask_reference, ask_name, change_reference, change_name, Outcome, is_accepted, moved_of, Place, at_name, at_reference, old_text, new_text, check, in_buffer, give_answer, give_moved, in_room, give_text, if_reference, answer_call, outcome}
use Rattle.spec.specs.Moved.{same_answer, differing, may_move}
use Rattle.spec.specs.Book.{Book, book_of, book_after, book_outcomes, book_after_all}
use Rattle.spec.specs.Kept.{Kept, kept_of, loaded, tabulate, answers_afresh, kept_answer, kept_references, resolved_again, kept_with, changed_to, changed, kept_moved, kept_outcome, kept_after}
use Rattle.spec.specs.Demand.{HeldOnce, call_may_move, most_moved, Moves, Called, Starts, LoadedFrom, Trace, done, call, KeepsBook, Turn, Follows, Holds, Demand3}
use Rattle.spec.proofs.general.BoolLaws.{differ, decided}
use Rattle.spec.proofs.general.ListLaws.{get_d_tabulate, get_d_tabulate_past, length_tabulate}
use Rattle.spec.proofs.change.MovedLaws.{answer_same, nothing_differs, passing_few, passing_one}
use Rattle.spec.proofs.once.Linear.{lowered_held_once}
use Rattle.spec.proofs.change.Incremental.{Afresh, as_book, outcome_afresh, stays_afresh, after_afresh}

-- ---- one call
-- the scopes stay as they were loaded
scopes_stay : (store : Condition) (k : Kept) (c : Call) → (kept_after store k c).scopes ≡ k.scopes
unfolding kept_after changed kept_with changed_to
scopes_stay store k c = go (is_accepted (kept_outcome store k c)) (equalb (old_text k.lowered c) (new_text c)) refl refl
  where
    with : (c : Call) → (kept_with k c).scopes ≡ k.scopes
    with (ask_reference n buffer reply) = refl
    with (ask_name n buffer reply) = refl
    with (change_reference n t buffer reply) = refl
    with (change_name x t buffer reply) = refl

    go : (a b : Bool) → is_accepted (kept_outcome store k c) ≡ a → equalb (old_text k.lowered c) (new_text c) ≡ b → (kept_after store k c).scopes ≡ k.scopes
    go true true p q = rw (p, q)
    go true false p q = rw (p, q) (with c)
    go false b p q = rw p

-- a refused call leaves all as it is
pub refused_same : (store : Condition) (k : Kept) (c : Call) → is_accepted (kept_outcome store k c) ≡ false → kept_after store k c ≡ k
unfolding kept_after
refused_same store k c h = rw h

-- and so does an equal text
equal_same : (store : Condition) (k : Kept) (c : Call) → old_text k.lowered c ≡ new_text c → kept_after store k c ≡ k
unfolding kept_after changed
equal_same store k c h = rw (h, equalb_refl (new_text c)) (go (is_accepted (kept_outcome store k c)))
  where
    go : (b : Bool) → (if b then k else k) ≡ k
    go true = refl
    go false = refl

-- ---- what a call tells of what it moved
-- an outcome tells the list where it is that a text is set, and else none
record Tells (es : List ExprId) (o : Outcome) : Type 0 where
  pub is : moved_of o ≡ (if is_accepted o then es else [])

check_tells : (es : List ExprId) (b : Bool) (number place : ℕ) (rest : Outcome) → Tells es rest → Tells es (check b number place rest)
unfolding check moved_of is_accepted
check_tells es true number place rest h = record { is = refl }
check_tells es false number place rest h = h

module _ (m : Module) (f : ExprId → Option Answer) (r : NameId → List ExprId) (spent : ℕ) (v : Call → List ExprId) where
  text_tells : (c : Call) → Tells (v c) (give_text m f r spent v c)
  unfolding give_text in_room give_moved moved_of is_accepted
  text_tells c = check_tells _ _ 8 255 _ (check_tells _ _ 27 0 _ (check_tells _ _ 34 _ _ (record { is = refl })))

  call_tells : (c : Call) → Tells (v c) (answer_call m f r spent v c)
  unfolding answer_call give_answer in_buffer if_reference moved_of is_accepted
  call_tells (ask_reference n buffer reply) = check_tells _ _ 24 n _ (go (f n))
    where
      go : (a : Option Answer) → Tells (v (ask_reference n buffer reply)) (give_answer m f r spent v n buffer a)
      go none = record { is = refl }
      go (some a) = check_tells _ _ 26 _ _ (record { is = refl })
  call_tells (ask_name n buffer reply) = check_tells _ _ 24 n _ (check_tells _ _ 26 _ _ (record { is = refl }))
  call_tells (change_reference n t buffer reply) = check_tells _ _ 24 n _ (go (reference_text (expr_at m n)))
    where
      c : Call
      c = change_reference n t buffer reply

      go : (o : Option Text) → Tells (v (change_reference n t buffer reply)) (if_reference m f r spent v n o (give_text m f r spent v (change_reference n t buffer reply)))
      go none = record { is = refl }
      go (some u) = text_tells (change_reference n t buffer reply)
  call_tells (change_name n t buffer reply) = check_tells _ _ 24 n _ (text_tells (change_name n t buffer reply))

  outcome_tells : (store : Condition) (c : Call) → moved_of (outcome m f r spent v store c) ≡ (if is_accepted (outcome m f r spent v store c) then v c else [])
  unfolding outcome
  outcome_tells store c = (check_tells _ _ 21 0 _ (check_tells _ _ 22 0 _ (check_tells _ _ 23 0 _ (call_tells c)))).is

-- ---- what a call moves, in any store that keeps an answer for each expression
module _ (k : Kept) (full : length k.answers ≡ length k.lowered.exprs) where
  -- a text that is set moves only what it may
  place_moves : (p : Place) (t : Text) (e : ExprId) → kept_answer k e ≢ kept_answer (changed_to k p t) e → may_move k.lowered k.scopes p t e ≡ true
  unfolding changed_to kept_answer resolved_again
  place_moves p t e moved = decided _ (λ h. moved (go h (ltb e (length k.lowered.exprs)) refl))
    where
      kept : may_move k.lowered k.scopes p t e ≡ false → resolved_again k p t e ≡ get_or k.answers e none
      kept h = rw h

      go : may_move k.lowered k.scopes p t e ≡ false → (b : Bool) → ltb e (length k.lowered.exprs) ≡ b → get_or k.answers e none ≡ get_or (tabulate (resolved_again k p t) 0 k.lowered.exprs) e none
      go h true l = sym (get_d_tabulate _ none 0 k.lowered.exprs e (ltb-true e _ l) ∙ rw zero-add (kept h))
      go h false l =
          let past = ltb-false e _ l in
          get_or-eq_default k.answers none (omega arith) ∙ sym (get_d_tabulate_past _ none 0 k.lowered.exprs e past)

  -- and so does a call
  call_only : (store : Condition) (c : Call) (e : ExprId) → kept_answer k e ≢ kept_answer (changed k c) e → call_may_move k c e ≡ true
  unfolding changed kept_with call_may_move
  call_only store c e moved = go (equalb (old_text k.lowered c) (new_text c)) refl
    where
      with : (c : Call) → kept_answer k e ≢ kept_answer (kept_with k c) e → call_may_move k c e ≡ true
      with (ask_reference n buffer reply) h = absurd (h refl)
      with (ask_name n buffer reply) h = absurd (h refl)
      with (change_reference n t buffer reply) h = place_moves (at_reference n) t e h
      with (change_name x t buffer reply) h = place_moves (at_name x) t e h

      go : (b : Bool) → equalb (old_text k.lowered c) (new_text c) ≡ b → call_may_move k c e ≡ true
      go true p = absurd (moved (rw p))
      go false p = with c (rw p at moved)

  -- what differs may move
  may : (c : Call) (e : ExprId) → not (same_answer (kept_answer k e) (kept_answer (changed k c) e)) ≡ true → call_may_move k c e ≡ true
  may c e h = call_only fit c e (λ p. differ (sym h ∙ rw (← p, answer_same (kept_answer k e))))

  -- an equal text moves nothing
  moved_none : (c : Call) → old_text k.lowered c ≡ new_text c → length (kept_moved k c) ≡ 0
  unfolding kept_moved changed
  moved_none c h = rw (h, equalb_refl (new_text c), nothing_differs k.lowered (kept_answer k))

  -- no more than that differ
  moved_few : (c : Call) → length (kept_moved k c) ≤ most_moved k c
  unfolding differing kept_moved most_moved call_may_move may_move old_text new_text
  moved_few (ask_reference n buffer reply) = rw (moved_none (ask_reference n buffer reply) refl) (omega arith)
  moved_few (ask_name n buffer reply) = rw (moved_none (ask_name n buffer reply) refl) (omega arith)
  moved_few (change_reference n t buffer reply) = passing_one _ n (λ e h. eqb-true e n (may (change_reference n t buffer reply) e h)) 0 k.lowered.exprs
  moved_few (change_name x t buffer reply) = passing_few _ _ (may (change_name x t buffer reply)) 0 k.lowered.exprs

  -- THEOREM. A call moves only what it may: an asking, a refused call and an equal text nothing; a changed Reference its
  -- own answer; a changed name answers of References that bear the old or the new text and whose scope is the name's
  -- scope or inside it. A change that is accepted tells exactly those that it moved.
  pub call_moves : (store : Condition) (c : Call) → Moves k c (kept_outcome store k c) (kept_after store k c)
  unfolding kept_after kept_outcome kept_moved
  call_moves store c = go (is_accepted (kept_outcome store k c)) refl
    where
      tells : moved_of (kept_outcome store k c) ≡ (if is_accepted (kept_outcome store k c) then kept_moved k c else [])
      tells = outcome_tells k.lowered (kept_answer k) (kept_references k) k.spent (kept_moved k) store c

      go : (b : Bool) → is_accepted (kept_outcome store k c) ≡ b → Moves k c (kept_outcome store k c) (kept_after store k c)
      go true p =
          let list : moved_of (kept_outcome store k c) ≡ kept_moved k c = rw p at tells in
          record {
            only = rw p (call_only store c);
            refused = λ h. differ (sym p ∙ h);
            equal = λ h e. rw (equal_same store k c h);
            list = rw p list;
            few = rw list (moved_few c);
          }
      go false p =
          let list : moved_of (kept_outcome store k c) ≡ [] = rw p at tells in
          record {
            only = rw p (λ e moved. absurd (moved refl));
            refused = λ h e. rw p;
            equal = λ h e. rw p;
            list = rw (p, nothing_differs k.lowered (kept_answer k)) list;
            few = rw list (omega arith);
          }

-- answers afresh are one for each expression
afresh_full : (k : Kept) → Afresh k → length k.answers ≡ length k.lowered.exprs
unfolding answers_afresh
afresh_full k fresh = rw fresh.answers (length_tabulate _ 0 k.lowered.exprs)

-- ---- a list of calls
module _ (Store : Type 0) (kept : Store → Kept) (condition : Store → Condition) where
  -- A store from which any list of calls may go on: a call finds nothing amiss with it, everything kept is as it is
  -- worked out afresh, and no name is held by two scopes. A load leaves such a store, and so does every call.
  pub record Ready (s : Store) : Type 0 where
    pub sound : condition s ≡ fit
    pub fresh : Afresh (kept s)
    pub once : HeldOnce (kept s).scopes

  -- it keeps its own book
  own_book : (s : Store) → Ready s → KeepsBook Store kept condition (as_book (kept s)) s
  own_book s ready =
      record { texts = refl; scopes = refl; answers = ready.fresh.answers; references = ready.fresh.references; room = refl; sound = ready.sound }

  -- a call that finds such a store
  module _ (s t : Store) (c : Call) (o : Outcome) (here : Called Store kept condition s c o t) (ready : Ready s) where
    told_fit : o ≡ kept_outcome fit (kept s) c
    told_fit = rw ready.sound at here.told

    left_fit : kept t ≡ kept_after fit (kept s) c
    left_fit = rw ready.sound at here.left

    left_scopes : (kept t).scopes ≡ (kept s).scopes
    left_scopes = rw left_fit (scopes_stay fit (kept s) c)

    left_ready : Ready t
    left_ready =
        record {
          sound = here.stays ready.sound;
          fresh = rw left_fit (stays_afresh (kept s) ready.fresh ready.once c);
          once = rw left_scopes ready.once;
        }

    left_book : as_book (kept t) ≡ book_after (as_book (kept s)) c
    left_book = rw left_fit (after_afresh (kept s) ready.fresh ready.once c)

    -- THEOREM. It comes to what the book comes to, leaves what the book has then, and moves only what it may.
    pub turn : Turn Store kept condition (as_book (kept s)) s c o t
    turn =
        record {
          told = told_fit ∙ outcome_afresh (kept s) ready.fresh ready.once c;
          keeps = subst (λ (b : Book). KeepsBook Store kept condition b t) left_book (own_book t left_ready);
          moves = rw (told_fit, left_fit) (call_moves (kept s) (afresh_full (kept s) ready.fresh) fit c);
        }

  -- What holds of a list of calls from such a store, whose book is the one that it keeps.
  pub record Ran (s u : Store) (calls : List (Call × Outcome)) (trace : Trace Store kept condition s calls u) : Type 0 where
    -- at every call
    pub follows : Follows Store kept condition (as_book (kept s)) s u calls trace
    -- and after the last
    pub outcomes : map (λ x. x.1) calls ≡ book_outcomes (as_book (kept s)) (map (λ x. x.0) calls)
    pub book : as_book (kept u) ≡ book_after_all (as_book (kept s)) (map (λ x. x.0) calls)
    pub scopes : (kept u).scopes ≡ (kept s).scopes
    pub ready : Ready u

  -- THEOREM. So it is of every list of calls, whoever made the store.
  pub ran : (s u : Store) (calls : List (Call × Outcome)) (trace : Trace Store kept condition s calls u) → Ready s → Ran s u calls trace
  unfolding book_outcomes book_after_all Follows
  ran s u calls (done s') ready = record { follows = tt; outcomes = refl; book = refl; scopes = refl; ready = ready }
  ran s u calls (call s' t u' c o rest here more) ready = go (ran t u' rest more (left_ready s' t c o here ready))
    where
      go : Ran t u' rest more → Ran s' u' ((c, o) ∷ rest) (call s' t u' c o rest here more)
      go after =
          let now = turn s' t c o here ready in
          let same = left_book s' t c o here ready in
          record {
            follows = (now, subst (λ (b : Book). Follows Store kept condition b t u' rest more) same after.follows);
            outcomes = rw (← same, now.told, after.outcomes);
            book = after.book ∙ ap (λ (b : Book). book_after_all b (map (λ x. x.0) rest)) same;
            scopes = after.scopes ∙ left_scopes s' t c o here ready;
            ready = after.ready;
          }

-- ---- demand 3
-- what is kept of a module is afresh, and its book is the one that demand 3 names
kept_afresh : (m : Module) → Afresh (kept_of m)
unfolding kept_of
kept_afresh m = record { answers = refl; references = refl }

pub kept_book : (m : Module) → as_book (kept_of m) ≡ book_of m
unfolding kept_of book_of
kept_book m = refl

kept_scopes : (m : Module) → (kept_of m).scopes ≡ scopes_of m
unfolding kept_of
kept_scopes m = refl

pub loaded_afresh : (nodes : List Node) → Afresh (loaded nodes)
unfolding loaded
loaded_afresh nodes = kept_afresh (lower_module nodes)

module _ (Store : Type 0) (kept : Store → Kept) (condition : Store → Condition) where
  -- a store that a module was put into is one to go on from
  pub starts_ready : (m : Module) (s : Store) → Starts Store kept condition m s → Ready Store kept condition s
  starts_ready m s start =
      record { sound = start.sound; fresh = rw start.left (kept_afresh m); once = rw (start.left, kept_scopes m) start.once }

  -- what an accepted load leaves is such a store
  pub load_starts : (sheet : List ℕ) (nodes : List Node) (s : Store) → LoadedFrom Store kept condition sheet nodes s
      → Starts Store kept condition (lower_module nodes) s
  unfolding loaded
  load_starts sheet nodes s load = record { left = load.left; sound = load.sound; once = lowered_held_once nodes }

  -- THEOREM. What demand 3 says, of every list of calls from any module whose names are each held by one scope.
  pub holds_of_calls : (m : Module) (s : Store) → Starts Store kept condition m s
      → (u : Store) (calls : List (Call × Outcome)) (trace : Trace Store kept condition s calls u) → Holds Store kept condition m s u calls trace
  holds_of_calls m s start u calls trace =
      let ready = starts_ready m s start in
      let r = ran Store kept condition s u calls trace ready in
      let book : as_book (kept s) ≡ book_of m = rw start.left (kept_book m) in
      let after : as_book (kept u) ≡ book_after_all (book_of m) (map (λ x. x.0) calls) = rw book at r.book in
      record {
        begins = rw (← book) (own_book Store kept condition s ready);
        follows = rw book at r.follows;
        outcomes = rw book at r.outcomes;
        ends = rw (← after) (own_book Store kept condition u r.ready);
        scopes = r.scopes ∙ ap (λ (k : Kept). k.scopes) start.left ∙ kept_scopes m;
      }

  -- THEOREM. Demand 3.
  pub demand3 : Demand3 Store kept condition
  unfolding Demand3
  demand3 sheet nodes s load = holds_of_calls (lower_module nodes) s (load_starts sheet nodes s load)
