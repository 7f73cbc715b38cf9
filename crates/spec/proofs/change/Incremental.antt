-- Answers and references that are kept afresh stay so though a change resolves again only References whose answer it may
-- move. Assumes nothing.
use Rattle.std.specs.Prelude.{if◌then◌else◌}
use mathlib.Core.Path.{◌≡◌, refl, sym, ap, ◌∙◌}
use mathlib.Core.Bool.{Bool, true, false}
use mathlib.Core.List.{List, [], ◌∷◌}
use mathlib.Core.Option.{Option, none, some}
use Prim.Native.Nat.{ℕ, suc, ◌+◌, ◌<◌, ◌≤◌}
use native.Mathlib.Nat.{zero-add, add-zero, add-suc, suc-add}
use native.Mathlib.Omega.{arith}
use lib.Dec.{ltb, leb}
use lib.ListN.{length, get_or, length-set, get_or-eq_default}
use borrow.Author.Tests.{ltb-true, ltb-false, leb-false}
use Rattle.words.specs.Equality.{equalb}
use Rattle.words.proofs.EqualityLaws.{equalb_true}
use Rattle.spec.specs.Basics.{Text, ExprId, NameId}
use Rattle.spec.specs.Module.{missing, Made, Module}
use Rattle.spec.specs.Scopes.{Scopes, made_at, expr_at}
use Rattle.spec.specs.Answer.{Answer, reference_text, answer_of, answer, references_from, references}
use Rattle.spec.specs.Calls.{Condition, fit, Call, ask_reference, ask_name, change_reference, change_name, Outcome, is_accepted, or_empty, Place, at_name, at_reference, old_text, new_text, set_reference, set_name, set_place, with_text, spent_by, check, in_buffer, give_answer, give_moved, in_room, give_text, if_reference, answer_call, outcome}
use Rattle.spec.specs.Moved.{may_move}
use Rattle.spec.specs.Book.{Book, book_moved, book_outcome, book_with, book_after}
use Rattle.spec.specs.Kept.{Kept, tabulate, answers_afresh, references_afresh, kept_answer, kept_references, resolved_again, moved_by, answered_with, listed_again, changed_to, kept_with, changed, kept_moved, kept_outcome, kept_after}
use Rattle.spec.specs.Demand.{HeldOnce}
use Rattle.spec.proofs.general.BoolLaws.{differ}
use Rattle.spec.proofs.general.ListLaws.{tabulate_same, tabulate_length, tabulate_within, get_d_tabulate, get_d_tabulate_past}
use Rattle.spec.proofs.change.MovedLaws.{differs_alike, differs_nowhere}
use Rattle.spec.proofs.change.Locality.{reference_equal, name_equal, place_stays}

-- what stands past the expressions
abbrev blank : Made
blank = record { expr = missing; pointer = none }

-- ---- a name's references, worked out from the answers
module _ (m : Module) (w : Scopes) (x : NameId) where
  references_from_lem : (e : ExprId) (ds : List Made) → ((j : ℕ) → get_or ds j blank ≡ made_at m (e + j))
      → references_from m w x e ds ≡ answered_with x e (tabulate (answer m w) e ds)
  unfolding references_from answered_with tabulate answer expr_at
  references_from_lem e [] h = refl
  references_from_lem e (d ∷ ds) h =
      rw (here, references_from_lem (suc e) ds (λ j. h (suc j) ∙ rw (add-suc, ← suc-add)))
    where
      here : answer_of m w e (reference_text d.expr) ≡ answer m w e
      here = ap (λ (q : Made). answer_of m w e (reference_text q.expr)) (h 0 ∙ ap (made_at m) (add-zero e))

  -- THEOREM. A name's references are the expressions among the answers worked out afresh that are answered with it.
  pub references_are : references m w x ≡ answered_with x 0 (answers_afresh m w)
  unfolding references answers_afresh made_at
  references_are = references_from_lem 0 m.exprs (λ j. rw zero-add)

-- ---- a store whose answers and references are those worked out afresh
pub record Afresh (k : Kept) : Type 0 where
  pub answers : k.answers ≡ answers_afresh k.lowered k.scopes
  pub references : k.references ≡ references_afresh k.lowered k.scopes

-- the book of the same module, scopes and room
abbrev pub as_book : Kept → Book
as_book k = record { lowered = k.lowered; scopes = k.scopes; spent = k.spent }

-- past the expressions nothing is answered
answer_past : (m : Module) (w : Scopes) (e : ExprId) → length m.exprs ≤ e → answer m w e ≡ none
unfolding answer answer_of expr_at made_at reference_text
answer_past m w e h = ap (λ (d : Made). answer_of m w e (reference_text d.expr)) (get_or-eq_default m.exprs blank h)

-- ---- what a change sets is there: a Reference of its number
abbrev pub Known : Module → Call → Type 0
Known m (ask_reference n buffer reply) = Unit {0}
Known m (ask_name n buffer reply) = Unit {0}
Known m (change_reference n t buffer reply) = (u : Text) × (reference_text (expr_at m n) ≡ some u)
Known m (change_name x t buffer reply) = Unit {0}

-- ---- the outcome turns on the answers given, on the references of names that there are, and on what is moved
module _ (m : Module) (f g : ExprId → Option Answer) (r q : NameId → List ExprId) (spent : ℕ) (v w : Call → List ExprId)
    (answers : (e : ExprId) → f e ≡ g e) (references : (x : NameId) → x < length m.names → r x ≡ q x)
    (moved : (c : Call) → Known m c → v c ≡ w c) where
  give_answer_same : (n buffer : ℕ) (a : Option Answer) → give_answer m f r spent v n buffer a ≡ give_answer m g q spent w n buffer a
  unfolding give_answer in_buffer
  give_answer_same n buffer none = refl
  give_answer_same n buffer (some a) = refl

  give_text_same : (c : Call) → Known m c → give_text m f r spent v c ≡ give_text m g q spent w c
  unfolding give_text in_room give_moved
  give_text_same c known = rw (moved c known)

  answer_call_same : (c : Call) → answer_call m f r spent v c ≡ answer_call m g q spent w c
  unfolding answer_call in_buffer check if_reference
  answer_call_same (ask_reference n buffer reply) = rw (answers n, give_answer_same n buffer (g n))
  answer_call_same (ask_name n buffer reply) = go (leb (length m.names) n) refl
    where
      go : (b : Bool) → leb (length m.names) n ≡ b
          → answer_call m f r spent v (ask_name n buffer reply) ≡ answer_call m g q spent w (ask_name n buffer reply)
      go true p = rw p
      go false p = rw (references n (leb-false (length m.names) n p))
  answer_call_same (change_reference n t buffer reply) = ap (check (leb (length m.exprs) n) 24 n) (go (reference_text (expr_at m n)) refl)
    where
      c : Call
      c = change_reference n t buffer reply

      go : (o : Option Text) → reference_text (expr_at m n) ≡ o
          → if_reference m f r spent v n o (give_text m f r spent v c) ≡ if_reference m g q spent w n o (give_text m g q spent w c)
      go none p = refl
      go (some u) p = give_text_same c (u, p)
  answer_call_same (change_name n t buffer reply) = rw (give_text_same (change_name n t buffer reply) tt)

  outcome_same : (store : Condition) (c : Call) → outcome m f r spent v store c ≡ outcome m g q spent w store c
  unfolding outcome
  outcome_same store c = rw (answer_call_same c)

-- ---- a call sets one place at most
-- THEOREM. It costs nothing where the text is the old one, and else the text's length.
pub spent_once : (m : Module) (spent : ℕ) (c : Call)
    → spent_by m spent c ≡ (if equalb (old_text m c) (new_text c) then spent else spent + length (new_text c))
unfolding spent_by old_text new_text equalb
spent_once m spent (ask_reference n buffer reply) = refl
spent_once m spent (ask_name n buffer reply) = refl
spent_once m spent (change_reference n t buffer reply) = refl
spent_once m spent (change_name n t buffer reply) = refl

-- ---- what is known of a call that is accepted
check_passed : (b : Bool) (number place : ℕ) (rest : Outcome) → is_accepted (check b number place rest) ≡ true → (b ≡ false) × (is_accepted rest ≡ true)
unfolding check is_accepted
check_passed true number place rest h = differ (sym h)
check_passed false number place rest h = (refl, h)

module _ (m : Module) (f : ExprId → Option Answer) (r : NameId → List ExprId) (spent : ℕ) (v : Call → List ExprId) (store : Condition) where
  call_passed : (c : Call) → is_accepted (outcome m f r spent v store c) ≡ true → is_accepted (answer_call m f r spent v c) ≡ true
  unfolding outcome
  call_passed c h = (check_passed _ 23 0 _ (check_passed _ 22 0 _ (check_passed _ 21 0 _ h).1).1).1

  module _ (n : ExprId) (t : Text) (buffer reply : ℕ) (passed : is_accepted (outcome m f r spent v store (change_reference n t buffer reply)) ≡ true) where
    -- there is an expression of the number
    pub reference_there : n < length m.exprs
    unfolding answer_call
    reference_there = leb-false _ n (check_passed _ 24 n _ (call_passed (change_reference n t buffer reply) passed)).0

    -- and it is a Reference
    pub reference_known : (u : Text) × (reference_text (expr_at m n) ≡ some u)
    unfolding answer_call if_reference is_accepted
    reference_known = go (reference_text (expr_at m n)) (check_passed _ 24 n _ (call_passed (change_reference n t buffer reply) passed)).1
      where
        go : (o : Option Text) → is_accepted (if_reference m f r spent v n o (give_text m f r spent v (change_reference n t buffer reply))) ≡ true
            → (u : Text) × (o ≡ some u)
        go none h = differ (sym h)
        go (some u) h = (u, refl)

  accepted_known : (c : Call) → is_accepted (outcome m f r spent v store c) ≡ true → Known m c
  accepted_known (ask_reference n buffer reply) h = tt
  accepted_known (ask_name n buffer reply) h = tt
  accepted_known (change_reference n t buffer reply) h = reference_known n t buffer reply h
  accepted_known (change_name x t buffer reply) h = tt

-- to set the text that is there leaves the module as it is
with_text_equal : (m : Module) (c : Call) → Known m c → old_text m c ≡ new_text c → with_text m c ≡ m
unfolding with_text old_text new_text or_empty
with_text_equal m (ask_reference n buffer reply) h e = refl
with_text_equal m (ask_name n buffer reply) h e = refl
with_text_equal m (change_reference n t buffer reply) h e =
    let same : h.0 ≡ t = rw h.1 at e in
    reference_equal m n t (rw (h.1, same))
with_text_equal m (change_name x t buffer reply) h e = rw (← e) (name_equal m x)

-- a text that is set leaves as many expressions and names as there were
pub exprs_many : (m : Module) (p : Place) (t : Text) → length (set_place t p m).exprs ≡ length m.exprs
unfolding set_name set_reference
exprs_many m (at_name x) t = refl
exprs_many m (at_reference n) t = length-set m.exprs n _

pub names_many : (m : Module) (p : Place) (t : Text) → length (set_place t p m).names ≡ length m.names
unfolding set_name set_reference
names_many m (at_name x) t = length-set m.names x _
names_many m (at_reference n) t = refl

module _ (k : Kept) (fresh : Afresh k) where
  -- what is kept of an expression is its answer, whatever its number
  pub kept_answer_lem : (e : ExprId) → kept_answer k e ≡ answer k.lowered k.scopes e
  unfolding kept_answer answers_afresh
  kept_answer_lem e = rw fresh.answers (go (ltb e (length k.lowered.exprs)) refl)
    where
      afresh : List (Option Answer)
      afresh = tabulate (answer k.lowered k.scopes) 0 k.lowered.exprs

      go : (b : Bool) → ltb e (length k.lowered.exprs) ≡ b → get_or afresh e none ≡ answer k.lowered k.scopes e
      go true p = get_d_tabulate _ none 0 k.lowered.exprs e (ltb-true e _ p) ∙ rw zero-add
      go false p = get_d_tabulate_past _ none 0 k.lowered.exprs e (ltb-false e _ p) ∙ sym (answer_past k.lowered k.scopes e (ltb-false e _ p))

  -- what is kept of a name that there is are its references
  pub kept_references_lem : (x : NameId) → x < length k.lowered.names → kept_references k x ≡ references k.lowered k.scopes x
  unfolding kept_references references_afresh
  kept_references_lem x h = rw fresh.references (get_d_tabulate _ [] 0 k.lowered.names x h ∙ rw zero-add)

module _ (k : Kept) (fresh : Afresh k) (once : HeldOnce k.scopes) where
  -- ---- a text set at a place
  module _ (p : Place) (t : Text) where
    abbrev m' : Module
    m' = set_place t p k.lowered

    -- what is resolved again, and what is not, is as it is worked out afresh
    resolved_afresh : (e : ExprId) → resolved_again k p t e ≡ answer m' k.scopes e
    unfolding resolved_again
    resolved_afresh e = go (may_move k.lowered k.scopes p t e) refl
      where
        go : (b : Bool) → may_move k.lowered k.scopes p t e ≡ b → resolved_again k p t e ≡ answer m' k.scopes e
        go true q = rw q
        go false q = rw q (kept_answer_lem k fresh e ∙ sym (place_stays k.scopes once k.lowered p t e q))

    answers_afresh_lem : tabulate (resolved_again k p t) 0 k.lowered.exprs ≡ answers_afresh m' k.scopes
    unfolding answers_afresh
    answers_afresh_lem = tabulate_same _ (answer m' k.scopes) resolved_afresh 0 k.lowered.exprs ∙ tabulate_length _ 0 _ _ (sym (exprs_many k.lowered p t))

    -- references listed from answers afresh are afresh
    listed_afresh : tabulate (λ x. answered_with x 0 (answers_afresh m' k.scopes)) 0 k.lowered.names ≡ references_afresh m' k.scopes
    unfolding references_afresh
    listed_afresh =
        tabulate_same _ (references m' k.scopes) (λ x. sym (references_are m' k.scopes x)) 0 k.lowered.names
        ∙ tabulate_length _ 0 _ _ (sym (names_many k.lowered p t))

    -- where nothing is moved, the answers are those of before
    unmoved_answers : moved_by k p t ≡ [] → answers_afresh k.lowered k.scopes ≡ answers_afresh m' k.scopes
    unfolding moved_by answers_afresh
    unmoved_answers h =
        tabulate_within _ _ 0 k.lowered.exprs (λ j l. let z : 0 + j ≡ j = omega arith in rw z (sym (kept_answer_lem k fresh j) ∙ differs_nowhere k.lowered _ _ h j l))
        ∙ answers_afresh_lem

    references_afresh_lem : (es : List ExprId) → moved_by k p t ≡ es → listed_again k (tabulate (resolved_again k p t) 0 k.lowered.exprs) es ≡ references_afresh m' k.scopes
    unfolding listed_again references_afresh
    references_afresh_lem [] h =
        fresh.references
        ∙ tabulate_same _ (λ x. answered_with x 0 (answers_afresh m' k.scopes)) (λ x. references_are k.lowered k.scopes x ∙ rw (unmoved_answers h)) 0 k.lowered.names
        ∙ listed_afresh
    references_afresh_lem (e ∷ es) h = rw answers_afresh_lem listed_afresh

    -- THEOREM. What the change leaves is as it is worked out afresh.
    changed_afresh : Afresh (changed_to k p t)
    unfolding changed_to
    changed_afresh = record { answers = answers_afresh_lem; references = references_afresh_lem (moved_by k p t) refl }

  -- ---- a call
  kept_with_afresh : (c : Call) → Afresh (kept_with k c)
  unfolding kept_with
  kept_with_afresh (ask_reference n buffer reply) = fresh
  kept_with_afresh (ask_name n buffer reply) = fresh
  kept_with_afresh (change_reference n t buffer reply) = changed_afresh (at_reference n) t
  kept_with_afresh (change_name x t buffer reply) = changed_afresh (at_name x) t

  kept_with_book : (c : Call) → as_book (kept_with k c) ≡ book_with (as_book k) c true
  unfolding kept_with changed_to book_with with_text spent_by new_text
  kept_with_book (ask_reference n buffer reply) = refl
  kept_with_book (ask_name n buffer reply) = refl
  kept_with_book (change_reference n t buffer reply) = refl
  kept_with_book (change_name x t buffer reply) = refl

  -- what an accepted call leaves is afresh, and is the book's
  leaves_afresh : (c : Call) → Afresh (changed k c)
  unfolding changed
  leaves_afresh c = go (equalb (old_text k.lowered c) (new_text c)) refl
    where
      go : (b : Bool) → equalb (old_text k.lowered c) (new_text c) ≡ b → Afresh (changed k c)
      go true p = rw p fresh
      go false p = rw p (kept_with_afresh c)

  leaves_book : (c : Call) → Known k.lowered c → as_book (changed k c) ≡ book_with (as_book k) c true
  unfolding changed book_with
  leaves_book c known = go (equalb (old_text k.lowered c) (new_text c)) refl
    where
      go : (b : Bool) → equalb (old_text k.lowered c) (new_text c) ≡ b → as_book (changed k c) ≡ book_with (as_book k) c true
      go true p = rw (p, with_text_equal k.lowered c known (equalb_true _ _ p), spent_once k.lowered k.spent c, p)
      go false p = rw p (kept_with_book c)

  -- what it moves is what it moves in the book
  moved_afresh : (c : Call) → Known k.lowered c → kept_moved k c ≡ book_moved (as_book k) c
  unfolding kept_moved book_moved book_with
  moved_afresh c known =
      differs_alike k.lowered _ _ _ _ (λ e l. kept_answer_lem k fresh e)
      (λ e l. kept_answer_lem (changed k c) (leaves_afresh c) e ∙ ap (λ (b : Book). answer b.lowered b.scopes e) (leaves_book c known))

  -- THEOREM. Every call comes to what it comes to in the plain book.
  pub outcome_afresh : (c : Call) → kept_outcome fit k c ≡ book_outcome (as_book k) c
  unfolding kept_outcome book_outcome
  outcome_afresh c =
      outcome_same k.lowered (kept_answer k) (answer k.lowered k.scopes) (kept_references k) (references k.lowered k.scopes) k.spent (kept_moved k) (book_moved (as_book k))
      (kept_answer_lem k fresh) (kept_references_lem k fresh) moved_afresh fit c

  -- THEOREM. After every call everything kept is again as it is worked out afresh.
  pub stays_afresh : (c : Call) → Afresh (kept_after fit k c)
  unfolding kept_after
  stays_afresh c = go (is_accepted (kept_outcome fit k c)) refl
    where
      go : (b : Bool) → is_accepted (kept_outcome fit k c) ≡ b → Afresh (kept_after fit k c)
      go true p = rw p (leaves_afresh c)
      go false p = rw p fresh

  -- THEOREM. After every call the module, the scopes and the room spent are the book's.
  pub after_afresh : (c : Call) → as_book (kept_after fit k c) ≡ book_after (as_book k) c
  unfolding kept_after book_after kept_outcome book_with
  after_afresh c = rw (← outcome_afresh c) (go (is_accepted (kept_outcome fit k c)) refl)
    where
      go : (b : Bool) → is_accepted (kept_outcome fit k c) ≡ b → as_book (kept_after fit k c) ≡ book_with (as_book k) c b
      go true p = rw p (leaves_book c (accepted_known k.lowered (kept_answer k) (kept_references k) k.spent (kept_moved k) fit c p))
      go false p = rw p
