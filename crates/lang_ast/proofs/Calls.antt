-- DEMAND 3 (docs/RULES.md, "Demand 3"), of the exported calls themselves: lists of calls, each of which meets its own
-- `ensures` and no more is known of it, and what holds of every such list from a store that an accepted load left.
-- Assumes nothing.
use mathlib.Core.Path.{◌≡◌, refl, sym, ap, subst, ◌∙◌}
use mathlib.Core.List.{List, [], ◌∷◌, map}
use Prim.Native.Nat.{ℕ, suc}
use lib.ListN.{length, replicate}
use contract.Lifetimes.{Lfts}
use denote.Ref.{Bor, MutBor}
use denote.Triple.Clauses.{Ended, Lasts, at_exit}
use borrow.Fn.Kinds.{ended_of}
use Rattle.spec.specs.Sheet.{Node, Judged}
use Rattle.spec.specs.Tree.{judge}
use Rattle.spec.specs.Lower.{lower_module}
use Rattle.spec.specs.Calls.{Call, ask_reference, ask_name, change_reference, change_name, Outcome, check, outcome}
use Rattle.spec.specs.Kept.{kept_outcome}
use Rattle.spec.specs.Book.{Book, book_of, book_outcome, book_after, book_outcomes}
use Rattle.spec.proofs.change.Incremental.{as_book}
use Rattle.words.specs.Runs.{splice}
use Rattle.words.specs.Words.{set_word, bytes_of}
use Rattle.layout.specs.Rows.{set_all}
use Rattle.layout.specs.Keeps.{kept_in}
use Rattle.soundness.specs.Sound.{condition_of}
use Rattle.replies.specs.Replies.{returned, reply_after, reply_words, buffer_after, list_of}
use Rattle.requests.specs.Requests.{outcome_in}
use Rattle.lang_ast.specs.Turns.{KeepsBook, Turn, Asking}
use Rattle.lang_ast.proofs.TurnLaws.{Ready, Change, changing_turn, Ask, ask_reference_turn, ask_name_turn, Start, accepted_starts, refused_leaves}
use Rattle.lang_ast.proofs.lang_ast_load.Kinds as load_kinds
use Rattle.lang_ast.proofs.lang_ast_load.Reads as load
use Rattle.lang_ast.proofs.lang_ast_ask_reference.Kinds as ask_reference_kinds
use Rattle.lang_ast.proofs.lang_ast_ask_reference.Reads as ask_reference_reads
use Rattle.lang_ast.proofs.lang_ast_ask_name.Kinds as ask_name_kinds
use Rattle.lang_ast.proofs.lang_ast_ask_name.Reads as ask_name_reads
use Rattle.lang_ast.proofs.lang_ast_change_reference.Kinds as change_reference_kinds
use Rattle.lang_ast.proofs.lang_ast_change_reference.Reads as change_reference_reads
use Rattle.lang_ast.proofs.lang_ast_change_name.Kinds as change_name_kinds
use Rattle.lang_ast.proofs.lang_ast_change_name.Reads as change_name_reads

-- A slice is a reference: where it points, and its bytes `now`; one that a call may write has a ghost name beside them.
abbrev pub Bytes : Type 0
Bytes = Bor (List ℕ)

abbrev pub MutBytes : Type 0
MutBytes = MutBor (List ℕ)

-- The parameters of the calls in their order, as nested pairs that end in `tt`: the sheet, the store and the reply of a
-- load; the store, a number, the buffer and the reply of an asking; a change has its text before the buffer.
abbrev pub LoadArgs : Type 0
LoadArgs = Bytes × (MutBytes × (MutBytes × Unit {0}))

abbrev pub Args : Type 0
Args = Bytes × (ℕ × (MutBytes × (MutBytes × Unit {0})))

abbrev pub ChangeArgs : Type 0
ChangeArgs = MutBytes × (ℕ × (Bytes × (MutBytes × (MutBytes × Unit {0}))))

-- What each signature says of its call's end: a `&` is as it was passed, a `&mut` has its last bytes.
abbrev pub LoadEnd : Ended
LoadEnd = ended_of 3 load_kinds.ps load_kinds.r

abbrev pub AskReferenceEnd : Ended
AskReferenceEnd = ended_of 3 ask_reference_kinds.ps ask_reference_kinds.r

abbrev pub AskNameEnd : Ended
AskNameEnd = ended_of 3 ask_name_kinds.ps ask_name_kinds.r

abbrev pub ChangeReferenceEnd : Ended
ChangeReferenceEnd = ended_of 4 change_reference_kinds.ps change_reference_kinds.r

abbrev pub ChangeNameEnd : Ended
ChangeNameEnd = ended_of 4 change_name_kinds.ps change_name_kinds.r

-- ---- No call asks anything of its caller: a `requires` would stand here, and `tt` would not prove it.
pub load_free : (κs : Lfts 3) (a : LoadArgs) → load.Asked κs a
load_free κs a = tt

pub ask_reference_free : (κs : Lfts 3) (a : Args) → ask_reference_reads.Asked κs a
ask_reference_free κs a = tt

pub ask_name_free : (κs : Lfts 3) (a : Args) → ask_name_reads.Asked κs a
ask_name_free κs a = tt

pub change_reference_free : (κs : Lfts 4) (a : ChangeArgs) → change_reference_reads.Asked κs a
change_reference_free κs a = tt

pub change_name_free : (κs : Lfts 4) (a : ChangeArgs) → change_name_reads.Asked κs a
change_name_free κs a = tt

-- ---- lists of calls
-- Trace s u: calls one after the other, from a store of the bytes s to a store of the bytes u, each with its own
-- arguments as lent. "Each call gets the store as the last one left it, and nobody else writes it meanwhile." What is
-- known of a call is its `ensures`, and no more.
pub data Trace : List ℕ → List ℕ → Type 0 where
  done : (s : List ℕ) → Trace s s
  asked_reference : (κs : Lfts 3) (a : Args) (w : Lasts AskReferenceEnd κs a) (r : ℕ) (u : List ℕ)
      → ask_reference_reads.Post κs a r (at_exit AskReferenceEnd κs a w) → Trace (at_exit AskReferenceEnd κs a w).0.now u → Trace a.0.now u
  asked_name : (κs : Lfts 3) (a : Args) (w : Lasts AskNameEnd κs a) (r : ℕ) (u : List ℕ)
      → ask_name_reads.Post κs a r (at_exit AskNameEnd κs a w) → Trace (at_exit AskNameEnd κs a w).0.now u → Trace a.0.now u
  changed_reference : (κs : Lfts 4) (a : ChangeArgs) (w : Lasts ChangeReferenceEnd κs a) (r : ℕ) (u : List ℕ)
      → change_reference_reads.Post κs a r (at_exit ChangeReferenceEnd κs a w) → Trace (at_exit ChangeReferenceEnd κs a w).0.now u → Trace a.0.now u
  changed_name : (κs : Lfts 4) (a : ChangeArgs) (w : Lasts ChangeNameEnd κs a) (r : ℕ) (u : List ℕ)
      → change_name_reads.Post κs a r (at_exit ChangeNameEnd κs a w) → Trace (at_exit ChangeNameEnd κs a w).0.now u → Trace a.0.now u

-- the calls of the definitions: what is lent counts by its length, but for a text
abbrev pub asking_reference : Args → Call
asking_reference a = ask_reference a.1.0 (length a.1.1.0.now) (length a.1.1.1.0.now)

abbrev pub asking_name : Args → Call
asking_name a = ask_name a.1.0 (length a.1.1.0.now) (length a.1.1.1.0.now)

abbrev pub changing_reference : ChangeArgs → Call
changing_reference a = change_reference a.1.0 a.1.1.0.now (length a.1.1.1.0.now) (length a.1.1.1.1.0.now)

abbrev pub changing_name : ChangeArgs → Call
changing_name a = change_name a.1.0 a.1.1.0.now (length a.1.1.1.0.now) (length a.1.1.1.1.0.now)

-- at the turn of an asking, b being the book before it: what was lent, and what it is at exit
abbrev AskingTurn : Book → Call → Args → ℕ → Args → Type 0
AskingTurn b c a r z = Asking b c a.0.now z.0.now r a.1.1.0.now a.1.1.1.0.now z.1.1.0.now z.1.1.1.0.now

abbrev ChangingTurn : Book → Call → ChangeArgs → ℕ → ChangeArgs → Type 0
ChangingTurn b c a r z = Turn b c a.0.now z.0.now r a.1.1.1.0.now a.1.1.1.1.0.now z.1.1.1.0.now z.1.1.1.1.0.now

-- What holds of every call of a trace, at its turn; b is the book before the first, and what the store keeps after the
-- last is the book's too.
unfoldable pub Follows : (s u : List ℕ) → Trace s u → Book → Type 0
Follows s u (done s') b = KeepsBook b s'
Follows s u (asked_reference κs a w r u' here more) b =
    let z = at_exit AskReferenceEnd κs a w in
    AskingTurn b (asking_reference a) a r z × Follows z.0.now u' more (book_after b (asking_reference a))
Follows s u (asked_name κs a w r u' here more) b =
    let z = at_exit AskNameEnd κs a w in
    AskingTurn b (asking_name a) a r z × Follows z.0.now u' more (book_after b (asking_name a))
Follows s u (changed_reference κs a w r u' here more) b =
    let z = at_exit ChangeReferenceEnd κs a w in
    ChangingTurn b (changing_reference a) a r z × Follows z.0.now u' more (book_after b (changing_reference a))
Follows s u (changed_name κs a w r u' here more) b =
    let z = at_exit ChangeNameEnd κs a w in
    ChangingTurn b (changing_name a) a r z × Follows z.0.now u' more (book_after b (changing_name a))

-- ---- the turn of each call, from its own contract
module _ (κs : Lfts 3) (a : Args) (r : ℕ) where
  abbrev Asks : Call → Args → Type 0
  Asks c z = Ask c a.0.now a.0.now r a.1.1.0.now a.1.1.1.0.now z.1.1.0.now z.1.1.1.0.now

  reference_turn : (w : Lasts AskReferenceEnd κs a) → ask_reference_reads.Post κs a r (at_exit AskReferenceEnd κs a w) → Ready a.0.now → Asks (asking_reference a) (at_exit AskReferenceEnd κs a w)
  reference_turn w here =
      let z = at_exit AskReferenceEnd κs a w in
      ask_reference_turn a.1.0 (length a.1.1.0.now) (length a.1.1.1.0.now) a.0.now r a.1.1.0.now a.1.1.1.0.now z.1.1.0.now z.1.1.1.0.now
      (record { number = here.0; buffer = here.1.0; reply = here.1.1 })

  name_turn : (w : Lasts AskNameEnd κs a) → ask_name_reads.Post κs a r (at_exit AskNameEnd κs a w) → Ready a.0.now → Asks (asking_name a) (at_exit AskNameEnd κs a w)
  name_turn w here =
      let z = at_exit AskNameEnd κs a w in
      ask_name_turn a.1.0 (length a.1.1.0.now) (length a.1.1.1.0.now) a.0.now r a.1.1.0.now a.1.1.1.0.now z.1.1.0.now z.1.1.1.0.now
      (record { number = here.0; buffer = here.1.0; reply = here.1.1 })

module _ (κs : Lfts 4) (a : ChangeArgs) (r : ℕ) where
  abbrev Alters : Call → ChangeArgs → Type 0
  Alters c z = Change c a.0.now z.0.now r a.1.1.1.0.now a.1.1.1.1.0.now z.1.1.1.0.now z.1.1.1.1.0.now

  reference_changed : (w : Lasts ChangeReferenceEnd κs a) → change_reference_reads.Post κs a r (at_exit ChangeReferenceEnd κs a w) → Ready a.0.now → Alters (changing_reference a) (at_exit ChangeReferenceEnd κs a w)
  reference_changed w here =
      let z = at_exit ChangeReferenceEnd κs a w in
      changing_turn (changing_reference a) a.0.now z.0.now r a.1.1.1.0.now a.1.1.1.1.0.now z.1.1.1.0.now z.1.1.1.1.0.now
      (record { number = here.0; buffer = here.1.0; reply = here.1.1.0; leaves = here.1.1.1 })

  name_changed : (w : Lasts ChangeNameEnd κs a) → change_name_reads.Post κs a r (at_exit ChangeNameEnd κs a w) → Ready a.0.now → Alters (changing_name a) (at_exit ChangeNameEnd κs a w)
  name_changed w here =
      let z = at_exit ChangeNameEnd κs a w in
      changing_turn (changing_name a) a.0.now z.0.now r a.1.1.1.0.now a.1.1.1.1.0.now z.1.1.1.0.now z.1.1.1.1.0.now
      (record { number = here.0; buffer = here.1.0; reply = here.1.1.0; leaves = here.1.1.1 })

-- THEOREM. So it is of every list of calls from a store to go on from, whoever made it, and the book is the one that it
-- keeps.
pub follows : (s u : List ℕ) (t : Trace s u) → Ready s → Follows s u t (as_book (kept_in s))
unfolding Follows
follows s u (done s') ready = record { texts = refl; scopes = refl; answers = ready.fresh.answers; references = ready.fresh.references; room = refl; sound = ready.sound }
follows s u (asked_reference κs a w r u' here more) ready =
    let x = reference_turn κs a r w here ready in
    (x.asking, subst (λ (b : Book). Follows a.0.now u' more b) x.book (follows a.0.now u' more x.ready))
follows s u (asked_name κs a w r u' here more) ready =
    let x = name_turn κs a r w here ready in
    (x.asking, subst (λ (b : Book). Follows a.0.now u' more b) x.book (follows a.0.now u' more x.ready))
follows s u (changed_reference κs a w r u' here more) ready =
    let z = at_exit ChangeReferenceEnd κs a w in
    let x = reference_changed κs a r w here ready in
    (x.turn, subst (λ (b : Book). Follows z.0.now u' more b) x.book (follows z.0.now u' more x.ready))
follows s u (changed_name κs a w r u' here more) ready =
    let z = at_exit ChangeNameEnd κs a w in
    let x = name_changed κs a r w here ready in
    (x.turn, subst (λ (b : Book). Follows z.0.now u' more b) x.book (follows z.0.now u' more x.ready))

-- ---- demand 3
-- What holds of a list of calls from the store s that the sheet was loaded into.
pub record Holds (sheet s u : List ℕ) (t : Trace s u) : Type 0 where
  pub nodes : List Node
  pub judged : judge sheet ≡ Judged.accepted nodes
  -- "It starts with the module and texts that these rules make of the loaded sheet, no room spent."
  pub begins : KeepsBook (book_of (lower_module nodes)) s
  pub follows : Follows s u t (book_of (lower_module nodes))

-- THEOREM, demand 3. For every call of the load that was accepted, and every list of the other calls from the store as
-- it left it.
pub demand3 : (κs : Lfts 3) (a : LoadArgs) (w : Lasts LoadEnd κs a) → load.Post κs a 0 (at_exit LoadEnd κs a w)
    → (u : List ℕ) (t : Trace (at_exit LoadEnd κs a w).1.0.now u) → Holds a.0.now (at_exit LoadEnd κs a w).1.0.now u t
demand3 κs a w here u t =
    let z = at_exit LoadEnd κs a w in
    let start : Start a.0.now z.1.0.now = accepted_starts a.0.now a.1.0.now a.1.1.0.now z.1.0.now here.0 here.1.1 in
    record {
      nodes = start.nodes;
      judged = start.judged;
      begins = start.begins;
      follows = subst (λ (b : Book). Follows z.1.0.now u t b) start.book (follows z.1.0.now u t start.ready);
    }

-- ---- what a reader asks next
-- THEOREM. A load that is refused leaves the store as it was, byte for byte; so what an earlier load left answers as
-- before.
pub refused_load : (κs : Lfts 3) (a : LoadArgs) (w : Lasts LoadEnd κs a) (n : ℕ) → load.Post κs a (suc n) (at_exit LoadEnd κs a w) → (at_exit LoadEnd κs a w).1.0.now ≡ a.1.0.now
refused_load κs a w n here = refused_leaves a.0.now a.1.0.now a.1.1.0.now (at_exit LoadEnd κs a w).1.0.now n here.0 here.1.1

-- the calls of a trace, and the numbers that they returned
unfoldable pub calls_of : (s u : List ℕ) → Trace s u → List Call
calls_of s u (done s') = []
calls_of s u (asked_reference κs a w r u' here more) = asking_reference a ∷ calls_of (at_exit AskReferenceEnd κs a w).0.now u' more
calls_of s u (asked_name κs a w r u' here more) = asking_name a ∷ calls_of (at_exit AskNameEnd κs a w).0.now u' more
calls_of s u (changed_reference κs a w r u' here more) = changing_reference a ∷ calls_of (at_exit ChangeReferenceEnd κs a w).0.now u' more
calls_of s u (changed_name κs a w r u' here more) = changing_name a ∷ calls_of (at_exit ChangeNameEnd κs a w).0.now u' more

unfoldable pub numbers_of : (s u : List ℕ) → Trace s u → List ℕ
numbers_of s u (done s') = []
numbers_of s u (asked_reference κs a w r u' here more) = r ∷ numbers_of (at_exit AskReferenceEnd κs a w).0.now u' more
numbers_of s u (asked_name κs a w r u' here more) = r ∷ numbers_of (at_exit AskNameEnd κs a w).0.now u' more
numbers_of s u (changed_reference κs a w r u' here more) = r ∷ numbers_of (at_exit ChangeReferenceEnd κs a w).0.now u' more
numbers_of s u (changed_name κs a w r u' here more) = r ∷ numbers_of (at_exit ChangeNameEnd κs a w).0.now u' more

-- what each call came to, in the store that it found
unfoldable pub outcomes_of : (s u : List ℕ) → Trace s u → List Outcome
outcomes_of s u (done s') = []
outcomes_of s u (asked_reference κs a w r u' here more) = outcome_in a.0.now (asking_reference a) ∷ outcomes_of (at_exit AskReferenceEnd κs a w).0.now u' more
outcomes_of s u (asked_name κs a w r u' here more) = outcome_in a.0.now (asking_name a) ∷ outcomes_of (at_exit AskNameEnd κs a w).0.now u' more
outcomes_of s u (changed_reference κs a w r u' here more) = outcome_in a.0.now (changing_reference a) ∷ outcomes_of (at_exit ChangeReferenceEnd κs a w).0.now u' more
outcomes_of s u (changed_name κs a w r u' here more) = outcome_in a.0.now (changing_name a) ∷ outcomes_of (at_exit ChangeNameEnd κs a w).0.now u' more

-- the numbers are those of what the calls came to
pub numbers_are : (s u : List ℕ) (t : Trace s u) → numbers_of s u t ≡ map returned (outcomes_of s u t)
unfolding numbers_of outcomes_of
numbers_are s u (done s') = refl
numbers_are s u (asked_reference κs a w r u' here more) = λ i. here.0 i ∷ numbers_are a.0.now u' more i
numbers_are s u (asked_name κs a w r u' here more) = λ i. here.0 i ∷ numbers_are a.0.now u' more i
numbers_are s u (changed_reference κs a w r u' here more) = λ i. here.0 i ∷ numbers_are (at_exit ChangeReferenceEnd κs a w).0.now u' more i
numbers_are s u (changed_name κs a w r u' here more) = λ i. here.0 i ∷ numbers_are (at_exit ChangeNameEnd κs a w).0.now u' more i

-- one call more
outcomes_more : (b b' : Book) (c : Call) (cs : List Call) (o : Outcome) (os : List Outcome) → o ≡ book_outcome b c → b' ≡ book_after b c → os ≡ book_outcomes b' cs → o ∷ os ≡ book_outcomes b (c ∷ cs)
unfolding book_outcomes
outcomes_more b b' c cs o os e f g = λ i. e i ∷ (g ∙ ap (λ (d : Book). book_outcomes d cs) f) i

-- THEOREM. What the calls of a list come to, together.
pub outcomes_are : (s u : List ℕ) (t : Trace s u) → Ready s → outcomes_of s u t ≡ book_outcomes (as_book (kept_in s)) (calls_of s u t)
unfolding outcomes_of calls_of book_outcomes
outcomes_are s u (done s') ready = refl
outcomes_are s u (asked_reference κs a w r u' here more) ready =
    let x = reference_turn κs a r w here ready in
    outcomes_more _ (as_book (kept_in a.0.now)) (asking_reference a) (calls_of a.0.now u' more) _ (outcomes_of a.0.now u' more) x.told x.book (outcomes_are a.0.now u' more x.ready)
outcomes_are s u (asked_name κs a w r u' here more) ready =
    let x = name_turn κs a r w here ready in
    outcomes_more _ (as_book (kept_in a.0.now)) (asking_name a) (calls_of a.0.now u' more) _ (outcomes_of a.0.now u' more) x.told x.book (outcomes_are a.0.now u' more x.ready)
outcomes_are s u (changed_reference κs a w r u' here more) ready =
    let z = at_exit ChangeReferenceEnd κs a w in
    let x = reference_changed κs a r w here ready in
    outcomes_more _ (as_book (kept_in z.0.now)) (changing_reference a) (calls_of z.0.now u' more) _ (outcomes_of z.0.now u' more) x.told x.book (outcomes_are z.0.now u' more x.ready)
outcomes_are s u (changed_name κs a w r u' here more) ready =
    let z = at_exit ChangeNameEnd κs a w in
    let x = name_changed κs a r w here ready in
    outcomes_more _ (as_book (kept_in z.0.now)) (changing_name a) (calls_of z.0.now u' more) _ (outcomes_of z.0.now u' more) x.told x.book (outcomes_are z.0.now u' more x.ready)

-- The store s as an accepted load of the sheet left it, whatever the bytes were before.
pub record LoadedFrom (sheet s : List ℕ) : Type 0 where
  pub κs : Lfts 3
  pub a : LoadArgs
  pub w : Lasts LoadEnd κs a
  pub here : load.Post κs a 0 (at_exit LoadEnd κs a w)
  pub read : a.0.now ≡ sheet
  pub left : (at_exit LoadEnd κs a w).1.0.now ≡ s

start_of : (sheet s : List ℕ) → LoadedFrom sheet s → Start sheet s
start_of sheet s l =
    let z = at_exit LoadEnd l.κs l.a l.w in
    let start : Start l.a.0.now z.1.0.now = accepted_starts l.a.0.now l.a.1.0.now l.a.1.1.0.now z.1.0.now l.here.0 l.here.1.1 in
    subst (λ (x : List ℕ). Start sheet x) l.left (subst (λ (x : List ℕ). Start x z.1.0.now) l.read start)

-- THEOREM. The same calls on two stores that accepted loads of the same sheet left come to the same, and return the
-- same numbers.
pub same_outcomes : (sheet s s' u u' : List ℕ) → LoadedFrom sheet s → LoadedFrom sheet s' → (t : Trace s u) (t' : Trace s' u') → calls_of s u t ≡ calls_of s' u' t'
    → (outcomes_of s u t ≡ outcomes_of s' u' t') × (numbers_of s u t ≡ numbers_of s' u' t')
same_outcomes sheet s s' u u' l l' t t' e =
    let x = start_of sheet s l in
    let y = start_of sheet s' l' in
    let nodes : x.nodes ≡ y.nodes = ap nodes_of (sym x.judged ∙ y.judged) in
    let book : as_book (kept_in s) ≡ as_book (kept_in s') = x.book ∙ ap (λ (ns : List Node). book_of (lower_module ns)) nodes ∙ sym y.book in
    let same : outcomes_of s u t ≡ outcomes_of s' u' t' = outcomes_are s u t x.ready ∙ (λ i. book_outcomes (book i) (e i)) ∙ sym (outcomes_are s' u' t' y.ready) in
    (same, numbers_are s u t ∙ ap (map returned) same ∙ sym (numbers_are s' u' t'))
  where
    nodes_of : Judged → List Node
    nodes_of (Judged.accepted ns) = ns
    nodes_of (Judged.refused number place) = []

-- ---- A trace that is there, and meets the contracts by computing: a store without a byte is too short for any call,
-- and a reply of twenty bytes is told so.
lent : List ℕ → Bytes
lent l = record { ref_ptr = (0, 0); now = l }

lent_mut : List ℕ → MutBytes
lent_mut l = record { ref_ptr = (0, 0); ghost_name = 0; now = l }

twenty : List ℕ
twenty = replicate 20 7

short : List ℕ
short = 21 ∷ replicate 19 0

example : Trace [] []
unfolding lent lent_mut twenty short outcome_in kept_outcome outcome condition_of check returned reply_after reply_words buffer_after list_of set_all set_word splice bytes_of
example =
    asked_reference ([], ([], ([], tt))) (lent [], (3, (lent_mut (5 ∷ []), (lent_mut twenty, tt)))) (tt, (tt, (5 ∷ [], (short, tt)))) 21 [] (refl, (refl, refl))
    (asked_name ([], ([], ([], tt))) (lent [], (3, (lent_mut [], (lent_mut [], tt)))) (tt, (tt, ([], ([], tt)))) 21 [] (refl, (refl, refl)) (done []))
