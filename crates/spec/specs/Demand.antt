-- docs/RULES.md, "Demand 3" and "What may move": demand 3 as a statement about every list of calls, `Demand3`. Beside
-- each clause stands the sentence that it is. It is proved in proofs/ (Demand3.antt) of any store whose calls keep
-- their promises, and in the crate lang_ast (proofs/Calls.antt) of the exported calls.
use Rattle.std.specs.Prelude.{◌≡◌, ◌≢◌, Bool, true, false, List, [], ◌∷◌, map, ℕ, ◌<◌, ◌≤◌, length}
use Rattle.spec.specs.Basics.{ExprId, NameId, ScopeId}
use Rattle.spec.specs.Sheet.{Node, Judged}
use Rattle.spec.specs.Tree.{judge}
use Rattle.spec.specs.Module.{Module}
use Rattle.spec.specs.Lower.{lower_module}
use Rattle.spec.specs.Scopes.{Scopes, holds, scopes_of}
use Rattle.spec.specs.Answer.{scope_at}
use Rattle.spec.specs.Calls.{Condition, fit, Call, ask_reference, ask_name, change_reference, change_name, Outcome, is_accepted, moved_of, old_text, new_text, at_name, at_reference}
use Rattle.spec.specs.Moved.{passing, differing, may_move}
use Rattle.spec.specs.Book.{Book, book_of, book_outcome, book_after, book_outcomes, book_after_all}
use Rattle.spec.specs.Kept.{Kept, kept_of, kept_answer, kept_outcome, kept_after, loaded, answers_afresh, references_afresh}

-- ---- what a call may move
-- "A name is held by the scope it is entered in": no name is held by two
abbrev pub HeldOnce : Scopes → Type 0
HeldOnce w =
    (x : NameId) (s s' : ScopeId) → s < length w.scopes → s' < length w.scopes
    → holds x (scope_at w.scopes s).kind ≡ true → holds x (scope_at w.scopes s').kind ≡ true → s ≡ s'

-- whether the call may leave a Reference another answer
unfoldable pub call_may_move : Kept → Call → ExprId → Bool
-- "an asking moves none"
call_may_move k (ask_reference n buffer reply) e = false
call_may_move k (ask_name n buffer reply) e = false
call_may_move k (change_reference n t buffer reply) e = may_move k.lowered k.scopes (at_reference n) t e
call_may_move k (change_name x t buffer reply) e = may_move k.lowered k.scopes (at_name x) t e

-- how many it moves at most: "For a changed name the count is at most the number of references with the old or new text
-- whose scope is the name's scope or inside it, and for a changed reference at most one."
unfoldable pub most_moved : Kept → Call → ℕ
most_moved k (ask_reference n buffer reply) = 0
most_moved k (ask_name n buffer reply) = 0
most_moved k (change_reference n t buffer reply) = 1
most_moved k (change_name x t buffer reply) = length (passing (may_move k.lowered k.scopes (at_name x) t) 0 k.lowered.exprs)

-- what one call moved. "An answer moves if a call leaves its 0–3, name, index or With list different."
pub record Moves (before : Kept) (c : Call) (o : Outcome) (after : Kept) : Type 0 where
  pub only : (e : ExprId) → kept_answer before e ≢ kept_answer after e → call_may_move before c e ≡ true
  -- "A refused call, an equal text or an asking moves none."
  pub refused : is_accepted o ≡ false → (e : ExprId) → kept_answer before e ≡ kept_answer after e
  pub equal : old_text before.lowered c ≡ new_text c → (e : ExprId) → kept_answer before e ≡ kept_answer after e
  -- the list that a change tells: "exactly those whose answer differs, ascending", none "for a refused change or an
  -- equal text"
  pub list : moved_of o ≡ differing before.lowered (kept_answer before) (kept_answer after)
  pub few : length (moved_of o) ≤ most_moved before c

-- ---- A host's store, with what it keeps and how a call finds it.
module _ (Store : Type 0) (kept : Store → Kept) (condition : Store → Condition) where
  -- What the entry points promise of a call that finds the store s and leaves the store t.
  pub record Called (s : Store) (c : Call) (o : Outcome) (t : Store) : Type 0 where
    pub told : o ≡ kept_outcome (condition s) (kept s) c
    pub left : kept t ≡ kept_after (condition s) (kept s) c
    -- "A refusal writes to neither store nor buffer", nor does an asking write the store
    pub same : is_accepted o ≡ false → t ≡ s
    -- "A store as a load or an accepted change left it is never 22 or 23."
    pub stays : condition s ≡ fit → condition t ≡ fit

  -- A store that a module was put into, before the first call.
  pub record Starts (m : Module) (s : Store) : Type 0 where
    pub left : kept s ≡ kept_of m
    pub sound : condition s ≡ fit
    pub once : HeldOnce (scopes_of m)

  -- What loading promises of a sheet that it accepts. It is such a store: that its names are held once is a theorem
  -- about lowering.
  pub record LoadedFrom (sheet : List ℕ) (nodes : List Node) (s : Store) : Type 0 where
    pub judged : judge sheet ≡ Judged.accepted nodes
    pub left : kept s ≡ loaded nodes
    pub sound : condition s ≡ fit

  -- "Each call gets the store as the last one left it, and nobody else writes it meanwhile."
  pub data Trace : Store → List (Call × Outcome) → Store → Type 0 where
    done : (s : Store) → Trace s [] s
    call : (s t u : Store) (c : Call) (o : Outcome) (rest : List (Call × Outcome)) → Called s c o t → Trace t rest u → Trace s ((c, o) ∷ rest) u

  -- What a store keeps is the book's.
  pub record KeepsBook (b : Book) (s : Store) : Type 0 where
    -- "the texts, .. in the store after it, are the book's"; with them all of the module, which but for texts stays as
    -- loaded
    pub texts : (kept s).lowered ≡ b.lowered
    -- the book's scopes never change: "over the scopes as loaded"
    pub scopes : (kept s).scopes ≡ b.scopes
    -- "every reference keeps exactly the answer .. that the definition in 2 gives afresh .. for the texts as they then
    -- read"
    pub answers : (kept s).answers ≡ answers_afresh b.lowered b.scopes
    -- "and every name exactly the references"
    pub references : (kept s).references ≡ references_afresh b.lowered b.scopes
    -- "spends room as 27 says"
    pub room : (kept s).spent ≡ b.spent
    -- "A store as a load or an accepted change left it is never 22 or 23."
    pub sound : condition s ≡ fit

  -- What holds of a call at its turn, b being the book before it.
  pub record Turn (b : Book) (s : Store) (c : Call) (o : Outcome) (t : Store) : Type 0 where
    -- "Each call's refusal, place, answer, length and list .. are the book's", so that "each accepted asking in the
    -- list was answered so at its turn"
    pub told : o ≡ book_outcome b c
    -- "and the texts, kept answers and kept references in the store after it"
    pub keeps : KeepsBook (book_after b c) t
    -- "A changed reference moves its own answer only. ..": only what may move has moved
    pub moves : Moves (kept s) c o (kept t)

  -- it holds of every call of a trace, at its turn
  unfoldable pub Follows : (b : Book) (s u : Store) (calls : List (Call × Outcome)) → Trace s calls u → Type 0
  Follows b s u calls (done s') = Unit {0}
  Follows b s u calls (call s' t u' c o rest here more) = Turn b s' c o t × Follows (book_after b c) t u' rest more

  -- What holds of a list of calls from a store that a module was put into: "a single claim about the whole list of
  -- calls, not one for each call".
  pub record Holds (m : Module) (s u : Store) (calls : List (Call × Outcome)) (trace : Trace s calls u) : Type 0 where
    -- before the first call: "It starts with the module and texts that these rules make of the loaded sheet, no room
    -- spent."
    pub begins : KeepsBook (book_of m) s
    -- at every call: "Each call's refusal, place, answer, length and list, and the texts, kept answers and kept
    -- references in the store after it, are the book's"
    pub follows : Follows (book_of m) s u calls trace
    -- the outcomes of all of them
    pub outcomes : map (λ x. x.1) calls ≡ book_outcomes (book_of m) (map (λ x. x.0) calls)
    -- "after it, every reference keeps exactly the answer, and every name exactly the references, that the definition
    -- in 2 gives afresh, .. for the texts as they then read"
    pub ends : KeepsBook (book_after_all (book_of m) (map (λ x. x.0) calls)) u
    -- "over the scopes as loaded"
    pub scopes : (kept u).scopes ≡ scopes_of m

  -- "For every list of text changes and askings, refused ones included, whatever numbers and texts they bring, from the
  -- store as an accepted load left it"
  unfoldable pub Demand3 : Type 0
  Demand3 =
      (sheet : List ℕ) (nodes : List Node) (s : Store) → LoadedFrom sheet nodes s
      → (u : Store) (calls : List (Call × Outcome)) (trace : Trace s calls u) → Holds (lower_module nodes) s u calls trace
