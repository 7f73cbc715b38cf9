-- From what a call's contract says of the bytes to demand 3 at its turn. Assumes nothing.
use Rattle.std.specs.Prelude.{if◌then◌else◌}
use mathlib.Core.Path.{◌≡◌, refl, sym, ap, ◌∙◌}
use mathlib.Core.Bool.{Bool, true, false, ◌||◌}
use mathlib.Core.List.{List, [], ◌∷◌}
use mathlib.Core.Option.{Option, none, some}
use Prim.Native.Nat.{ℕ, suc, ◌*◌}
use native.Mathlib.Omega.{arith}
use lib.ListN.{length}
use lib.Dec.{ltb, leb}
use Rattle.spec.specs.Sheet.{Node, Judged}
use Rattle.spec.specs.Tree.{judge}
use Rattle.spec.specs.Lower.{lower_module}
use Rattle.spec.specs.Answer.{Answer}
use Rattle.spec.specs.Calls.{Condition, Call, ask_reference, ask_name, Outcome, answered, listed, is_accepted, with_list, check, reply_of, reply_bytes, in_buffer, give_answer, answer_call, outcome, loading}
use Rattle.spec.specs.Kept.{Kept, kept_answer, kept_references, kept_moved, kept_outcome}
use Rattle.spec.specs.Book.{book_of, book_outcome, book_after, book_after_all}
use Rattle.spec.specs.Demand as demand
use Rattle.spec.proofs.change.Incremental.{as_book}
use Rattle.spec.proofs.change.Demand3 as demand3
use Rattle.layout.specs.Keeps.{kept_in}
use Rattle.soundness.specs.Sound.{condition_of}
use Rattle.replies.specs.Replies.{returned, reply_after, buffer_after, load_outcome}
use Rattle.requests.specs.Requests.{outcome_in, Asked, Leaves, Changed}
use Rattle.load.specs.Loads as loads
use Rattle.load.specs.Loads.{Loaded, judged_in}
use Rattle.spec.proofs.reading.Refusals.{refused_number}
use Rattle.lang_ast.specs.Turns.{KeepsBook, Turn, Asking}

-- ---- an asking is never a change
not_accepted : (b : Bool) (number place : ℕ) (rest : Outcome) → is_accepted rest ≡ false → is_accepted (check b number place rest) ≡ false
unfolding check is_accepted
not_accepted true number place rest h = refl
not_accepted false number place rest h = h

module _ (store : Condition) (k : Kept) where
  state_checked : (c : Call) → is_accepted (answer_call k.lowered (kept_answer k) (kept_references k) k.spent (kept_moved k) c) ≡ false → is_accepted (kept_outcome store k c) ≡ false
  unfolding kept_outcome outcome
  state_checked c h =
      let inner = answer_call k.lowered (kept_answer k) (kept_references k) k.spent (kept_moved k) c in
      let third = not_accepted store.unloaded 23 0 inner h in
      let second = not_accepted store.unsound 22 0 (check store.unloaded 23 0 inner) third in
      not_accepted (store.short || ltb (reply_of c) reply_bytes) 21 0 (check store.unsound 22 0 (check store.unloaded 23 0 inner)) second

  pub reference_asked : (n buffer reply : ℕ) → is_accepted (kept_outcome store k (ask_reference n buffer reply)) ≡ false
  unfolding answer_call give_answer in_buffer is_accepted
  reference_asked n buffer reply =
      state_checked (ask_reference n buffer reply) (not_accepted (leb (length k.lowered.exprs) n) 24 n _ (given (kept_answer k n)))
    where
      given : (a : Option Answer) → is_accepted (give_answer k.lowered (kept_answer k) (kept_references k) k.spent (kept_moved k) n buffer a) ≡ false
      given none = refl
      given (some a) = not_accepted (ltb buffer (4 * length (with_list a))) 26 (length (with_list a)) (answered a) refl

  pub name_asked : (n buffer reply : ℕ) → is_accepted (kept_outcome store k (ask_name n buffer reply)) ≡ false
  unfolding answer_call in_buffer is_accepted
  name_asked n buffer reply =
      let es = kept_references k n in
      state_checked (ask_name n buffer reply) (not_accepted (leb (length k.lowered.names) n) 24 n _ (not_accepted (ltb buffer (4 * length es)) 26 (length es) (listed es) refl))

-- ---- what a contract says is what demand 3 asks of a call
abbrev Called : List ℕ → Call → Outcome → List ℕ → Type 0
Called s c o t = demand.Called (List ℕ) kept_in condition_of s c o t

abbrev pub Ready : List ℕ → Type 0
Ready s = demand3.Ready (List ℕ) kept_in condition_of s

asked_called : (s : List ℕ) (c : Call) → is_accepted (outcome_in s c) ≡ false → Called s c (outcome_in s c) s
unfolding outcome_in
asked_called s c h = record { told = refl; left = sym (demand3.refused_same (condition_of s) (kept_in s) c h); same = λ z. refl; stays = λ e. e }

changed_called : (s t : List ℕ) (c : Call) → Leaves c s t → Called s c (outcome_in s c) t
unfolding outcome_in
changed_called s t c x = record { told = refl; left = x.kept; same = x.refused; stays = x.sound }

-- ---- one turn, from a store to go on from
pub record Went (s : List ℕ) (c : Call) (t : List ℕ) : Type 0 where
  pub turn : demand.Turn (List ℕ) kept_in condition_of (as_book (kept_in s)) s c (outcome_in s c) t
  pub ready : Ready t
  pub book : as_book (kept_in t) ≡ book_after (as_book (kept_in s)) c

went : (s t : List ℕ) (c : Call) → Called s c (outcome_in s c) t → Ready s → Went s c t
unfolding demand.Follows book_after_all
went s t c here ready =
    let trace : demand.Trace (List ℕ) kept_in condition_of s ((c, outcome_in s c) ∷ []) t = demand.call s t t c (outcome_in s c) [] here (demand.done t) in
    let r = demand3.ran (List ℕ) kept_in condition_of s t ((c, outcome_in s c) ∷ []) trace ready in
    record { turn = r.follows.0; ready = r.ready; book = r.book }

turned : (s t : List ℕ) (c : Call) (r : ℕ) (q p q' p' : List ℕ) → Went s c t → r ≡ returned (outcome_in s c) → q' ≡ buffer_after (outcome_in s c) q → p' ≡ reply_after (outcome_in s c) p
    → Turn (as_book (kept_in s)) c s t r q p q' p'
turned s t c r q p q' p' w number buffer reply =
    let o = w.turn.told in
    record {
      number = number ∙ ap returned o;
      buffer = buffer ∙ ap (λ (x : Outcome). buffer_after x q) o;
      reply = reply ∙ ap (λ (x : Outcome). reply_after x p) o;
      keeps = w.turn.keeps;
      moves = rw o at w.turn.moves;
    }

pub record Change (c : Call) (s t : List ℕ) (r : ℕ) (q p q' p' : List ℕ) : Type 0 where
  pub turn : Turn (as_book (kept_in s)) c s t r q p q' p'
  pub told : outcome_in s c ≡ book_outcome (as_book (kept_in s)) c
  pub ready : Ready t
  pub book : as_book (kept_in t) ≡ book_after (as_book (kept_in s)) c

pub changing_turn : (c : Call) (s t : List ℕ) (r : ℕ) (q p q' p' : List ℕ) → Changed c s q p r t q' p' → Ready s → Change c s t r q p q' p'
changing_turn c s t r q p q' p' x ready =
    let w = went s t c (changed_called s t c x.leaves) ready in
    record { turn = turned s t c r q p q' p' w x.number x.buffer x.reply; told = w.turn.told; ready = w.ready; book = w.book }

pub record Ask (c : Call) (s t : List ℕ) (r : ℕ) (q p q' p' : List ℕ) : Type 0 where
  pub asking : Asking (as_book (kept_in s)) c s t r q p q' p'
  pub told : outcome_in s c ≡ book_outcome (as_book (kept_in s)) c
  pub ready : Ready t
  pub book : as_book (kept_in t) ≡ book_after (as_book (kept_in s)) c

asking_turn : (c : Call) (s : List ℕ) (r : ℕ) (q p q' p' : List ℕ) → is_accepted (outcome_in s c) ≡ false → Asked c s q p r q' p' → Ready s → Ask c s s r q p q' p'
asking_turn c s r q p q' p' never x ready =
    let w = went s s c (asked_called s c never) ready in
    record {
      asking = record { turn = turned s s c r q p q' p' w x.number x.buffer x.reply; same = refl };
      told = w.turn.told;
      ready = w.ready;
      book = w.book;
    }

pub ask_reference_turn : (n buffer reply : ℕ) (s : List ℕ) (r : ℕ) (q p q' p' : List ℕ) → Asked (ask_reference n buffer reply) s q p r q' p' → Ready s → Ask (ask_reference n buffer reply) s s r q p q' p'
unfolding outcome_in
ask_reference_turn n buffer reply s r q p q' p' = asking_turn (ask_reference n buffer reply) s r q p q' p' (reference_asked (condition_of s) (kept_in s) n buffer reply)

pub ask_name_turn : (n buffer reply : ℕ) (s : List ℕ) (r : ℕ) (q p q' p' : List ℕ) → Asked (ask_name n buffer reply) s q p r q' p' → Ready s → Ask (ask_name n buffer reply) s s r q p q' p'
unfolding outcome_in
ask_name_turn n buffer reply s r q p q' p' = asking_turn (ask_name n buffer reply) s r q p q' p' (name_asked (condition_of s) (kept_in s) n buffer reply)

-- ---- a load
-- The sheet was accepted, and the store s is one to go on from, which keeps the book of the sheet's module.
pub record Start (sheet s : List ℕ) : Type 0 where
  pub nodes : List Node
  pub judged : judge sheet ≡ Judged.accepted nodes
  pub begins : KeepsBook (book_of (lower_module nodes)) s
  pub ready : Ready s
  pub book : as_book (kept_in s) ≡ book_of (lower_module nodes)

loaded_starts : (sheet s t : List ℕ) (nodes : List Node) → judge sheet ≡ Judged.accepted nodes → Loaded nodes s t → Start sheet t
loaded_starts sheet s t nodes e x =
    let start = demand3.load_starts (List ℕ) kept_in condition_of sheet nodes t (record { judged = e; left = x.kept; sound = x.sound }) in
    let h = demand3.holds_of_calls (List ℕ) kept_in condition_of (lower_module nodes) t start t [] (demand.done t) in
    record {
      nodes = nodes;
      judged = e;
      begins = h.begins;
      ready = demand3.starts_ready (List ℕ) kept_in condition_of (lower_module nodes) t start;
      book = rw start.left (demand3.kept_book (lower_module nodes));
    }

-- what a load comes to, taken apart
pub accepted_starts : (sheet s p t : List ℕ) → 0 ≡ returned (load_outcome (judged_in sheet s p)) → loads.Leaves (judged_in sheet s p) s t → Start sheet t
unfolding judged_in loading load_outcome returned loads.Leaves
accepted_starts sheet s p t number leaves = short ((condition_of s).short || ltb (length p) reply_bytes) number leaves
  where
    judged : (j : Judged) → judge sheet ≡ j → 0 ≡ returned (load_outcome j) → loads.Leaves j s t → Start sheet t
    judged (Judged.accepted nodes) e h x = loaded_starts sheet s t nodes e x
    judged (Judged.refused number place) e h x = absurd (omega (arith, refused_number sheet number place e))

    short : (b : Bool) → 0 ≡ returned (load_outcome (if b then Judged.refused 21 0 else judge sheet)) → loads.Leaves (if b then Judged.refused 21 0 else judge sheet) s t → Start sheet t
    short true h x = absurd (omega arith)
    short false h x = judged (judge sheet) refl h x

pub refused_leaves : (sheet s p t : List ℕ) (n : ℕ) → suc n ≡ returned (load_outcome (judged_in sheet s p)) → loads.Leaves (judged_in sheet s p) s t → t ≡ s
unfolding load_outcome returned loads.Leaves
refused_leaves sheet s p t n = go (judged_in sheet s p)
  where
    go : (j : Judged) → suc n ≡ returned (load_outcome j) → loads.Leaves j s t → t ≡ s
    go (Judged.refused number place) h x = x
    go (Judged.accepted nodes) h x = absurd (omega arith)
