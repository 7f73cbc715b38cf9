-- What a change comes to, found by reading alone: a refusal, a text that is there already, or how many answers it moves.
use Rattle.std.specs.Prelude.{◌≡◌, Bool, true, false, List, [], ℕ, ◌+◌, ◌*◌, ◌≤◌, length, Option, Some, None, Result, Ok, Err}
use Rattle.words.specs.Equality.{equalb}
use Rattle.spec.specs.Basics.{Text, ExprId}
use Rattle.spec.specs.Calls.{Call, change_reference, change_name, Outcome, refusal, accepted, Place, at_name, at_reference, text_at, old_text, new_text, give_moved, give_text}
use Rattle.spec.specs.Kept.{kept_answer, kept_references, kept_moved, moved_by}
use Rattle.layout.specs.Layout.{room_limit}
use Rattle.layout.specs.Texts.{text_in}
use Rattle.layout.specs.Keeps.{kept_in}
use Rattle.requests.specs.Requests.{own_outcome}
use Rattle.refusals.specs.Numbers.{number_of}
use Rattle.module.specs.declared.ids.TextId.{TextId}
use Rattle.moving.specs.Places.{Stands}
use Rattle.replies.specs.declared.Refused.{Refused}

-- the call that sets the text t at a place
abbrev pub call_at : Place → Text → ℕ → ℕ → Call
call_at (at_name x) t bytes reply = change_name x t bytes reply
call_at (at_reference e) t bytes reply = change_reference e t bytes reply

-- what a call comes to that is refused, or goes on
unfoldable pub after : {A : Type 0} → Result A Refused → Outcome → Outcome
after (Err refused) rest = refusal (number_of refused.0) refused.1
after (Ok a) rest = rest

-- what it comes to from 8 on, and from 34 on
abbrev pub from_text : List ℕ → Call → Outcome
from_text s c = give_text (kept_in s).lowered (kept_answer (kept_in s)) (kept_references (kept_in s)) (kept_in s).spent (kept_moved (kept_in s)) c

abbrev pub from_moved : List ℕ → Call → Outcome
from_moved s c = give_moved (kept_in s).lowered (kept_answer (kept_in s)) (kept_references (kept_in s)) (kept_in s).spent (kept_moved (kept_in s)) c

-- ---- the text that stands there, by 24 and 25
-- of every call that sets a text at the place p of a fit store
pub record Held (p : Place) (s : List ℕ) (r : Result TextId Refused) : Type 0 where
  pub comes : (t : Text) (bytes reply : ℕ) → own_outcome s (call_at p t bytes reply) ≡ after r (from_text s (call_at p t bytes reply))
  pub stands : (h : TextId) → r ≡ Ok h → Stands p s × (text_at (kept_in s).lowered p ≡ text_in s h.0)

-- ---- the text itself, by 8 and 27
-- of the text t where the text numbered h stands: every call that sets it there is refused so, or goes on
pub record JudgesText (s : List ℕ) (h : ℕ) (t : Text) (r : Result Bool Refused) : Type 0 where
  pub comes : (c : Call) → old_text (kept_in s).lowered c ≡ text_in s h → new_text c ≡ t → from_text s c ≡ after r (from_moved s c)
  pub same : r ≡ Ok false → equalb (text_in s h) t ≡ true
  pub other : r ≡ Ok true → (equalb (text_in s h) t ≡ false) × ((kept_in s).spent + length t ≤ room_limit)

-- ---- the whole change
-- where `es` is what it moves
unfoldable pub outcome_of : Result (Option ℕ) Refused → List ExprId → Outcome
outcome_of (Err refused) es = refusal (number_of refused.0) refused.1
outcome_of (Ok None) es = accepted []
outcome_of (Ok (Some n)) es = accepted es

-- a text that may be set: it is another than the one there, the change room has as much left, and what it moves, n
-- answers, fits so many bytes
pub record Settable (p : Place) (t : Text) (bytes n : ℕ) (s : List ℕ) : Type 0 where
  pub stands : Stands p s
  pub other : equalb (text_at (kept_in s).lowered p) t ≡ false
  pub room : (kept_in s).spent + length t ≤ room_limit
  pub counted : n ≡ length (moved_by (kept_in s) p t)
  pub fits : 4 * n ≤ bytes

-- The call that sets the text t at the place p of a fit store has a reply of any length that is enough, and lends so
-- many bytes for what that moves.
pub record Judges (p : Place) (t : Text) (bytes : ℕ) (s : List ℕ) (v : Result (Option ℕ) Refused) : Type 0 where
  pub comes : (reply : ℕ) → own_outcome s (call_at p t bytes reply) ≡ outcome_of v (moved_by (kept_in s) p t)
  pub equal : v ≡ Ok None → equalb (text_at (kept_in s).lowered p) t ≡ true
  pub moves : (n : ℕ) → v ≡ Ok (Some n) → Settable p t bytes n s
