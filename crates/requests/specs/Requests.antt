-- What a call that asks or changes makes of the bytes that it finds, whoever wrote them: a store as a load left it, or
-- any other (docs/RULES.md, "What a refusal leaves", "The condition of a store").
use Rattle.std.specs.Prelude.{◌≡◌, false, List, ℕ, length, ltb, eqb, Result, Ok, Err, if◌then◌else◌}
use Rattle.spec.specs.Calls.{fit, Call, Outcome, refusal, reply_bytes, answer_call, is_accepted, old_text, new_text}
use Rattle.spec.specs.Kept.{kept_answer, kept_references, kept_moved, kept_outcome, kept_after}
use Rattle.refusals.specs.Numbers as Numbers
use Rattle.refusals.specs.declared.refusal.Refusal.{Refusal}
use Rattle.layout.specs.Changes.{Wrote}
use Rattle.layout.specs.Regions.{changing}
use Rattle.layout.specs.Keeps.{kept_in}
use Rattle.soundness.specs.Sound.{condition_of}
use Rattle.soundness.specs.Verdict.{verdict, number_of}
use Rattle.replies.specs.Replies.{returned, reply_after, buffer_after}

-- what the call comes to
unfoldable pub outcome_in : List ℕ → Call → Outcome
outcome_in s c = kept_outcome (condition_of s) (kept_in s) c

-- what it comes to where nothing is wrong with store and reply: by the checks from 24 on
abbrev pub own_outcome : List ℕ → Call → Outcome
own_outcome s c = answer_call (kept_in s).lowered (kept_answer (kept_in s)) (kept_references (kept_in s)) (kept_in s).spent (kept_moved (kept_in s)) c

-- the refusal of every call, whatever it is about: 21, 22 or 23; 0 where there is none of these
unfoldable pub first_refusal : List ℕ → ℕ → ℕ
first_refusal s reply = if ltb reply reply_bytes then 21 else number_of (verdict (condition_of s))

-- the number of what a call is refused with; 0 where it goes on
unfoldable pub refused_with : Result (Unit {0}) Refusal → ℕ
refused_with (Ok _) = 0
refused_with (Err why) = Numbers.number_of why

-- The first checks of a call on the store s: r was found, and the reply p is p' now, untouched where the call goes on.
pub record Begun (s p : List ℕ) (r : ℕ) (p' : List ℕ) : Type 0 where
  pub number : r ≡ first_refusal s (length p)
  pub reply : p' ≡ (if eqb r 0 then p else reply_after (refusal r 0) p)

-- The call asked the store s: r was returned, and what the host lent, the buffer b and the reply p, is b' and p' now.
pub record Asked (c : Call) (s b p : List ℕ) (r : ℕ) (b' p' : List ℕ) : Type 0 where
  pub number : r ≡ returned (outcome_in s c)
  pub buffer : b' ≡ buffer_after (outcome_in s c) b
  pub reply : p' ≡ reply_after (outcome_in s c) p

-- What a change leaves of the store s, which is t now.
pub record Leaves (c : Call) (s t : List ℕ) : Type 0 where
  -- what is kept is what the definition says, in any store
  pub kept : kept_in t ≡ kept_after (condition_of s) (kept_in s) c
  -- "A refusal writes to neither store nor buffer", and an equal text leaves every byte as well
  pub refused : is_accepted (outcome_in s c) ≡ false → t ≡ s
  pub equal : old_text (kept_in s).lowered c ≡ new_text c → t ≡ s
  -- "A store as a load or an accepted change left it is never 22 or 23."
  pub sound : condition_of s ≡ fit → condition_of t ≡ fit
  -- of its words at most those that a change may write are others
  pub wrote : Wrote changing s t

-- The call changed the store s, which is t now: r was returned, and what the host lent, the buffer b for what moved and
-- the reply p, is b' and p' now.
pub record Changed (c : Call) (s b p : List ℕ) (r : ℕ) (t b' p' : List ℕ) : Type 0 where
  pub number : r ≡ returned (outcome_in s c)
  pub buffer : b' ≡ buffer_after (outcome_in s c) b
  pub reply : p' ≡ reply_after (outcome_in s c) p
  pub leaves : Leaves c s t
