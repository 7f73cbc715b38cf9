-- What an asking of a fit store comes to, and its list in the buffer, before anything is told.
use Rattle.std.specs.Prelude.{◌≡◌, List, ℕ, length, Result, Ok, Err}
use Rattle.spec.specs.Calls.{Call, ask_reference, ask_name, Outcome, refusal, answered, listed}
use Rattle.spec.specs.Kept.{kept_references}
use Rattle.layout.specs.Keeps.{scopes_in, kept_in}
use Rattle.answer.specs.declared.answer.Answer.{Answer}
use Rattle.answer.specs.Answers.{answer_with}
use Rattle.kept.specs.Answers.{withs_at}
use Rattle.refusals.specs.Numbers.{number_of}
use Rattle.replies.specs.declared.Refused.{Refused}
use Rattle.replies.specs.Replies.{list_of, buffer_after}
use Rattle.requests.specs.Requests.{own_outcome}

-- a refusal, or what is made of what was found
unfoldable pub found : {A : Type 0} → Result A Refused → (A → Outcome) → Outcome
found (Err refused) makes = refusal (number_of refused.0) refused.1
found (Ok a) makes = makes a

-- Whatever length its reply has, the call c asks the fit store s; r was found, with a list of `count`, and the buffer b
-- is b' now, which has the list.
pub record Finds {A : Type 0} (c : ℕ → Call) (makes : A → Outcome) (count : A → ℕ) (s b : List ℕ) (r : Result A Refused) (b' : List ℕ) : Type 0 where
  pub comes : (reply : ℕ) → own_outcome s (c reply) ≡ found r makes
  pub buffer : b' ≡ buffer_after (found r makes) b
  pub counted : (a : A) → r ≡ Ok a → length (list_of (makes a)) ≡ count a

-- the answer of a Reference, and how many Withs it has
abbrev pub FindsAnswer : ℕ → List ℕ → List ℕ → Result (Answer × ℕ) Refused → List ℕ → Type 0
FindsAnswer n s b r b' = Finds (ask_reference n (length b)) (λ a. answered (answer_with a.0 (withs_at (scopes_in s) n))) (λ a. a.1) s b r b'

-- how many references a name has
abbrev pub FindsReferences : ℕ → List ℕ → List ℕ → Result ℕ Refused → List ℕ → Type 0
FindsReferences n s b r b' = Finds (ask_name n (length b)) (λ count. listed (kept_references (kept_in s) n)) (λ count. count) s b r b'
