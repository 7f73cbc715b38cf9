-- What a host is told of a call: the number returned, the five words of the reply, and the list in the buffer
-- (docs/STORE.md, "Reply and buffer").
use Rattle.std.specs.Prelude.{◌≡◌, List, [], ◌∷◌, ℕ, ◌*◌, length, ltb, Result, Ok, Err, if◌then◌else◌}
use Rattle.spec.specs.Basics.{ExprId}
use Rattle.spec.specs.Sheet.{Judged}
use Rattle.spec.specs.Calls.{Outcome, refusal, answered, listed, accepted, reply_bytes, with_list}
use Rattle.layout.specs.Rows.{set_all}
use Rattle.answer.specs.declared.answer.Answer.{Answer}
use Rattle.answer.specs.Answers.{answer_with}
use Rattle.answer.specs.Told.{number_of, value_of}
use Rattle.refusals.specs.declared.refusal.Refusal.{Refusal}
use Rattle.refusals.specs.declared.refusal.Refusal.TheVariants.{NoSuchNumber}
use Rattle.replies.specs.declared.Refused.{Refused}

-- "0 for none"
unfoldable pub returned : Outcome → ℕ
returned (refusal number place) = number
returned (answered a) = 0
returned (listed es) = 0
returned (accepted es) = 0

-- the list that goes into the buffer: the Withs of an answer, the references of a name, or what a change moved
unfoldable pub list_of : Outcome → List ExprId
list_of (refusal number place) = []
list_of (answered a) = with_list a
list_of (listed es) = es
list_of (accepted es) = es

-- refusal, place, answer, its name or index, the length of the list: "What a call has none of is 0."
unfoldable pub reply_words : Outcome → List ℕ
reply_words (refusal number place) = number ∷ place ∷ 0 ∷ 0 ∷ 0 ∷ []
reply_words (answered a) = 0 ∷ 0 ∷ number_of a ∷ value_of a ∷ length (with_list a) ∷ []
reply_words (listed es) = 0 ∷ 0 ∷ 0 ∷ 0 ∷ length es ∷ []
reply_words (accepted es) = 0 ∷ 0 ∷ 0 ∷ 0 ∷ length es ∷ []

-- the host's reply after the call: "one that is shorter is not written", and past its five words it is as it was
unfoldable pub reply_after : Outcome → List ℕ → List ℕ
reply_after o reply = if ltb (length reply) reply_bytes then reply else set_all reply 0 (reply_words o)

-- the host's buffer after the call: "the buffer past it is not written"
unfoldable pub buffer_after : Outcome → List ℕ → List ℕ
buffer_after o buffer = set_all buffer 0 (list_of o)

-- so many numbers, where they fit so many bytes; else the call is refused, and the place is how many there are
abbrev pub in_bytes : ℕ → ℕ → Refusal → Result ℕ Refused
in_bytes n bytes why = if ltb bytes (4 * n) then Err (record { 0 = why; 1 = n }) else Ok n

-- a number below how many there are; else the call is refused with 24, and the place is the number
abbrev pub in_count : ℕ → ℕ → Result (Unit {0}) Refused
in_count number count = if ltb number count then Ok tt else Err (record { 0 = NoSuchNumber; 1 = number })

-- what a load comes to
unfoldable pub load_outcome : Judged → Outcome
load_outcome (Judged.refused number place) = refusal number place
load_outcome (Judged.accepted nodes) = accepted []

-- The outcome o was told: r was returned, and the reply p is q now.
pub record Told (o : Outcome) (p : List ℕ) (r : ℕ) (q : List ℕ) : Type 0 where
  pub number : r ≡ returned o
  pub reply : q ≡ reply_after o p

-- that a call is accepted, and how many References it moved
pub record ToldMoved (n : ℕ) (p : List ℕ) (r : ℕ) (q : List ℕ) : Type 0 where
  pub says : (es : List ExprId) → length es ≡ n → Told (accepted es) p r q

-- of a list of which only the length is known
pub record ToldList (n : ℕ) (p : List ℕ) (r : ℕ) (q : List ℕ) : Type 0 where
  pub says : (es : List ExprId) → length es ≡ n → Told (listed es) p r q

-- of an answer of the code, whose Withs are in the buffer
pub record ToldAnswer (a : Answer) (n : ℕ) (p : List ℕ) (r : ℕ) (q : List ℕ) : Type 0 where
  pub says : (es : List ExprId) → length (with_list (answer_with a es)) ≡ n → Told (answered (answer_with a es)) p r q
