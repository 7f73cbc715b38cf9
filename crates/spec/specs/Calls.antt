-- docs/RULES.md, "Refused because of the state", and 8 ("A text refused"): asking about a Reference or a name, changing
-- the text of either, and what each call comes to.
use Rattle.std.specs.Prelude.{Bool, true, false, ◌||◌, ◌&&◌, not, List, [], ◌∷◌, ℕ, ◌+◌, ◌*◌, length, set, ltb, leb, if◌then◌else◌}
use Rattle.std.proofs.Math.Option.{Option, none, some}
use Rattle.words.specs.Equality.{equalb}
use Rattle.spec.specs.Basics.{Text, ExprId, NameId}
use Rattle.spec.specs.Module.{reference, Module}
use Rattle.spec.specs.Sheet.{Judged}
use Rattle.spec.specs.Tree.{judge}
use Rattle.spec.specs.Scopes.{made_at, expr_at, name_at}
use Rattle.spec.specs.Answer.{Answer, unresolved, definition, builtin, withs, reference_text}

-- A call: its number; the text of a change; the length of its buffer in bytes, which a change fills with what it moved;
-- then the length of the host's reply in bytes.
pub data Call : Type 0 where
  ask_reference : ℕ → ℕ → ℕ → Call
  ask_name : ℕ → ℕ → ℕ → Call
  change_reference : ℕ → Text → ℕ → ℕ → Call
  change_name : ℕ → Text → ℕ → ℕ → Call

-- What a call comes to: a refusal, its number and place; the answer of a Reference, whose list is that of its Withs;
-- the kept references of a name; or that the text is set, and the References whose answer is another then.
pub data Outcome : Type 0 where
  refusal : ℕ → ℕ → Outcome
  answered : Answer → Outcome
  listed : List ExprId → Outcome
  accepted : List ExprId → Outcome

-- docs/STORE.md: five words
abbrev pub reply_bytes : ℕ
reply_bytes = 20

-- How a call finds the store: shorter than docs/STORE.md names (21), unsound (22), with nothing loaded (23).
pub record Condition : Type 0 where
  pub short : Bool
  pub unsound : Bool
  pub unloaded : Bool

-- as a load or an accepted change leaves it
abbrev pub fit : Condition
fit = record { short = false; unsound = false; unloaded = false }

-- "Loading checks 21, then 1–7": the nodes, or a refusal; with the length of the reply and the sheet
unfoldable pub loading : Condition → ℕ → List ℕ → Judged
loading store reply s = if store.short || ltb reply reply_bytes then Judged.refused 21 0 else judge s

-- the list that goes into the buffer
unfoldable pub with_list : Answer → List ExprId
with_list unresolved = []
with_list (definition x) = []
with_list (builtin i) = []
with_list (withs es) = es

-- ---- changes of texts: "A change sets one text and nothing else in the module"
unfoldable pub set_name : NameId → Text → Module → Module
set_name x t m =
    record {
      entry = m.entry;
      exprs = m.exprs;
      names = set m.names x (record { text = t; kind = (name_at m x).kind; pointer = (name_at m x).pointer });
      diagnostics = m.diagnostics;
      lost = m.lost;
    }

unfoldable pub set_reference : ExprId → Text → Module → Module
set_reference e t m =
    record {
      entry = m.entry;
      exprs = set m.exprs e (record { expr = reference t; pointer = (made_at m e).pointer });
      names = m.names;
      diagnostics = m.diagnostics;
      lost = m.lost;
    }

-- What has a text that may change. A change is a text and the places that it sets to it; each of the two changes here
-- sets one.
pub data Place : Type 0 where
  at_name : NameId → Place
  at_reference : ExprId → Place

unfoldable pub or_empty : Option Text → Text
or_empty none = []
or_empty (some t) = t

-- what a place reads
abbrev pub text_at : Module → Place → Text
text_at m (at_name x) = (name_at m x).text
text_at m (at_reference e) = or_empty (reference_text (expr_at m e))

-- one place set to a text, or one after another
abbrev pub set_place : Text → Place → Module → Module
set_place t (at_name x) m = set_name x t m
set_place t (at_reference e) m = set_reference e t m

abbrev pub set_places : Text → List Place → Module → Module
set_places t [] m = m
set_places t (p ∷ ps) m = set_places t ps (set_place t p m)

-- the change room (document 01's term; docs/RULES.md, "The change room") that is then spent: each place whose text was
-- another costs the length of the new one
abbrev pub spent_at : Module → Text → ℕ → List Place → ℕ
spent_at m t spent [] = spent
spent_at m t spent (p ∷ ps) = spent_at m t (if equalb (text_at m p) t then spent else spent + length t) ps

-- ---- what a call sets
abbrev pub places_of : Call → List Place
places_of (ask_reference n buffer reply) = []
places_of (ask_name n buffer reply) = []
places_of (change_reference n t buffer reply) = at_reference n ∷ []
places_of (change_name n t buffer reply) = at_name n ∷ []

-- the text that a change sets, and what it was
unfoldable pub new_text : Call → Text
new_text (ask_reference n buffer reply) = []
new_text (ask_name n buffer reply) = []
new_text (change_reference n t buffer reply) = t
new_text (change_name n t buffer reply) = t

unfoldable pub old_text : Module → Call → Text
old_text m (ask_reference n buffer reply) = []
old_text m (ask_name n buffer reply) = []
old_text m (change_reference n t buffer reply) = text_at m (at_reference n)
old_text m (change_name n t buffer reply) = text_at m (at_name n)

unfoldable pub with_text : Module → Call → Module
with_text m c = set_places (new_text c) (places_of c) m

-- "lengths of all accepted changes since the load whose text differed from the old"
unfoldable pub spent_by : Module → ℕ → Call → ℕ
spent_by m spent c = spent_at m (new_text c) spent (places_of c)

-- ---- the checks: "Other calls check 21 to 25, then 8, then 26 or 27", and a change 34 after it.
unfoldable pub check : Bool → ℕ → ℕ → Outcome → Outcome
check true number place rest = refusal number place
check false number place rest = rest

unfoldable pub reply_of : Call → ℕ
reply_of (ask_reference n buffer reply) = reply
reply_of (ask_name n buffer reply) = reply
reply_of (change_reference n t buffer reply) = reply
reply_of (change_name n t buffer reply) = reply

unfoldable pub buffer_of : Call → ℕ
buffer_of (ask_reference n buffer reply) = buffer
buffer_of (ask_name n buffer reply) = buffer
buffer_of (change_reference n t buffer reply) = buffer
buffer_of (change_name n t buffer reply) = buffer

-- The module, what a Reference is answered, what a name's references are, the room spent, and which References a change
-- moves: kept by a store, or worked out afresh by the book.
module _ (m : Module) (answer_of : ExprId → Option Answer) (references_of : NameId → List ExprId) (spent : ℕ) (moved_by : Call → List ExprId) where
  -- 26: the list has to fit the buffer
  unfoldable pub in_buffer : ℕ → List ExprId → Outcome → Outcome
  in_buffer buffer es = check (ltb buffer (4 * length es)) 26 (length es)

  unfoldable pub give_answer : ℕ → ℕ → Option Answer → Outcome
  give_answer n buffer none = refusal 25 n
  give_answer n buffer (some a) = in_buffer buffer (with_list a) (answered a)

  -- 34: what moved has to fit its buffer
  unfoldable pub give_moved : Call → Outcome
  give_moved c = check (ltb (buffer_of c) (4 * length (moved_by c))) 34 (length (moved_by c)) (accepted (moved_by c))

  -- 27: "never for an equal text"
  unfoldable pub in_room : Call → Outcome
  in_room c = check (not (equalb (old_text m c) (new_text c)) && ltb 8192 (spent + length (new_text c))) 27 0 (give_moved c)

  -- 8, which comes before the comparison with the old text
  unfoldable pub give_text : Call → Outcome
  give_text c = check (ltb 255 (length (new_text c))) 8 255 (in_room c)

  unfoldable pub if_reference : ℕ → Option Text → Outcome → Outcome
  if_reference n none rest = refusal 25 n
  if_reference n (some t) rest = rest

  -- 24: the number is that of an expression, or of a name
  unfoldable pub answer_call : Call → Outcome
  answer_call (ask_reference n buffer reply) = check (leb (length m.exprs) n) 24 n (give_answer n buffer (answer_of n))
  answer_call (ask_name n buffer reply) = check (leb (length m.names) n) 24 n (in_buffer buffer (references_of n) (listed (references_of n)))
  answer_call (change_reference n t buffer reply) =
      check (leb (length m.exprs) n) 24 n (if_reference n (reference_text (expr_at m n)) (give_text (change_reference n t buffer reply)))
  answer_call (change_name n t buffer reply) = check (leb (length m.names) n) 24 n (give_text (change_name n t buffer reply))

  unfoldable pub outcome : Condition → Call → Outcome
  outcome store c =
      check (store.short || ltb (reply_of c) reply_bytes) 21 0
      (check store.unsound 22 0
      (check store.unloaded 23 0
      (answer_call c)))

-- whether the outcome of a change is that the text is set
unfoldable pub is_accepted : Outcome → Bool
is_accepted (refusal number place) = false
is_accepted (answered a) = false
is_accepted (listed es) = false
is_accepted (accepted es) = true

-- the References that a call moved, as it tells them
unfoldable pub moved_of : Outcome → List ExprId
moved_of (refusal number place) = []
moved_of (answered a) = []
moved_of (listed es) = []
moved_of (accepted es) = es
