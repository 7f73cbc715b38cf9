-- The checks that every call begins with, and what each call was from what its steps did. Assumes nothing.
use Rattle.std.specs.Prelude.{Ok, Err, if◌then◌else◌}
use mathlib.Core.Path.{◌≡◌, refl, sym, ap, ◌∙◌}
use mathlib.Core.Bool.{Bool, true, false, or-true, or-false}
use mathlib.Core.List.{List}
use Prim.Native.Nat.{ℕ, ◌≤◌, ◌<◌}
use native.Mathlib.Omega.{arith}
use lib.ListN.{length}
use lib.Dec.{ltb}
use borrow.Author.Tests.{ltb-true, ltb-false, le-ltb, lt-ltb, ne_eqb}
use Rattle.words.specs.Equality.{equalb}
use Rattle.spec.specs.Lower.{module_of}
use Rattle.spec.specs.Calls.{Condition, fit, Call, Outcome, refusal, reply_bytes, check, reply_of, answer_call, outcome, is_accepted, old_text, new_text}
use Rattle.spec.specs.Kept.{kept_answer, kept_references, changed, kept_moved, kept_outcome, kept_after}
use Rattle.layout.specs.Rows.{set_all}
use Rattle.layout.specs.States.{names_of, state_of, module_in}
use Rattle.layout.specs.Regions.{changing}
use Rattle.layout.specs.Keeps.{kept_in}
use Rattle.layout.proofs.Frames.{wrote_none}
use Rattle.refusals.specs.Numbers as Numbers
use Rattle.refusals.specs.declared.refusal.Refusal.{Refusal}
use Rattle.refusals.specs.declared.refusal.Refusal.TheVariants.{SheetTooLong, Malformed, WrongValue, WrongArity, MisplacedKid, TooDeep, NodesLeft, TextTooLong, StoreShort, StoreUnsound, NothingLoaded, NoSuchNumber, NotAReference, BufferShort, RoomSpent, WrongFlag, WrongText, WrongRange, MovedShort}
use Rattle.soundness.specs.declared.conditions.Unfit.{Unfit}
use Rattle.soundness.specs.Sound.{condition_of}
use Rattle.soundness.specs.Verdict.{verdict, refusal_of, number_of}
use Rattle.replies.specs.Replies.{returned, list_of, reply_after, buffer_after, Told}
use Rattle.replies.proofs.ReplyLaws.{reply_short}
use Rattle.requests.specs.Requests.{outcome_in, own_outcome, first_refusal, refused_with, Begun, Asked, Leaves, Changed}

-- ---- 21, 22 and 23
-- the reply is too short, whatever the store is
reply_refused : (s : List ℕ) (c : Call) → reply_of c < reply_bytes → outcome_in s c ≡ refusal 21 0
unfolding outcome_in kept_outcome outcome check
reply_refused s c h = rw (lt-ltb (reply_of c) reply_bytes h, or-true (condition_of s).short)

first_checks : (a b d : Bool) (n : ℕ) (rest : Outcome) → n ≡ number_of (verdict (record { short = a; unsound = b; unloaded = d })) → (n ≡ 0 → ⊥)
    → check a 21 0 (check b 22 0 (check d 23 0 rest)) ≡ refusal n 0
unfolding check verdict number_of refusal_of
first_checks true b d n rest h z = ap (λ (k : ℕ). refusal k 0) (sym h)
first_checks false true d n rest h z = ap (λ (k : ℕ). refusal k 0) (sym h)
first_checks false false true n rest h z = ap (λ (k : ℕ). refusal k 0) (sym h)
first_checks false false false n rest h z = absurd (z h)

-- the store is not fit
state_refused : (s : List ℕ) (c : Call) (n : ℕ) → reply_bytes ≤ reply_of c → n ≡ number_of (verdict (condition_of s)) → (n ≡ 0 → ⊥) → outcome_in s c ≡ refusal n 0
unfolding outcome_in kept_outcome outcome
state_refused s c n h e z =
    rw (le-ltb (reply_of c) reply_bytes h, or-false (condition_of s).short)
    (first_checks (condition_of s).short (condition_of s).unsound (condition_of s).unloaded n
    (answer_call (kept_in s).lowered (kept_answer (kept_in s)) (kept_references (kept_in s)) (kept_in s).spent (kept_moved (kept_in s)) c) e z)

-- nothing to refuse
all_well : (a b d : Bool) → 0 ≡ number_of (verdict (record { short = a; unsound = b; unloaded = d })) → ◌≡◌ {A = Condition} (record { short = a; unsound = b; unloaded = d }) fit
unfolding verdict number_of refusal_of
all_well true b d h = absurd (omega (arith, h))
all_well false true d h = absurd (omega (arith, h))
all_well false false true h = absurd (omega (arith, h))
all_well false false false h = refl

state_fit : (s : List ℕ) (n : ℕ) → n ≡ number_of (verdict (condition_of s)) → n ≡ 0 → condition_of s ≡ fit
state_fit s n e z = all_well (condition_of s).short (condition_of s).unsound (condition_of s).unloaded (sym z ∙ e)

-- a fit store goes on to the checks of the call itself
pub state_passed : (s : List ℕ) (c : Call) → condition_of s ≡ fit → reply_bytes ≤ reply_of c → outcome_in s c ≡ own_outcome s c
unfolding outcome_in kept_outcome outcome check
state_passed s c e h = rw (e, le-ltb (reply_of c) reply_bytes h)

-- its names, as the code counts them
pub names_counted : (s : List ℕ) → length (kept_in s).lowered.names ≡ length (names_of s)
unfolding kept_in module_in module_of state_of
names_counted s = refl

-- ---- a call that asks
pub told_asked : (c : Call) (s b p : List ℕ) (r : ℕ) (b' p' : List ℕ) (o : Outcome) → outcome_in s c ≡ o → Told o p r p' → b' ≡ buffer_after o b → Asked c s b p r b' p'
told_asked c s b p r b' p' o e t w =
    record { number = t.number ∙ ap returned (sym e); buffer = w ∙ ap (λ (x : Outcome). buffer_after x b) (sym e); reply = t.reply ∙ ap (λ (x : Outcome). reply_after x p) (sym e) }

-- a refusal leaves the buffer
pub refused_asked : (c : Call) (s b p : List ℕ) (r : ℕ) (b' p' : List ℕ) (k l : ℕ) → outcome_in s c ≡ refusal k l → Told (refusal k l) p r p' → b' ≡ b → Asked c s b p r b' p'
unfolding buffer_after list_of set_all
refused_asked c s b p r b' p' k l e t w = told_asked c s b p r b' p' (refusal k l) e t w

-- ---- a call that changes
-- a store that is left alone
module _ (c : Call) (s : List ℕ) where
  leaves_same : kept_in s ≡ kept_after (condition_of s) (kept_in s) c → Leaves c s s
  leaves_same e = record { kept = e; refused = λ _. refl; equal = λ _. refl; sound = λ h. h; wrote = wrote_none changing s }

  pub refused_leaves : is_accepted (outcome_in s c) ≡ false → Leaves c s s
  unfolding outcome_in kept_after
  refused_leaves h = leaves_same (rw h)

  pub equal_leaves : equalb (old_text (kept_in s).lowered c) (new_text c) ≡ true → Leaves c s s
  unfolding kept_after changed
  equal_leaves h = leaves_same (rw h (go (is_accepted (kept_outcome (condition_of s) (kept_in s) c))))
    where
      go : (b : Bool) → kept_in s ≡ (if b then kept_in s else kept_in s)
      go true = refl
      go false = refl

pub told_changed : (c : Call) (s b p : List ℕ) (r : ℕ) (t b' p' : List ℕ) (o : Outcome) → outcome_in s c ≡ o → Told o p r p' → b' ≡ buffer_after o b → Leaves c s t → Changed c s b p r t b' p'
told_changed c s b p r t b' p' o e x w l =
    record {
      number = x.number ∙ ap returned (sym e);
      buffer = w ∙ ap (λ (y : Outcome). buffer_after y b) (sym e);
      reply = x.reply ∙ ap (λ (y : Outcome). reply_after y p) (sym e);
      leaves = l;
    }

pub refused_changed : (c : Call) (s b p : List ℕ) (r : ℕ) (p' : List ℕ) (k l : ℕ) → outcome_in s c ≡ refusal k l → Told (refusal k l) p r p' → Changed c s b p r s b p'
unfolding is_accepted buffer_after list_of set_all
refused_changed c s b p r p' k l e t = told_changed c s b p r s b p' (refusal k l) e t refl (refused_leaves c s (ap is_accepted e))

-- no refusal has the number 0
refuses : (why : Refusal) → Numbers.number_of why ≡ 0 → ⊥
refuses why h = omega (arith, h, positive why)
  where
    positive : (why : Refusal) → 1 ≤ Numbers.number_of why
    positive SheetTooLong = omega arith
    positive Malformed = omega arith
    positive WrongValue = omega arith
    positive WrongArity = omega arith
    positive MisplacedKid = omega arith
    positive TooDeep = omega arith
    positive NodesLeft = omega arith
    positive TextTooLong = omega arith
    positive StoreShort = omega arith
    positive StoreUnsound = omega arith
    positive NothingLoaded = omega arith
    positive NoSuchNumber = omega arith
    positive NotAReference = omega arith
    positive BufferShort = omega arith
    positive RoomSpent = omega arith
    positive WrongFlag = omega arith
    positive WrongText = omega arith
    positive WrongRange = omega arith
    positive MovedShort = omega arith

-- ---- the first checks, as the code makes them
pub begun_short : (s p : List ℕ) → length p < reply_bytes → Begun s p (refused_with (Err StoreShort)) p
unfolding first_refusal refused_with
begun_short s p h = record { number = rw (lt-ltb (length p) reply_bytes h); reply = reply_short (refusal 21 0) p h }

module _ (s p : List ℕ) (long : reply_bytes ≤ length p) where
  first_is : (n : ℕ) → n ≡ number_of (verdict (condition_of s)) → n ≡ first_refusal s (length p)
  unfolding first_refusal
  first_is n says = rw (le-ltb (length p) reply_bytes long) says

  pub begun_fit : Ok tt ≡ verdict (condition_of s) → Begun s p (refused_with (Ok tt)) p
  unfolding number_of refused_with
  begun_fit fits = record { number = first_is 0 (ap number_of fits); reply = refl }

  pub begun_refused : (unfit : Unfit) → Err unfit ≡ verdict (condition_of s) → (why : Refusal) → why ≡ refusal_of unfit → (n r : ℕ) (p' : List ℕ) → n ≡ Numbers.number_of why → Told (refusal n 0) p r p' → Begun s p (refused_with (Err why)) p'
  unfolding number_of refused_with returned
  begun_refused unfit says why is n r p' told t =
      record {
        number = first_is (Numbers.number_of why) (ap Numbers.number_of is ∙ ap number_of says);
        reply = t.reply ∙ rw (ne_eqb (Numbers.number_of why) 0 (refuses why), told);
      }

-- ---- and what a call goes on from, or comes to
module _ {s p : List ℕ} {r : ℕ} {p' : List ℕ} (begun : Begun s p r p') where
  module _ (passed : r ≡ 0) where
    fits_and_long : (condition_of s ≡ fit) × (reply_bytes ≤ length p)
    unfolding first_refusal
    fits_and_long = by_length (ltb (length p) reply_bytes) refl (sym passed ∙ begun.number)
      where
        by_length : (b : Bool) → ltb (length p) reply_bytes ≡ b → 0 ≡ (if b then 21 else number_of (verdict (condition_of s))) → (condition_of s ≡ fit) × (reply_bytes ≤ length p)
        by_length true e h = absurd (omega (arith, h))
        by_length false e h = (state_fit s 0 h refl, ltb-false (length p) reply_bytes e)

    pub goes_on : p' ≡ p
    goes_on = begun.reply ∙ rw passed

    -- what the rest of a call is promised
    pub rest_fits : (condition_of s ≡ fit) × (reply_bytes ≤ length p')
    rest_fits = rw goes_on fits_and_long

  module _ (refuses : r ≡ 0 → ⊥) (c : Call) (lent : reply_of c ≡ length p) where
    refused_first : outcome_in s c ≡ refusal r 0
    unfolding first_refusal
    refused_first = by_length (ltb (length p) reply_bytes) refl begun.number
      where
        by_length : (b : Bool) → ltb (length p) reply_bytes ≡ b → r ≡ (if b then 21 else number_of (verdict (condition_of s))) → outcome_in s c ≡ refusal r 0
        by_length true e h = reply_refused s c (omega (arith, lent, ltb-true (length p) reply_bytes e)) ∙ ap (λ (k : ℕ). refusal k 0) (sym h)
        by_length false e h = state_refused s c r (omega (arith, lent, ltb-false (length p) reply_bytes e)) h refuses

    refusal_told : Told (refusal r 0) p r p'
    unfolding returned
    refusal_told = record { number = refl; reply = begun.reply ∙ rw (ne_eqb r 0 refuses) }

    pub stopped_asked : (b : List ℕ) → Asked c s b p r b p'
    stopped_asked b = refused_asked c s b p r b p' r 0 refused_first refusal_told refl

    pub stopped_changed : (b : List ℕ) → Changed c s b p r s b p'
    stopped_changed b = refused_changed c s b p r p' r 0 refused_first refusal_told

-- by what the first checks return
module _ {s p p' : List ℕ} where
  pub goes_on_fit : Begun s p (refused_with (Ok tt)) p' → (condition_of s ≡ fit) × (reply_bytes ≤ length p')
  unfolding refused_with
  goes_on_fit begun = rest_fits begun refl

  pub goes_on_same : Begun s p (refused_with (Ok tt)) p' → p' ≡ p
  unfolding refused_with
  goes_on_same begun = goes_on begun refl

  module _ (why : Refusal) (begun : Begun s p (refused_with (Err why)) p') (c : Call) (lent : reply_of c ≡ length p) (b : List ℕ) (r : ℕ) (told : r ≡ Numbers.number_of why) where
    pub refusal_asked : Asked c s b p r b p'
    unfolding refused_with
    refusal_asked = rw told (stopped_asked begun (refuses why) c lent b)

    pub refusal_changed : Changed c s b p r s b p'
    unfolding refused_with
    refusal_changed = rw told (stopped_changed begun (refuses why) c lent b)
