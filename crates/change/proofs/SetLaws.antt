-- A change of a fit store, from what was judged of it and what was done. Assumes nothing.
use mathlib.Core.Path.{◌≡◌, refl, sym, ap, ◌∙◌}
use mathlib.Core.Bool.{true, false}
use mathlib.Core.List.{List, []}
use Prim.Native.Nat.{ℕ, ◌≤◌}
use native.Mathlib.Omega.{arith}
use lib.ListN.{length}
use Rattle.words.specs.Equality.{equalb}
use Rattle.words.proofs.EqualityLaws.{equalb_false}
use Rattle.spec.specs.Basics.{Text}
use Rattle.spec.specs.Calls.{fit, Call, refusal, accepted, reply_bytes, Place, at_name, at_reference, text_at, old_text, new_text, is_accepted}
use Rattle.spec.specs.Kept.{moved_by, kept_outcome, kept_after}
use Rattle.layout.specs.Rows.{set_all}
use Rattle.layout.specs.Keeps.{kept_in}
use Rattle.soundness.specs.Sound.{condition_of}
use Rattle.soundness.proofs.ConditionLaws.{fit_sound}
use Rattle.moving.specs.Places.{Counted}
use Rattle.put_text.specs.Changed.{Changeable, Changes}
use Rattle.put_text.proofs.ConditionLaws.{changed_sound}
use Rattle.replies.specs.Replies.{list_of, buffer_after, Told, ToldMoved}
use Rattle.requests.specs.Requests.{outcome_in, Leaves, Changed}
use Rattle.requests.proofs.StateLaws.{state_passed, equal_leaves, told_changed, refused_changed}
use Rattle.change.specs.Judged.{call_at, outcome_of, Settable, Judges}
use Rattle.refusals.specs.Numbers.{number_of}
use Rattle.replies.specs.declared.Refused.{Refused}
use Rattle.std.specs.Prelude as rust
use Rattle.change.proofs.JudgeLaws.{changed_is, call_new, call_old, call_reply, call_sets}

-- a text that may be set, in a buffer of so many bytes
pub changeable : (p : Place) (t : Text) (n : ℕ) (s b : List ℕ) → condition_of s ≡ fit → Settable p t (length b) n s → Changeable p t s b
changeable p t n s b fits set =
    record {
      fine = fit_sound s fits;
      room = set.room;
      other = set.other;
      fits = let counted = set.counted in let l = set.fits in omega arith;
    }

-- what is known of a place where a text may be set is what setting it takes
pub counted_settable : (p : Place) (t : Text) (bytes n : ℕ) (s : List ℕ) → Settable p t bytes n s → Counted p t n s
counted_settable (at_name x) t bytes n s set = set.counted
counted_settable (at_reference e) t bytes n s set = set.stands

module _ (place : Place) (text : Text) (s b p : List ℕ) (fits : condition_of s ≡ fit) (long : reply_bytes ≤ length p) (v : rust.Result (rust.Option ℕ) Refused) (judged : Judges place text (length b) s v) where
  abbrev this : Call
  this = call_at place text (length b) (length p)

  new : new_text this ≡ text
  new = call_new place text (length b) (length p)

  old : old_text (kept_in s).lowered this ≡ text_at (kept_in s).lowered place
  old = call_old (kept_in s).lowered place text (length b) (length p)

  comes_to : (w : rust.Result (rust.Option ℕ) Refused) → v ≡ w → outcome_in s this ≡ outcome_of w (moved_by (kept_in s) place text)
  comes_to w q = state_passed s this fits (rw (call_reply place text (length b) (length p)) long) ∙ judged.comes (length p) ∙ ap (λ (u : rust.Result (rust.Option ℕ) Refused). outcome_of u (moved_by (kept_in s) place text)) q

  pub refused : (x : Refused) → v ≡ rust.Err x → (r : ℕ) (p' : List ℕ) → Told (refusal (number_of x.0) x.1) p r p' → Changed this s b p r s b p'
  unfolding outcome_of
  refused x q r p' told = refused_changed this s b p r p' (number_of x.0) x.1 (comes_to (rust.Err x) q) told

  pub equal : v ≡ rust.Ok rust.None → (r : ℕ) (p' : List ℕ) → ToldMoved 0 p r p' → Changed this s b p r s b p'
  unfolding outcome_of buffer_after list_of set_all
  equal q r p' told = told_changed this s b p r s b p' (accepted []) (comes_to (rust.Ok rust.None) q) (told.says [] refl) refl (equal_leaves this s (rw (old, new) (judged.equal q)))

  module _ (n : ℕ) (q : v ≡ rust.Ok (rust.Some n)) (t b' : List ℕ) (does : Changes place text s b t b') where
    is_accepted_lem : kept_outcome (condition_of s) (kept_in s) this ≡ accepted (moved_by (kept_in s) place text)
    unfolding outcome_in outcome_of
    is_accepted_lem = comes_to (rust.Ok (rust.Some n)) q

    change_leaves : Leaves this s t
    unfolding outcome_in kept_after is_accepted
    change_leaves =
        let other : equalb (old_text (kept_in s).lowered this) (new_text this) ≡ false = rw (old, new) (judged.moves n q).other in
        record {
          kept = does.does ∙ sym (rw is_accepted_lem (changed_is (kept_in s) this place (call_sets (kept_in s) place text (length b) (length p)) other ∙ rw new));
          refused = λ h. let z : true ≡ false = rw is_accepted_lem at h in absurd (let w : ◌≡◌ {A = ℕ} 0 1 = cc in omega arith);
          equal = λ e. absurd (equalb_false (old_text (kept_in s).lowered this) (new_text this) other e);
          sound = changed_sound does;
          wrote = does.wrote;
        }

    pub moved : (r : ℕ) (p' : List ℕ) → ToldMoved n p r p' → Changed this s b p r t b' p'
    unfolding outcome_in buffer_after list_of
    moved r p' told =
        told_changed this s b p r t b' p' (accepted (moved_by (kept_in s) place text)) is_accepted_lem
        (told.says (moved_by (kept_in s) place text) (sym (judged.moves n q).counted)) does.list change_leaves
