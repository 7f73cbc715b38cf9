-- What each way through the checks of a change comes to. Assumes nothing.
use Rattle.std.specs.Prelude.{ok_or}
use mathlib.Core.Path.{◌≡◌, refl, sym, ap, ◌∙◌}
use mathlib.Core.Bool.{Bool, true, false}
use mathlib.Core.List.{List, []}
use mathlib.Core.Option.{none, some}
use Prim.Native.Nat.{ℕ, ◌*◌, ◌≤◌, ◌<◌}
use native.Mathlib.Nat.{zero-add}
use native.Mathlib.Omega.{arith}
use lib.ListN.{length}
use lib.Dec.{ltb}
use borrow.Author.Tests.{le-ltb, ltb-false, le-leb, lt-leb}
use Rattle.words.specs.Equality.{equalb}
use Rattle.spec.specs.Basics.{Text, ExprId}
use Rattle.spec.specs.Module.{Module}
use Rattle.spec.specs.Scopes.{expr_at, name_at}
use Rattle.spec.specs.Answer.{reference_text}
use Rattle.spec.specs.Calls.{Call, change_reference, refusal, accepted, check, reply_of, buffer_of, Place, at_name, at_reference, text_at, or_empty, old_text, new_text, give_moved, if_reference, answer_call}
use Rattle.spec.specs.Kept.{Kept, kept_answer, kept_references, resolved_again, moved_by, changed_to, kept_with, changed, kept_moved}
use Rattle.spec.proofs.general.ListLaws.{get_d_tabulate}
use Rattle.spec.proofs.change.MovedLaws.{nothing_differs, differs_alike}
use Rattle.layout.specs.Texts.{text_in, maybe_text}
use Rattle.layout.specs.States.{exprs_of, names_of, module_in}
use Rattle.layout.specs.Keeps.{kept_in}
use Rattle.requests.specs.Requests.{own_outcome}
use Rattle.nameres.proofs.StepLaws.{exprs_many}
use Rattle.requests.proofs.StateLaws.{names_counted}
use Rattle.replies.specs.Replies.{in_bytes}
use Rattle.change.specs.Judged.{call_at, after, from_text, from_moved, Held, JudgesText, outcome_of, Judges}
use Rattle.refusals.specs.Numbers.{number_of}
use Rattle.refusals.specs.declared.refusal.Refusal.TheVariants.{MovedShort, NoSuchNumber, NotAReference}
use Rattle.replies.specs.declared.Refused.{Refused}
use Rattle.module.specs.declared.ids.TextId as rust_text_id
use Rattle.std.specs.Prelude as rust

-- ---- what a change moves
-- where its text is another, that is what the text moves at its place
module _ (k : Kept) (c : Call) (p : Place) (sets : kept_with k c ≡ changed_to k p (new_text c)) (other : equalb (old_text k.lowered c) (new_text c) ≡ false) where
  pub changed_is : changed k c ≡ changed_to k p (new_text c)
  unfolding changed
  changed_is = rw other sets

  pub moved_is : kept_moved k c ≡ moved_by k p (new_text c)
  unfolding kept_moved moved_by kept_answer changed_to
  moved_is = differs_alike k.lowered _ _ _ _ (λ e l. refl) (λ e l. ap (λ (q : Kept). kept_answer q e) changed_is ∙ again e l)
    where
      again : (e : ExprId) → e < length k.lowered.exprs → kept_answer (changed_to k p (new_text c)) e ≡ resolved_again k p (new_text c) e
      again e l = get_d_tabulate (resolved_again k p (new_text c)) none 0 k.lowered.exprs e l ∙ ap (resolved_again k p (new_text c)) (zero-add e)

-- an equal one moves nothing
pub moved_none : (k : Kept) (c : Call) → equalb (old_text k.lowered c) (new_text c) ≡ true → kept_moved k c ≡ []
unfolding kept_moved changed
moved_none k c h = rw (h, nothing_differs k.lowered (kept_answer k))

-- ---- the call that sets a text at a place
pub call_new : (p : Place) (t : Text) (bytes reply : ℕ) → new_text (call_at p t bytes reply) ≡ t
unfolding new_text
call_new (at_name x) t bytes reply = refl
call_new (at_reference e) t bytes reply = refl

pub call_old : (m : Module) (p : Place) (t : Text) (bytes reply : ℕ) → old_text m (call_at p t bytes reply) ≡ text_at m p
unfolding old_text
call_old m (at_name x) t bytes reply = refl
call_old m (at_reference e) t bytes reply = refl

call_lent : (p : Place) (t : Text) (bytes reply : ℕ) → buffer_of (call_at p t bytes reply) ≡ bytes
unfolding buffer_of
call_lent (at_name x) t bytes reply = refl
call_lent (at_reference e) t bytes reply = refl

pub call_reply : (p : Place) (t : Text) (bytes reply : ℕ) → reply_of (call_at p t bytes reply) ≡ reply
unfolding reply_of
call_reply (at_name x) t bytes reply = refl
call_reply (at_reference e) t bytes reply = refl

pub call_sets : (k : Kept) (p : Place) (t : Text) (bytes reply : ℕ) → kept_with k (call_at p t bytes reply) ≡ changed_to k p (new_text (call_at p t bytes reply))
unfolding kept_with new_text
call_sets k (at_name x) t bytes reply = refl
call_sets k (at_reference e) t bytes reply = refl

-- ---- 24
module _ (s : List ℕ) (n k : ℕ) (counted : k ≡ length (names_of s)) where
  pub no_name : k ≤ n → Held (at_name n) s (rust.Err (record { 0 = NoSuchNumber; 1 = n }))
  unfolding answer_call check after
  no_name l =
      record {
        comes = λ t bytes reply. rw (le-leb (length (kept_in s).lowered.names) n (omega (arith, l, counted, names_counted s)));
        stands = λ h q. let z : ◌≡◌ {A = ℕ} 0 1 = cc in absurd (omega arith);
      }

  pub name_held : n < k → (h : rust_text_id.TextId) → text_in s h.0 ≡ (name_at (module_in s) n).text → Held (at_name n) s (rust.Ok h)
  unfolding answer_call check after kept_in
  name_held l h held =
      record {
        comes = λ t bytes reply. rw (lt-leb (length (kept_in s).lowered.names) n (omega (arith, l, counted, names_counted s)));
        stands = λ i q. let same : h ≡ i = cc in rw (← same) (tt, sym held);
      }

-- ---- 24 and 25
module _ (s : List ℕ) (n k : ℕ) (counted : k ≡ length (exprs_of s)) where
  pub no_expr : k ≤ n → Held (at_reference n) s (rust.Err (record { 0 = NoSuchNumber; 1 = n }))
  unfolding answer_call check after
  no_expr l =
      record {
        comes = λ t bytes reply. rw (le-leb (length (kept_in s).lowered.exprs) n (omega (arith, l, counted, exprs_many s)));
        stands = λ h q. let z : ◌≡◌ {A = ℕ} 0 1 = cc in absurd (omega arith);
      }

  module _ (there : n < k) where
    is_expr : (t : Text) (bytes reply : ℕ) → own_outcome s (change_reference n t bytes reply)
        ≡ if_reference (kept_in s).lowered (kept_answer (kept_in s)) (kept_references (kept_in s)) (kept_in s).spent (kept_moved (kept_in s)) n (reference_text (expr_at (module_in s) n)) (from_text s (change_reference n t bytes reply))
    unfolding answer_call check kept_in
    is_expr t bytes reply = rw (lt-leb (length (kept_in s).lowered.exprs) n (omega (arith, there, counted, exprs_many s)))

    none_held : reference_text (expr_at (module_in s) n) ≡ none → Held (at_reference n) s (rust.Err (record { 0 = NotAReference; 1 = n }))
    unfolding if_reference after
    none_held lost =
        record {
          comes = λ t bytes reply. is_expr t bytes reply ∙ rw lost;
          stands = λ h q. let z : ◌≡◌ {A = ℕ} 0 1 = cc in absurd (omega arith);
        }

    one_held : (h : rust_text_id.TextId) → reference_text (expr_at (module_in s) n) ≡ some (text_in s h.0) → Held (at_reference n) s (rust.Ok h)
    unfolding if_reference after or_empty kept_in
    one_held h reads =
        record {
          comes = λ t bytes reply. is_expr t bytes reply ∙ rw reads;
          stands = λ i q. let same : h ≡ i = cc in rw (← same) (record { text = text_in s h.0; is = reads }, rw reads);
        }

    pub reference_held : (m : rust.Option rust_text_id.TextId) → maybe_text s m ≡ reference_text (expr_at (module_in s) n) → Held (at_reference n) s (ok_or m (record { 0 = NotAReference; 1 = n }))
    unfolding maybe_text
    reference_held rust.None says = none_held (sym says)
    reference_held (rust.Some h) says = one_held h (sym says)

-- ---- what a call that sets a text at a place comes to
refuses : (p : Place) (t : Text) (bytes : ℕ) (s : List ℕ) (x : Refused) → ((reply : ℕ) → own_outcome s (call_at p t bytes reply) ≡ refusal (number_of x.0) x.1) → Judges p t bytes s (rust.Err x)
unfolding outcome_of
refuses p t bytes s x h =
    record {
      comes = h;
      equal = λ q. let z : ◌≡◌ {A = ℕ} 0 1 = cc in absurd (omega arith);
      moves = λ n q. let z : ◌≡◌ {A = ℕ} 0 1 = cc in absurd (omega arith);
    }

module _ (p : Place) (t : Text) (bytes : ℕ) (s : List ℕ) (v : rust.Result rust_text_id.TextId Refused) (held : Held p s v) where
  pub unheld : (x : Refused) → v ≡ rust.Err x → Judges p t bytes s (rust.Err x)
  unfolding after
  unheld x q = refuses p t bytes s x (λ reply. held.comes t bytes reply ∙ ap (λ (w : rust.Result rust_text_id.TextId Refused). after w (from_text s (call_at p t bytes reply))) q)

  module _ (h : rust_text_id.TextId) (found : v ≡ rust.Ok h) (r : rust.Result Bool Refused) (judged : JudgesText s h.0 t r) where
    stands : text_at (kept_in s).lowered p ≡ text_in s h.0
    stands = (held.stands h found).1

    old : (reply : ℕ) → old_text (kept_in s).lowered (call_at p t bytes reply) ≡ text_in s h.0
    old reply = call_old (kept_in s).lowered p t bytes reply ∙ stands

    comes_to : (w : rust.Result Bool Refused) → r ≡ w → (reply : ℕ) → own_outcome s (call_at p t bytes reply) ≡ after w (from_moved s (call_at p t bytes reply))
    unfolding after
    comes_to w q reply =
        held.comes t bytes reply
        ∙ ap (λ (u : rust.Result rust_text_id.TextId Refused). after u (from_text s (call_at p t bytes reply))) found
        ∙ judged.comes (call_at p t bytes reply) (old reply) (call_new p t bytes reply)
        ∙ ap (λ (u : rust.Result Bool Refused). after u (from_moved s (call_at p t bytes reply))) q

    pub unfit : (x : Refused) → r ≡ rust.Err x → Judges p t bytes s (rust.Err x)
    unfolding after
    unfit x q = refuses p t bytes s x (comes_to (rust.Err x) q)

    pub equal_text : r ≡ rust.Ok false → Judges p t bytes s (rust.Ok rust.None)
    unfolding after give_moved check outcome_of
    equal_text q =
        record {
          comes = λ reply. comes_to (rust.Ok false) q reply ∙ rw (moved_none (kept_in s) (call_at p t bytes reply) (rw (old reply, call_new p t bytes reply) (judged.same q)), le-ltb (buffer_of (call_at p t bytes reply)) 0 (omega arith));
          equal = λ _. rw stands (judged.same q);
          moves = λ n u. let z : ◌≡◌ {A = ℕ} 0 1 = cc in absurd (omega arith);
        }

    module _ (q : r ≡ rust.Ok true) (n : ℕ) (counted : n ≡ length (moved_by (kept_in s) p t)) (room : rust.Result ℕ Refused) (fits : room ≡ in_bytes n bytes MovedShort) where
      moves_by : (reply : ℕ) → kept_moved (kept_in s) (call_at p t bytes reply) ≡ moved_by (kept_in s) p t
      moves_by reply =
          moved_is (kept_in s) (call_at p t bytes reply) p (call_sets (kept_in s) p t bytes reply) (rw (old reply, call_new p t bytes reply) (judged.other q).0)
          ∙ rw (call_new p t bytes reply)

      by_moved : (reply : ℕ) → own_outcome s (call_at p t bytes reply) ≡ check (ltb bytes (4 * n)) 34 n (accepted (moved_by (kept_in s) p t))
      unfolding after give_moved
      by_moved reply = comes_to (rust.Ok true) q reply ∙ rw (moves_by reply, call_lent p t bytes reply, counted)

      pub no_room : (x : Refused) → room ≡ rust.Err x → Judges p t bytes s (rust.Err x)
      unfolding check
      no_room x u = go (ltb bytes (4 * n)) refl
        where
          go : (b : Bool) → ltb bytes (4 * n) ≡ b → Judges p t bytes s (rust.Err x)
          go true b =
              let told : room ≡ rust.Err (record { 0 = MovedShort; 1 = n }) = fits ∙ rw b in
              let same : ◌≡◌ {A = Refused} (record { 0 = MovedShort; 1 = n }) x = cc in
              rw (← same) (refuses p t bytes s (record { 0 = MovedShort; 1 = n }) (λ reply. by_moved reply ∙ rw b))
          go false b =
              let told : room ≡ rust.Ok n = fits ∙ rw b in
              let z : ◌≡◌ {A = ℕ} 0 1 = cc in
              absurd (omega arith)

      pub other_text : (m : ℕ) → room ≡ rust.Ok m → Judges p t bytes s (rust.Ok (rust.Some m))
      unfolding check outcome_of
      other_text m u = go (ltb bytes (4 * n)) refl
        where
          go : (b : Bool) → ltb bytes (4 * n) ≡ b → Judges p t bytes s (rust.Ok (rust.Some m))
          go true b =
              let told : room ≡ rust.Err (record { 0 = MovedShort; 1 = n }) = fits ∙ rw b in
              let z : ◌≡◌ {A = ℕ} 0 1 = cc in
              absurd (omega arith)
          go false b =
              let told : room ≡ rust.Ok n = fits ∙ rw b in
              let same : n ≡ m = cc in
              rw (← same)
              (record {
                comes = λ reply. by_moved reply ∙ rw b;
                equal = λ w. let z : ◌≡◌ {A = ℕ} 0 1 = cc in absurd (omega arith);
                moves = λ i w.
                    let as_many : n ≡ i = cc in
                    rw (← as_many)
                    (record {
                      stands = (held.stands h found).0;
                      other = rw stands (judged.other q).0;
                      room = (judged.other q).1;
                      counted = counted;
                      fits = ltb-false bytes (4 * n) b;
                    });
              })
