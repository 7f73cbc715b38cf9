-- What a change of a fit store comes to, check by check: 24, 25, 8, an equal text, 27, 34, and the text set, each a law of
-- its own. SetLaws says the same by verdicts, as the code goes. Assumes nothing.
use mathlib.Core.Path.{◌≡◌, refl, sym, ap, ◌∙◌}
use mathlib.Core.Bool.{Bool, true, false}
use mathlib.Core.List.{List, []}
use mathlib.Core.Option.{none, some}
use Prim.Native.Nat.{ℕ, ◌+◌, ◌*◌, ◌≤◌, ◌<◌}
use native.Mathlib.Omega.{arith}
use lib.ListN.{length}
use lib.Dec.{ltb}
use borrow.Author.Tests.{le-ltb, lt-ltb, ltb-false, le-leb, lt-leb}
use Rattle.words.specs.Equality.{equalb}
use Rattle.words.proofs.EqualityLaws.{equalb_false}
use Rattle.spec.specs.Basics.{Text}
use Rattle.spec.specs.Scopes.{expr_at, name_at}
use Rattle.spec.specs.Answer.{reference_text}
use Rattle.spec.specs.Calls.{fit, Call, change_reference, change_name, Outcome, refusal, accepted, reply_bytes, check, reply_of, buffer_of, Place, at_name, at_reference, text_at, or_empty, old_text, new_text, give_moved, in_room, give_text, if_reference, answer_call, is_accepted}
use Rattle.spec.specs.Kept.{kept_answer, kept_references, moved_by, changed_to, kept_with, kept_moved, kept_outcome, kept_after}
use Rattle.layout.specs.Layout.{room_limit}
use Rattle.layout.specs.Rows.{set_all}
use Rattle.layout.specs.Texts.{text_in, maybe_text}
use Rattle.layout.specs.States.{exprs_of, names_of, module_in}
use Rattle.layout.specs.Keeps.{kept_in}
use Rattle.soundness.specs.Sound.{condition_of}
use Rattle.soundness.proofs.ConditionLaws.{fit_sound}
use Rattle.moving.specs.Moving.{Refers}
use Rattle.put_text.specs.Changed.{Changeable, Changes}
use Rattle.put_text.proofs.ConditionLaws.{changed_sound}
use Rattle.replies.specs.Replies.{list_of, buffer_after, Told, ToldMoved}
use Rattle.requests.specs.Requests.{outcome_in, own_outcome, Leaves, Changed}
use Rattle.nameres.proofs.StepLaws.{exprs_many}
use Rattle.change.proofs.JudgeLaws.{changed_is, moved_is, moved_none}
use Rattle.requests.proofs.StateLaws.{state_passed, names_counted, equal_leaves, told_changed, refused_changed}
use Rattle.module.specs.declared.ids.TextId as rust_text_id
use Rattle.std.specs.Prelude as rust

-- ---- the text of a Reference
pub text_read_lem : (s : List ℕ) (n : ℕ) (m : rust.Option rust_text_id.TextId) → maybe_text s m ≡ reference_text (expr_at (module_in s) n) → (h : ℕ) → m ≡ rust.Some (record { 0 = h })
    → reference_text (expr_at (module_in s) n) ≡ some (text_in s h)
unfolding maybe_text
text_read_lem s n m says h q = sym says ∙ ap (maybe_text s) q

pub refers_to : (s : List ℕ) (n : ℕ) (m : rust.Option rust_text_id.TextId) → maybe_text s m ≡ reference_text (expr_at (module_in s) n) → (h : ℕ) → m ≡ rust.Some (record { 0 = h }) → Refers n s
refers_to s n m says h q = record { text = text_in s h; is = text_read_lem s n m says h q }

-- ---- the text of a call that names something there is
abbrev text_outcome : List ℕ → Call → Outcome
text_outcome s c = give_text (kept_in s).lowered (kept_answer (kept_in s)) (kept_references (kept_in s)) (kept_in s).spent (kept_moved (kept_in s)) c

module _ (c : Call) (s b p : List ℕ) (own : outcome_in s c ≡ text_outcome s c) where
  pub text_long : 255 < length (new_text c) → (r : ℕ) (p' : List ℕ) → Told (refusal 8 255) p r p' → Changed c s b p r s b p'
  unfolding give_text check
  text_long h r p' t = refused_changed c s b p r p' 8 255 (own ∙ rw (lt-ltb 255 (length (new_text c)) h)) t

  module _ (short : length (new_text c) ≤ 255) where
    by_length : outcome_in s c ≡ in_room (kept_in s).lowered (kept_answer (kept_in s)) (kept_references (kept_in s)) (kept_in s).spent (kept_moved (kept_in s)) c
    unfolding give_text check
    by_length = own ∙ rw (le-ltb 255 (length (new_text c)) short)

    pub text_equal : equalb (old_text (kept_in s).lowered c) (new_text c) ≡ true → (r : ℕ) (p' : List ℕ) → ToldMoved 0 p r p' → Changed c s b p r s b p'
    unfolding in_room give_moved check buffer_after list_of set_all
    text_equal h r p' t =
        told_changed c s b p r s b p' (accepted [])
        (by_length ∙ rw (h, moved_none (kept_in s) c h, le-ltb (buffer_of c) 0 (omega arith))) (t.says [] refl) refl (equal_leaves c s h)

    module _ (place : Place) (sets : kept_with (kept_in s) c ≡ changed_to (kept_in s) place (new_text c)) (other : equalb (old_text (kept_in s).lowered c) (new_text c) ≡ false)
        (full : Bool) (room : full ≡ ltb room_limit ((kept_in s).spent + length (new_text c))) where
      by_room : outcome_in s c ≡ check full 27 0 (give_moved (kept_in s).lowered (kept_answer (kept_in s)) (kept_references (kept_in s)) (kept_in s).spent (kept_moved (kept_in s)) c)
      unfolding in_room
      by_room = by_length ∙ rw (other, room)

      pub room_lacking : full ≡ true → (r : ℕ) (p' : List ℕ) → Told (refusal 27 0) p r p' → Changed c s b p r s b p'
      unfolding check
      room_lacking h r p' t = refused_changed c s b p r p' 27 0 (by_room ∙ rw h) t

      module _ (enough : full ≡ false) (lent : buffer_of c ≡ length b) (n : ℕ) (counted : n ≡ length (moved_by (kept_in s) place (new_text c))) where
        by_moved : outcome_in s c ≡ check (ltb (length b) (4 * length (moved_by (kept_in s) place (new_text c)))) 34 (length (moved_by (kept_in s) place (new_text c))) (accepted (moved_by (kept_in s) place (new_text c)))
        unfolding check give_moved
        by_moved = by_room ∙ rw (enough, moved_is (kept_in s) c place sets other, lent)

        pub moved_short : length b < 4 * n → (r : ℕ) (p' : List ℕ) → Told (refusal 34 n) p r p' → Changed c s b p r s b p'
        unfolding check
        moved_short h r p' t = refused_changed c s b p r p' 34 n (by_moved ∙ rw (lt-ltb (length b) (4 * length (moved_by (kept_in s) place (new_text c))) (omega arith), counted)) t

        module _ (fits : 4 * n ≤ length b) (t b' : List ℕ) (does : Changes place (new_text c) s b t b') where
          is_accepted_lem : outcome_in s c ≡ accepted (moved_by (kept_in s) place (new_text c))
          unfolding check
          is_accepted_lem = by_moved ∙ rw (le-ltb (length b) (4 * length (moved_by (kept_in s) place (new_text c))) (omega arith))

          change_leaves : Leaves c s t
          unfolding outcome_in kept_after is_accepted
          change_leaves =
              let yes : kept_outcome (condition_of s) (kept_in s) c ≡ accepted (moved_by (kept_in s) place (new_text c)) = is_accepted_lem in
              record {
                kept = does.does ∙ sym (rw (yes, changed_is (kept_in s) c place sets other));
                refused = λ h. let z : true ≡ false = rw yes at h in absurd (let w : ◌≡◌ {A = ℕ} 0 1 = cc in omega arith);
                equal = λ q. absurd (equalb_false (old_text (kept_in s).lowered c) (new_text c) other q);
                sound = changed_sound does;
                wrote = does.wrote;
              }

          pub text_set : (r : ℕ) (p' : List ℕ) → ToldMoved n p r p' → Changed c s b p r t b' p'
          unfolding buffer_after list_of
          text_set r p' x = told_changed c s b p r t b' p' (accepted (moved_by (kept_in s) place (new_text c))) is_accepted_lem (x.says (moved_by (kept_in s) place (new_text c)) (sym counted)) does.list change_leaves

-- ---- what the change itself asks
module _ (s b : List ℕ) (n : ℕ) (text : Text) (fits : condition_of s ≡ fit) where
  module _ (place : Place) (differs : equalb (text_at (kept_in s).lowered place) text ≡ false) (full : Bool) (room : full ≡ ltb room_limit ((kept_in s).spent + length text))
      (enough : full ≡ false) (i : ℕ) (moved : i ≡ length (moved_by (kept_in s) place text)) where
    changeable : 4 * i ≤ length b → Changeable place text s b
    changeable l =
        record {
          fine = fit_sound s fits;
          room = ltb-false room_limit ((kept_in s).spent + length text) (sym room ∙ enough);
          other = differs;
          fits = omega arith;
        }

  pub reference_changeable : (m : rust.Option rust_text_id.TextId) → maybe_text s m ≡ reference_text (expr_at (module_in s) n) → (h : ℕ) → m ≡ rust.Some (record { 0 = h })
      → (same : Bool) → same ≡ equalb (text_in s h) text → same ≡ false → (full : Bool) → full ≡ ltb room_limit ((kept_in s).spent + length text) → full ≡ false
      → (i : ℕ) → i ≡ length (moved_by (kept_in s) (at_reference n) text) → 4 * i ≤ length b → Changeable (at_reference n) text s b
  unfolding kept_in or_empty
  reference_changeable m says h q same compared other = changeable (at_reference n) (rw (text_read_lem s n m says h q, ← compared, other))

  pub name_changeable : (h : ℕ) → text_in s h ≡ (name_at (module_in s) n).text
      → (same : Bool) → same ≡ equalb (text_in s h) text → same ≡ false → (full : Bool) → full ≡ ltb room_limit ((kept_in s).spent + length text) → full ≡ false
      → (i : ℕ) → i ≡ length (moved_by (kept_in s) (at_name n) text) → 4 * i ≤ length b → Changeable (at_name n) text s b
  unfolding kept_in
  name_changeable h held same compared other = changeable (at_name n) (rw (← held, ← compared, other))

-- ---- of a Reference
module _ (s b p : List ℕ) (n : ℕ) (text : Text) (fits : condition_of s ≡ fit) (long : reply_bytes ≤ length p) (k : ℕ) (counted : k ≡ length (exprs_of s)) where
  abbrev a_reference : Call
  a_reference = change_reference n text (length b) (length p)

  own_reference : outcome_in s a_reference ≡ own_outcome s a_reference
  unfolding reply_of
  own_reference = state_passed s a_reference fits long

  pub no_expr : k ≤ n → (r : ℕ) (p' : List ℕ) → Told (refusal 24 n) p r p' → Changed a_reference s b p r s b p'
  unfolding answer_call check
  no_expr l r p' t = refused_changed a_reference s b p r p' 24 n (own_reference ∙ rw (le-leb (length (kept_in s).lowered.exprs) n (omega (arith, l, counted, exprs_many s)))) t

  module _ (there : n < k) (m : rust.Option rust_text_id.TextId) (says : maybe_text s m ≡ reference_text (expr_at (module_in s) n)) where
    from_text_lem : outcome_in s a_reference
        ≡ if_reference (kept_in s).lowered (kept_answer (kept_in s)) (kept_references (kept_in s)) (kept_in s).spent (kept_moved (kept_in s)) n (reference_text (expr_at (module_in s) n)) (text_outcome s a_reference)
    unfolding answer_call check kept_in
    from_text_lem = own_reference ∙ rw (lt-leb (length (kept_in s).lowered.exprs) n (omega (arith, there, counted, exprs_many s)))

    pub no_reference : m ≡ rust.None → (r : ℕ) (p' : List ℕ) → Told (refusal 25 n) p r p' → Changed a_reference s b p r s b p'
    unfolding if_reference maybe_text
    no_reference q r p' t =
        let lost : reference_text (expr_at (module_in s) n) ≡ none = sym says ∙ ap (maybe_text s) q in
        refused_changed a_reference s b p r p' 25 n (from_text_lem ∙ rw lost) t

    module _ (h : ℕ) (q : m ≡ rust.Some (record { 0 = h })) where
      reads : reference_text (expr_at (module_in s) n) ≡ some (text_in s h)
      reads = text_read_lem s n m says h q

      old_reference : old_text (kept_in s).lowered a_reference ≡ text_in s h
      unfolding old_text or_empty kept_in
      old_reference = rw reads

      reference_text_lem : outcome_in s a_reference ≡ text_outcome s a_reference
      unfolding if_reference
      reference_text_lem = from_text_lem ∙ rw reads

      pub reference_long : 255 < length text → (r : ℕ) (p' : List ℕ) → Told (refusal 8 255) p r p' → Changed a_reference s b p r s b p'
      unfolding new_text
      reference_long l r p' t = text_long a_reference s b p reference_text_lem l r p' t

      module _ (short : length text ≤ 255) (same : Bool) (compared : same ≡ equalb (text_in s h) text) where
        is_same : equalb (old_text (kept_in s).lowered a_reference) (new_text a_reference) ≡ same
        unfolding new_text
        is_same = rw (old_reference, compared)

        pub reference_equal : same ≡ true → (r : ℕ) (p' : List ℕ) → ToldMoved 0 p r p' → Changed a_reference s b p r s b p'
        unfolding new_text
        reference_equal e r p' t = text_equal a_reference s b p reference_text_lem short (is_same ∙ e) r p' t

        module _ (other : same ≡ false) (full : Bool) (room : full ≡ ltb room_limit ((kept_in s).spent + length text)) where
          sets_reference : kept_with (kept_in s) a_reference ≡ changed_to (kept_in s) (at_reference n) (new_text a_reference)
          unfolding kept_with new_text
          sets_reference = refl

          pub reference_full : full ≡ true → (r : ℕ) (p' : List ℕ) → Told (refusal 27 0) p r p' → Changed a_reference s b p r s b p'
          unfolding new_text
          reference_full l r p' t = room_lacking a_reference s b p reference_text_lem short (at_reference n) sets_reference (is_same ∙ other) full room l r p' t

          module _ (enough : full ≡ false) (i : ℕ) (moved : i ≡ length (moved_by (kept_in s) (at_reference n) text)) where
            pub reference_short : length b < 4 * i → (r : ℕ) (p' : List ℕ) → Told (refusal 34 i) p r p' → Changed a_reference s b p r s b p'
            unfolding new_text buffer_of
            reference_short l r p' t = moved_short a_reference s b p reference_text_lem short (at_reference n) sets_reference (is_same ∙ other) full room enough refl i moved l r p' t

            pub reference_set : 4 * i ≤ length b → (t b' : List ℕ) → Changes (at_reference n) text s b t b' → (r : ℕ) (p' : List ℕ) → ToldMoved i p r p' → Changed a_reference s b p r t b' p'
            unfolding new_text buffer_of
            reference_set l t b' does r p' x = text_set a_reference s b p reference_text_lem short (at_reference n) sets_reference (is_same ∙ other) full room enough refl i moved l t b' does r p' x

-- ---- of a name
module _ (s b p : List ℕ) (n : ℕ) (text : Text) (fits : condition_of s ≡ fit) (long : reply_bytes ≤ length p) (k : ℕ) (counted : k ≡ length (names_of s)) where
  abbrev a_name : Call
  a_name = change_name n text (length b) (length p)

  own_name : outcome_in s a_name ≡ own_outcome s a_name
  unfolding reply_of
  own_name = state_passed s a_name fits long

  pub no_name : k ≤ n → (r : ℕ) (p' : List ℕ) → Told (refusal 24 n) p r p' → Changed a_name s b p r s b p'
  unfolding answer_call check
  no_name l r p' t = refused_changed a_name s b p r p' 24 n (own_name ∙ rw (le-leb (length (kept_in s).lowered.names) n (omega (arith, l, counted, names_counted s)))) t

  module _ (there : n < k) where
    name_text_lem : outcome_in s a_name ≡ text_outcome s a_name
    unfolding answer_call check
    name_text_lem = own_name ∙ rw (lt-leb (length (kept_in s).lowered.names) n (omega (arith, there, counted, names_counted s)))

    pub name_long : 255 < length text → (r : ℕ) (p' : List ℕ) → Told (refusal 8 255) p r p' → Changed a_name s b p r s b p'
    unfolding new_text
    name_long l r p' t = text_long a_name s b p name_text_lem l r p' t

    module _ (short : length text ≤ 255) (h : ℕ) (held : text_in s h ≡ (name_at (module_in s) n).text) (same : Bool) (compared : same ≡ equalb (text_in s h) text) where
      is_equal : equalb (old_text (kept_in s).lowered a_name) (new_text a_name) ≡ same
      unfolding new_text old_text kept_in
      is_equal = rw (← held, compared)

      pub name_equal : same ≡ true → (r : ℕ) (p' : List ℕ) → ToldMoved 0 p r p' → Changed a_name s b p r s b p'
      unfolding new_text
      name_equal e r p' t = text_equal a_name s b p name_text_lem short (is_equal ∙ e) r p' t

      module _ (other : same ≡ false) (full : Bool) (room : full ≡ ltb room_limit ((kept_in s).spent + length text)) where
        sets_name : kept_with (kept_in s) a_name ≡ changed_to (kept_in s) (at_name n) (new_text a_name)
        unfolding kept_with new_text
        sets_name = refl

        pub name_full : full ≡ true → (r : ℕ) (p' : List ℕ) → Told (refusal 27 0) p r p' → Changed a_name s b p r s b p'
        unfolding new_text
        name_full l r p' t = room_lacking a_name s b p name_text_lem short (at_name n) sets_name (is_equal ∙ other) full room l r p' t

        module _ (enough : full ≡ false) (i : ℕ) (moved : i ≡ length (moved_by (kept_in s) (at_name n) text)) where
          pub name_short : length b < 4 * i → (r : ℕ) (p' : List ℕ) → Told (refusal 34 i) p r p' → Changed a_name s b p r s b p'
          unfolding new_text buffer_of
          name_short l r p' t = moved_short a_name s b p name_text_lem short (at_name n) sets_name (is_equal ∙ other) full room enough refl i moved l r p' t

          pub name_set : 4 * i ≤ length b → (t b' : List ℕ) → Changes (at_name n) text s b t b' → (r : ℕ) (p' : List ℕ) → ToldMoved i p r p' → Changed a_name s b p r t b' p'
          unfolding new_text buffer_of
          name_set l t b' does r p' x = text_set a_name s b p name_text_lem short (at_name n) sets_name (is_equal ∙ other) full room enough refl i moved l t b' does r p' x
