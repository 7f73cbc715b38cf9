-- One text changed: what is kept after it. Assumes nothing.
use mathlib.Core.Path.{◌≡◌, refl, sym, ap, ◌∙◌}
use mathlib.Core.Logic.{◌⊎◌, inl, inr, ⊎_elim}
use mathlib.Core.Bool.{true}
use mathlib.Core.List.{List, [], ◌∷◌}
use Prim.Native.Nat.{ℕ, ◌+◌, ◌*◌, ◌≤◌, ◌<◌}
use native.Mathlib.Omega.{arith}
use lib.ListN.{length}
use Rattle.words.specs.Words.{word}
use Rattle.spec.specs.Basics.{Text}
use Rattle.spec.specs.Answer.{scope_at}
use Rattle.spec.specs.Calls.{Place, at_name, at_reference, set_name, set_reference, set_place}
use Rattle.spec.specs.Kept.{Kept, changed_to}
use Rattle.layout.specs.Layout.{expr_limit, name_limit, text_limit, room_limit, expr_count, name_count, spent_place, texts_place, exprs_at, expr_pointers_at, names_at, name_pointers_at, uses_at}
use Rattle.layout.specs.Changes.{Range, Outside, Wrote}
use Rattle.layout.specs.Regions.{resolving, spending, changing}
use Rattle.layout.specs.Texts.{text_in}
use Rattle.layout.specs.States.{module_in}
use Rattle.layout.specs.Keeps.{scopes_in, kept_in}
use Rattle.layout.proofs.Frames.{number_kept, wrote_none}
use Rattle.texts.specs.Fits.{text_fits}
use Rattle.texts.specs.Adds.{texting, taken, Texted}
use Rattle.soundness.specs.Sound.{kept_fits, sound}
use Rattle.soundness.specs.Coded.{ModuleFits, ScopesFit}
use Rattle.soundness.proofs.CodedLaws.{sound_parts, sound_module, sound_scopes, sound_kept, sound_room, sound_texts}
use Rattle.soundness.proofs.FrameLaws.{module_fits_kept, scopes_fit_apart, kept_each, kept_fits_kept}
use Rattle.store.specs.TextChanges.{Renamed, set_if_reference, where_text, Reworded}
use Rattle.kept.specs.Answers.{AnswerFits}
use Rattle.kept.specs.TextChanges.{with_module, Spent}
use Rattle.kept.proofs.TextFrames.{texted_kept}
use Rattle.kept.proofs.SoundChanges.{texted_module}
use Rattle.nameres.specs.Resolution.{Nameable, Scoped}
use Rattle.nameres.proofs.SoundNames.{kind_wider, kind_at}
use Rattle.nameres.proofs.ResolveLaws.{resolving_scopes}
use Rattle.nameres.proofs.StepLaws.{module_kept}
use Rattle.moving.specs.Moving.{Refers, Movable, all_moved, moved, Moves}
use Rattle.moving.specs.Places.{Counted}
use Rattle.put_text.specs.Changed.{SetsText, Spends, Changeable, Changes}
use Rattle.put_text.proofs.RowChanges.{renamed_wrote, renamed_kept, renamed_module, reworded_wrote, reworded_kept, reworded_module}

-- ---- the scopes of a sound store, as moving takes them
sound_scoped : (s : List ℕ) → sound s ≡ true → Scoped s
sound_scoped s h = let m = sound_module s h in record { fits = sound_scopes s h; few_exprs = m.few_exprs; few_names = m.few_names }

-- every name and every With in them is one that there can be
scoped_named : (s : List ℕ) (h : Scoped s) → Nameable (scopes_in s)
scoped_named s h = record { kinds = λ i. kind_wider (word s name_count) name_limit (word s expr_count) expr_limit (scope_at (scopes_in s).scopes i).kind h.few_names h.few_exprs (kind_at s h i) }

-- ---- what a text takes
-- it is there as long as the change room holds it
fits : (s : List ℕ) (bytes : Text) → sound s ≡ true → (kept_in s).spent + length bytes ≤ room_limit → word s texts_place + taken bytes ≤ text_limit
unfolding kept_in taken
fits s [] h l = omega (arith, sound_texts s h, sound_room s h)
fits s (b ∷ bs) h l = omega (arith, sound_texts s h)

-- ranges that lie in others
record Inside (rs qs : List Range) : Type 0 where
  out : (j : ℕ) → Outside j qs → Outside j rs

abbrev naming : List Range
naming = (names_at, name_pointers_at) ∷ []

abbrev wording : List Range
wording = (exprs_at, expr_pointers_at) ∷ []

texts_inside : Inside texting changing
unfolding Outside texting changing
texts_inside = record { out = λ j o. (⊎_elim (λ z. inl (omega arith)) (λ z. inr (omega arith)) o.0, (o.1.1.1.1.1.0, tt)) }

spent_inside : Inside spending changing
unfolding Outside changing
spent_inside = record { out = λ j o. (⊎_elim (λ z. inl z) (λ z. inr (omega arith)) (⊎_elim (λ z. inl (omega arith)) (λ z. inr z) o.0), tt) }

names_inside : Inside naming changing
unfolding Outside changing
names_inside = record { out = λ j o. (o.1.1.0, tt) }

words_inside : Inside wording changing
unfolding Outside changing
words_inside = record { out = λ j o. (o.1.0, tt) }

again_inside : Inside resolving changing
unfolding Outside changing
again_inside = record { out = λ j o. (o.1.1.1.0, (o.1.1.1.1.0, tt)) }

-- four writes one after the other
four_wrote : {a b c d qs : List Range} {s0 s1 s2 s3 s4 : List ℕ} → Inside a qs → Wrote a s0 s1 → Inside b qs → Wrote b s1 s2 → Inside c qs → Wrote c s2 s3 → Inside d qs → Wrote d s3 s4 → Wrote qs s0 s4
four_wrote i w i2 w2 i3 w3 i4 w4 =
    record {
      size = w4.size ∙ w3.size ∙ w2.size ∙ w.size;
      other = λ j o. w4.other j (i4.out j o) ∙ w3.other j (i3.out j o) ∙ w2.other j (i2.out j o) ∙ w.other j (i.out j o);
    }

-- what a text takes is at most five times its length
taken_low : (bytes : Text) → taken bytes ≤ 5 * length bytes
unfolding taken
taken_low [] = omega arith
taken_low (b ∷ bs) = omega arith

-- ---- what it moves is moved
pub may_move_lem : (p : Place) (bytes : Text) (s b : List ℕ) → Changeable p bytes s b → Movable p bytes s b
may_move_lem p bytes s b may = record { named = scoped_named s (sound_scoped s may.fine); room = may.fits }

module _ (p : Place) (bytes : Text) (s b t c : List ℕ) (h : sound s ≡ true) (m : Moves p bytes s b t c) where
  spent_still : word t spent_place ≡ word s spent_place
  spent_still = number_kept m.wrote 24 refl

  texts_still : word t texts_place ≡ word s texts_place
  texts_still = number_kept m.wrote 28 refl

  moved_sound : sound t ≡ true
  unfolding AnswerFits
  moved_sound =
      sound_parts t (module_fits_kept m.wrote m.still refl refl refl (sound_module s h))
      (resolving_scopes s t m.wrote m.placed (sound_scoped s h))
      (omega (arith, spent_still, sound_room s h))
      (omega (arith, spent_still, texts_still, sound_texts s h))
      (m.fits (sound_scoped s h) (sound_kept s h) (kept_each s (sound_kept s h)).answers)

  moved_module : module_in t ≡ module_in s
  unfolding moved
  moved_module = sym (module_kept t) ∙ ap (λ (k : Kept). k.lowered) m.does ∙ module_kept s

-- ---- the text is added, a row gets its number, and the room is spent
module _ (s1 s2 s3 s4 : List ℕ) (bytes : Text) (k : ℕ) (h : sound s1 ≡ true) (room : (kept_in s1).spent + length bytes ≤ room_limit)
    (added : Texted bytes s1 k s2) (put : Wrote ((exprs_at, uses_at) ∷ []) s2 s3) (row : text_fits s2 k ≡ true → ModuleFits s2 → ModuleFits s3)
    (spends : Spends (length bytes) s3 s4) where
  module_second : ModuleFits s2
  module_second = texted_module bytes s1 k s2 added (sound_module s1 h)

  module_third : ModuleFits s3
  module_third = row (added.is (fits s1 bytes h room)).1 module_second

  module_fourth : ModuleFits s4
  module_fourth = module_fits_kept spends.wrote spends.still refl refl refl module_third

  scopes_fourth : ScopesFit s4
  unfolding texting
  scopes_fourth =
      scopes_fit_apart spends.wrote refl refl refl module_third.few_exprs
      (scopes_fit_apart put refl refl refl module_second.few_exprs
      (scopes_fit_apart added.wrote refl refl refl (sound_module s1 h).few_exprs (sound_scopes s1 h)))

  kept_fourth : kept_fits s4 ≡ true
  unfolding texting
  kept_fourth =
      let m = sound_module s1 h in
      kept_fits_kept spends.wrote refl refl refl refl module_third.few_exprs module_third.few_names
      (kept_fits_kept put refl refl refl refl module_second.few_exprs module_second.few_names
      (kept_fits_kept added.wrote refl refl refl refl m.few_exprs m.few_names (sound_kept s1 h)))

  spent_third : (kept_in s3).spent ≡ (kept_in s1).spent
  unfolding kept_in texting
  spent_third = number_kept put 24 refl ∙ number_kept added.wrote 24 refl

  room_then : word s1 spent_place + length bytes ≤ room_limit
  unfolding kept_in
  room_then = room

  spent_fourth : word s4 spent_place ≡ word s1 spent_place + length bytes
  unfolding kept_in
  spent_fourth = ap (λ (q : Kept). q.spent) (spends.does (rw spent_third room)) ∙ rw spent_third

  texts_fourth : word s4 texts_place ≡ word s1 texts_place + taken bytes
  texts_fourth = number_kept spends.wrote 28 refl ∙ number_kept put 28 refl ∙ added.used (fits s1 bytes h room)

  -- THEOREM. A change of a sound store whose room holds the text leaves a sound store.
  pub changed_sound : sound s4 ≡ true
  changed_sound =
      sound_parts s4 module_fourth scopes_fourth
      (omega (arith, spent_fourth, room_then))
      (omega (arith, spent_fourth, texts_fourth, taken_low bytes, sound_texts s1 h))
      kept_fourth

-- ---- all of it
module _ (p : Place) (bytes : Text) (s0 b s1 c s2 s3 s4 : List ℕ) (k : ℕ) (may : Changeable p bytes s0 b) (moves : Moves p bytes s0 b s1 c)
    (added : Texted bytes s1 k s2) (put : Wrote ((exprs_at, uses_at) ∷ []) s2 s3) (row_fits_lem : text_fits s2 k ≡ true → ModuleFits s2 → ModuleFits s3)
    (row : text_in s2 k ≡ bytes → kept_in s2 ≡ kept_in s1 → kept_in s3 ≡ with_module (set_place bytes p (module_in s0)) (kept_in s1))
    (spends : Spends (length bytes) s3 s4) where
  sound_first : sound s1 ≡ true
  sound_first = moved_sound p bytes s0 b s1 c may.fine moves

  room_first : (kept_in s1).spent + length bytes ≤ room_limit
  unfolding moved
  room_first = rw moves.does may.room

  has_text_lem : text_in s2 k ≡ bytes
  has_text_lem = (added.is (fits s1 bytes sound_first room_first)).0

  after_row : kept_in s3 ≡ with_module (set_place bytes p (module_in s0)) (kept_in s1)
  after_row = row has_text_lem (texted_kept added sound_first)

  after_room : kept_in s4 ≡ record { lowered = set_place bytes p (module_in s0); scopes = (kept_in s1).scopes; answers = (kept_in s1).answers; references = (kept_in s1).references; spent = (kept_in s1).spent + length bytes }
  unfolding with_module
  after_room = spends.does (rw after_row room_first) ∙ rw after_row

  -- THEOREM. The place has the text, and everything kept is as the definition of a change has it.
  changed_to_lem : kept_in s4 ≡ changed_to (kept_in s0) p bytes
  unfolding changed_to moved all_moved
  changed_to_lem = after_room ∙ rw (moves.does, may.other, module_kept s0)

  pub changes : Wrote changing s0 s4 → Changes p bytes s0 b s4 c
  changes wrote =
      record {
        wrote = wrote;
        does = changed_to_lem;
        leaves = changed_sound s1 s2 s3 s4 bytes k sound_first room_first added put row_fits_lem spends;
        list = moves.list;
      }

-- a write of a part of the module
wrote_module : {lo hi : ℕ} {s t : List ℕ} → exprs_at ≤ lo → hi ≤ uses_at → Wrote ((lo, hi) ∷ []) s t → Wrote ((exprs_at, uses_at) ∷ []) s t
unfolding Outside
wrote_module a b w = record { size = w.size; other = λ j o. w.other j (⊎_elim (λ z. inl (omega arith)) (λ z. inr (omega arith)) o.0, tt) }

-- ---- of a name
module _ (s0 b s1 c s2 s3 s4 : List ℕ) (x k : ℕ) (bytes : Text) (may : Changeable (at_name x) bytes s0 b) (moves : Moves (at_name x) bytes s0 b s1 c)
    (added : Texted bytes s1 k s2) (put : Renamed x k s2 s3) (spends : Spends (length bytes) s3 s4) where
  name_row_lem : text_in s2 k ≡ bytes → kept_in s2 ≡ kept_in s1 → kept_in s3 ≡ with_module (set_name x bytes (module_in s0)) (kept_in s1)
  name_row_lem e same =
      let m : module_in s2 ≡ module_in s0 = sym (module_kept s2) ∙ ap (λ (q : Kept). q.lowered) same ∙ module_kept s1 ∙ moved_module (at_name x) bytes s0 b s1 c may.fine moves in
      renamed_kept x k s2 s3 put ∙ rw (e, m, same)

  pub name_changed : Changes (at_name x) bytes s0 b s4 c
  name_changed =
      changes (at_name x) bytes s0 b s1 c s2 s3 s4 k may moves added (wrote_module (omega arith) (omega arith) (renamed_wrote x k s2 s3 put)) (renamed_module x k s2 s3 put) name_row_lem spends
      (four_wrote again_inside moves.wrote texts_inside added.wrote names_inside (renamed_wrote x k s2 s3 put) spent_inside spends.wrote)

-- ---- of a Reference
module _ (s0 b s1 c s2 s3 s4 : List ℕ) (e k : ℕ) (bytes : Text) (refers : Refers e s0) (may : Changeable (at_reference e) bytes s0 b) (moves : Moves (at_reference e) bytes s0 b s1 c)
    (added : Texted bytes s1 k s2) (put : Reworded e k s2 s3) (spends : Spends (length bytes) s3 s4) where
  word_row : text_in s2 k ≡ bytes → kept_in s2 ≡ kept_in s1 → kept_in s3 ≡ with_module (set_reference e bytes (module_in s0)) (kept_in s1)
  unfolding set_if_reference where_text
  word_row q same =
      let m : module_in s2 ≡ module_in s0 = sym (module_kept s2) ∙ ap (λ (z : Kept). z.lowered) same ∙ module_kept s1 ∙ moved_module (at_reference e) bytes s0 b s1 c may.fine moves in
      reworded_kept e k s2 s3 put ∙ rw (q, m, same, refers.is)

  pub reference_changed : Changes (at_reference e) bytes s0 b s4 c
  reference_changed =
      changes (at_reference e) bytes s0 b s1 c s2 s3 s4 k may moves added (wrote_module (omega arith) (omega arith) (reworded_wrote e k s2 s3 put)) (reworded_module e k s2 s3 put) word_row spends
      (four_wrote again_inside moves.wrote texts_inside added.wrote words_inside (reworded_wrote e k s2 s3 put) spent_inside spends.wrote)

-- ---- of either
pub text_changed : (p : Place) (s0 b s1 c s2 s3 s4 : List ℕ) (k n : ℕ) (bytes : Text) → Counted p bytes n s0 → Changeable p bytes s0 b → Moves p bytes s0 b s1 c → Texted bytes s1 k s2 → SetsText p k s2 s3 → Spends (length bytes) s3 s4 → Changes p bytes s0 b s4 c
text_changed (at_name x) s0 b s1 c s2 s3 s4 k n bytes h = name_changed s0 b s1 c s2 s3 s4 x k bytes
text_changed (at_reference e) s0 b s1 c s2 s3 s4 k n bytes h = reference_changed s0 b s1 c s2 s3 s4 e k bytes h

-- ---- the room
module _ (s : List ℕ) (n before : ℕ) (b : before ≡ (kept_in s).spent) where
  pub spends_nothing : (room_limit < before) ⊎ (room_limit < n) → Spends n s s
  spends_nothing o =
      record {
        wrote = wrote_none spending s;
        still = record { same = refl; used = refl };
        does = λ l. ⊎_elim (λ z. absurd (omega (arith, b))) (λ z. absurd (omega arith)) o;
      }

  pub spends_more : (t : List ℕ) → Spent (before + n) s t → Spends n s t
  spends_more t p = record { wrote = p.wrote; still = p.still; does = λ l. p.does ∙ rw b }
