-- What adding a text does. Assumes nothing.
use mathlib.Core.Path.{◌≡◌, refl, sym, ap, ◌∙◌}
use mathlib.Core.Logic.{◌⊎◌, inl, inr}
use mathlib.Core.Bool.{Bool, true, false, ◌||◌}
use mathlib.Core.List.{List, [], ◌∷◌}
use Prim.Native.Nat.{ℕ, ◌+◌, ◌≤◌, ◌<◌}
use native.Mathlib.Omega.{arith}
use lib.ListN.{length}
use lib.Dec.{eqb, leb}
use borrow.Author.Tests.{le-leb, leb-true, eq-eqb, ne_eqb, eqb-true}
use Rattle.words.specs.Runs.{run, splice}
use Rattle.words.specs.Words.{number, word, set_word}
use Rattle.words.proofs.RunLaws.{length_splice, run_splice_other, run_splice_same}
use Rattle.words.proofs.WordLaws.{length_set_word, word_set_word_same, word_set_word_other, run_set_word_other, word_splice_other}
use Rattle.layout.specs.Layout.{absent, text_limit, texts_place, texts_at, store_bytes, Long}
use Rattle.layout.specs.Changes.{Outside, Wrote}
use Rattle.layout.specs.Texts.{texts_used, text_of, text_in}
use Rattle.layout.proofs.RowLaws.{cap_le}
use Rattle.layout.proofs.Frames.{clear_of, wrote_none, text_absent}
use Rattle.texts.specs.Fits.{text_fits}
use Rattle.texts.specs.Adds.{texting, taken, Texted}

pub fits_absent : (s : List ℕ) → text_fits s absent ≡ true
unfolding text_fits
fits_absent s = rw (eq-eqb absent absent refl)

nothing_taken : (bytes : List ℕ) → length bytes ≡ 0 → taken bytes ≡ 0
unfolding taken
nothing_taken [] e = refl
nothing_taken (b ∷ bs) e = absurd (omega arith)

pub text_none : (s bytes : List ℕ) → length bytes ≡ 0 → Texted bytes s absent s
text_none s bytes e =
    record {
      wrote = wrote_none texting s;
      is = λ h. (text_absent s ∙ sym (empty bytes e), fits_absent s);
      others = λ j h. (refl, h);
      used = λ h. let z : taken bytes ≡ 0 = nothing_taken bytes e in omega arith;
      full = λ h. refl;
      empty = λ h. refl;
    }
  where
    empty : (xs : List ℕ) → length xs ≡ 0 → xs ≡ []
    empty [] q = refl
    empty (x ∷ xs) q = absurd (omega arith)

pub taken_some : (bytes : List ℕ) → (length bytes ≡ 0 → ⊥) → taken bytes ≡ 4 + length bytes
unfolding taken
taken_some [] h = absurd (h refl)
taken_some (b ∷ bs) h = refl

pub text_full : (s bytes : List ℕ) → (length bytes ≡ 0 → ⊥) → text_limit < word s texts_place + 4 + length bytes → Texted bytes s absent s
text_full s bytes n h =
    record {
      wrote = wrote_none texting s;
      is = λ k. absurd (omega (arith, taken_some bytes n));
      others = λ j q. (refl, q);
      used = λ k. absurd (omega (arith, taken_some bytes n));
      full = λ k. refl;
      empty = λ k. refl;
    }

absent_now : (s t : List ℕ) (j : ℕ) → j ≡ absent → (text_in t j ≡ text_in s j) × (text_fits t j ≡ true)
absent_now s t j e = rw e (text_absent t ∙ sym (text_absent s), fits_absent t)

module _ (s u v t bytes : List ℕ) (k n : ℕ) (l : Long s) (ek : k ≡ word s texts_place) (en : n ≡ length bytes) (some_bytes : length bytes ≡ 0 → ⊥) (h : k + 4 + n ≤ text_limit) (eu : u ≡ set_word s (texts_at + k) n) (ev : v ≡ splice u (texts_at + k + 4) bytes) (et : t ≡ set_word v texts_place (k + 4 + n)) where
  long_u : length u ≡ length s
  long_u = rw eu (length_set_word s (texts_at + k) n)

  long_v : length v ≡ length s
  long_v = rw ev (length_splice u (texts_at + k + 4) bytes) ∙ long_u

  -- what lies before the new text, but for the header
  run_before : (at m : ℕ) → 32 ≤ at → at + m ≤ texts_at + k → run t at m ≡ run s at m
  run_before at m a b =
      let x : run v at m ≡ run u at m = rw ev (run_splice_other u (texts_at + k + 4) bytes at m (inl (omega arith))) in
      let y : run u at m ≡ run s at m = rw eu (run_set_word_other s (texts_at + k) n at m (inl b)) in
      rw et (run_set_word_other v 28 (k + 4 + n) at m (inr a)) ∙ x ∙ y

  word_before : (at : ℕ) → 32 ≤ at → at + 4 ≤ texts_at + k → word t at ≡ word s at
  unfolding word
  word_before at a b = ap number (run_before at 4 a b)

  word_outside : (j : ℕ) → (j + 4 ≤ texts_place) ⊎ (texts_place + 4 ≤ j) → (j + 4 ≤ texts_at) ⊎ (store_bytes ≤ j) → word t j ≡ word s j
  word_outside j a b =
      let ln : length bytes ≡ n = sym en in
      let x : word v j ≡ word u j = rw ev (word_splice_other u (texts_at + k + 4) bytes j (rw ln (clear_of (texts_at + k + 4) n texts_at store_bytes j (omega arith) (omega arith) b))) in
      let y : word u j ≡ word s j = rw eu (word_set_word_other s (texts_at + k) n j (clear_of (texts_at + k) 4 texts_at store_bytes j (omega arith) (omega arith) b)) in
      rw et (word_set_word_other v texts_place (k + 4 + n) j a) ∙ x ∙ y

  place_now : word t texts_place ≡ k + 4 + n
  place_now = rw et (word_set_word_same v texts_place (k + 4 + n) (omega (arith, long_v)) (omega arith))

  length_now : word t (texts_at + k) ≡ n
  length_now =
      let x : word v (texts_at + k) ≡ word u (texts_at + k) = rw ev (word_splice_other u (texts_at + k + 4) bytes (texts_at + k) (inl (omega arith))) in
      let y : word u (texts_at + k) ≡ n = rw eu (word_set_word_same s (texts_at + k) n (omega arith) (omega arith)) in
      rw et (word_set_word_other v texts_place (k + 4 + n) (texts_at + k) (inr (omega arith))) ∙ x ∙ y

  bytes_now : run t (texts_at + k + 4) n ≡ bytes
  bytes_now =
      let x : run v (texts_at + k + 4) n ≡ bytes = rw (ev, en) (run_splice_same u (texts_at + k + 4) bytes (omega (arith, long_u))) in
      rw et (run_set_word_other v 28 (k + 4 + n) (texts_at + k + 4) n (inr (omega arith))) ∙ x

  text_now : text_in t k ≡ bytes
  unfolding text_in text_of texts_used
  text_now = rw (length_now, place_now, cap_le (k + 4 + n) text_limit h, le-leb (k + 4 + n) (k + 4 + n) (omega arith), bytes_now)

  fits_now : text_fits t k ≡ true
  unfolding text_fits
  fits_now = rw (ne_eqb k absent (λ q. omega arith), length_now, place_now, le-leb (k + 4 + n) (k + 4 + n) (omega arith))

  others_now : (j : ℕ) (b : Bool) → eqb j absent ≡ b → (b || leb (j + 4 + word s (texts_at + j)) (word s texts_place)) ≡ true → (text_in t j ≡ text_in s j) × (text_fits t j ≡ true)
  unfolding text_in text_of texts_used text_fits
  others_now j true q z = absent_now s t j (eqb-true j absent q)
  others_now j false q z =
      let f = leb-true (j + 4 + word s (texts_at + j)) (word s texts_place) z in
      let w : word t (texts_at + j) ≡ word s (texts_at + j) = word_before (texts_at + j) (omega arith) (omega arith) in (
        rw (
          w,
          place_now,
          cap_le (k + 4 + n) text_limit h,
          cap_le (word s texts_place) text_limit (omega arith),
          le-leb (j + 4 + word s (texts_at + j)) (k + 4 + n) (omega arith),
          le-leb (j + 4 + word s (texts_at + j)) (word s texts_place) f,
          run_before (texts_at + j + 4) (word s (texts_at + j)) (omega arith) (omega arith),
        ),
        rw (q, w, place_now, le-leb (j + 4 + word s (texts_at + j)) (k + 4 + n) (omega arith)),
      )

  texts_wrote : Wrote texting s t
  unfolding texting Outside
  texts_wrote = record { size = rw et (length_set_word v texts_place (k + 4 + n)) ∙ long_v; other = λ j o. word_outside j o.0 o.1.0 }

  texts_others : (j : ℕ) → text_fits s j ≡ true → (text_in t j ≡ text_in s j) × (text_fits t j ≡ true)
  unfolding text_fits
  texts_others j z = others_now j (eqb j absent) refl z

  pub text_added : Texted bytes s k t
  text_added =
      record {
        wrote = texts_wrote;
        is = λ z. (text_now, fits_now);
        others = texts_others;
        used = λ z. let f = taken_some bytes some_bytes in place_now ∙ omega arith;
        full = λ z. absurd (omega (arith, taken_some bytes some_bytes));
        empty = λ z. absurd (some_bytes (ap length z));
      }
