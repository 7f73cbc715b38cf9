-- Stores that differ between two places alone. Assumes nothing.
use mathlib.Core.Path.{◌≡◌, refl, sym, ap, ◌∙◌}
use mathlib.Core.Logic.{◌⊎◌, inl, inr, ⊎_elim}
use mathlib.Core.List.{List, [], ◌∷◌}
use Prim.Native.Nat.{ℕ, suc, ◌+◌, ◌*◌, ◌≤◌}
use native.Mathlib.Omega.{arith}
use lib.ListN.{length, take, drop, length-drop}
use lib.Seq.{take_all}
use Rattle.words.specs.Runs.{run, splice}
use Rattle.words.specs.Words.{word, number, set_word}
use Rattle.words.proofs.RunLaws.{length_splice, run_splice_other}
use Rattle.words.proofs.WordLaws.{length_set_word, run_set_word_other}
use Rattle.layout.specs.Layout.{store_bytes, texts_place, sheet_at, texts_at}
use Rattle.layout.specs.Rows.{set_all}
use Rattle.layout.specs.Changes.{Outside, Wrote}
use Rattle.layout.specs.Regions.{bringing}
use Rattle.layout.specs.Texts.{texts_used, text_of, text_in}
use Rattle.intake.specs.Bring.{Within}

-- ---- what is written where
pub within_none : (s : List ℕ) (lo hi : ℕ) → Within s s lo hi
within_none s lo hi = record { long = refl; other = λ j n h. refl }

pub within_put : (s : List ℕ) (at v : ℕ) → Within s (set_word s at v) at (at + 4)
within_put s at v = record { long = length_set_word s at v; other = λ j n h. run_set_word_other s at v j n h }

pub within_splice : (s : List ℕ) (at : ℕ) (xs : List ℕ) → Within s (splice s at xs) at (at + length xs)
within_splice s at xs = record { long = length_splice s at xs; other = λ j n h. run_splice_other s at xs j n h }

pub within_wide : {s t : List ℕ} {lo hi : ℕ} (a b : ℕ) → Within s t lo hi → a ≤ lo → hi ≤ b → Within s t a b
within_wide a b w l h =
    record { long = w.long; other = λ j n k. w.other j n (⊎_elim (λ z. inl (omega arith)) (λ z. inr (omega arith)) k) }

pub within_then : {s t u : List ℕ} {lo hi : ℕ} → Within s t lo hi → Within t u lo hi → Within s u lo hi
within_then w v = record { long = v.long ∙ w.long; other = λ j n k. v.other j n k ∙ w.other j n k }

pub within_all : (s : List ℕ) (at : ℕ) (ws : List ℕ) → Within s (set_all s at ws) at (at + 4 * length ws)
unfolding set_all
within_all s at [] = within_none s at (at + 4 * 0)
within_all s at (w ∷ ws) =
    within_then (within_wide at (at + 4 * suc (length ws)) (within_put s at w) (omega arith) (omega arith))
    (within_wide at (at + 4 * suc (length ws)) (within_all (set_word s at w) (at + 4) ws) (omega arith) (omega arith))

-- ---- what is as it was
module _ {s t : List ℕ} {lo hi : ℕ} (w : Within s t lo hi) where
  pub word_other : (j : ℕ) → (j + 4 ≤ lo) ⊎ (hi ≤ j) → word t j ≡ word s j
  unfolding word
  word_other j h = ap number (w.other j 4 h)

  pub word_before : (j : ℕ) → j + 4 ≤ lo → word t j ≡ word s j
  word_before j h = word_other j (inl h)

  pub word_after : (j : ℕ) → hi ≤ j → word t j ≡ word s j
  word_after j h = word_other j (inr h)

-- the bytes past what was written
pub within_past : {s t : List ℕ} {lo hi : ℕ} → Within s t lo hi → (k : ℕ) → hi ≤ k → drop k t ≡ drop k s
unfolding run
within_past {s} {t} w k h =
    let whole : (u : List ℕ) → length u ≡ length s → take (length s) (drop k u) ≡ drop k u = λ u e. take_all (length s) (drop k u) (rw (length-drop k u) (omega arith)) in
    sym (whole t w.long) ∙ w.other k (length s) (inr h) ∙ whole s refl

-- what bringing a sheet in may write, in one of its two ranges
pub brings_used : {s t : List ℕ} → Within s t texts_place (texts_place + 4) → Wrote bringing s t
unfolding bringing Outside
brings_used w = record { size = w.long; other = λ j o. word_other w j o.0 }

pub brings_sheet : {s t : List ℕ} {lo hi : ℕ} → Within s t lo hi → sheet_at ≤ lo → hi ≤ store_bytes → Wrote bringing s t
unfolding bringing Outside
brings_sheet w l h = record { size = w.long; other = λ j o. word_other w j (⊎_elim (λ z. inl (omega arith)) (λ z. inr (omega arith)) o.1.0) }

-- a text whose length and bytes are as they were, with as many bytes in use
pub text_same : (s t : List ℕ) (k : ℕ) → word t texts_place ≡ word s texts_place → word t (texts_at + k) ≡ word s (texts_at + k)
    → run t (texts_at + k + 4) (word s (texts_at + k)) ≡ run s (texts_at + k + 4) (word s (texts_at + k)) → text_in t k ≡ text_in s k
unfolding text_in text_of texts_used
text_same s t k u e f = rw (u, e, f)
