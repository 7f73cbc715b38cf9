-- Texts within the bytes in use, and numbers that stand for them. Assumes nothing.
use mathlib.Core.Path.{◌≡◌, refl, sym, ◌∙◌}
use mathlib.Core.Logic.{inr}
use mathlib.Core.Bool.{Bool, true, false, ◌||◌}
use mathlib.Core.List.{List, []}
use Prim.Native.Nat.{ℕ, ◌+◌, ◌≤◌}
use native.Mathlib.Omega.{arith}
use lib.Dec.{eqb, leb}
use borrow.Author.Tests.{leb-true, le-leb}
use Rattle.words.specs.Runs.{run}
use Rattle.words.specs.Words.{word}
use Rattle.layout.specs.Layout.{absent, texts_place, texts_at, text_limit}
use Rattle.layout.specs.Rows.{cap}
use Rattle.layout.specs.Texts.{texts_used, text_of, text_in, text_held}
use Rattle.layout.proofs.Frames.{text_absent}
use Rattle.layout.proofs.RowLaws.{cap_less}
use Rattle.texts.specs.Fits.{text_fits, Held}

-- ---- what it says of the text
pub text_held_lem : (s : List ℕ) (k : ℕ) → text_held s k ≡ true → text_in s k ≡ run s (texts_at + k + 4) (word s (texts_at + k))
unfolding text_in text_of text_held
text_held_lem s k h = rw h

pub text_unheld : (s : List ℕ) (k : ℕ) → text_held s k ≡ false → text_in s k ≡ []
unfolding text_in text_of text_held
text_unheld s k h = rw h

-- ---- the number that is written
module _ (s : List ℕ) (k : ℕ) (b : Bool) (h : b ≡ text_held s k) where
  pub held_itself : b ≡ true → Held k s k
  unfolding text_held texts_used text_fits
  held_itself e =
      let within : k + 4 + word s (texts_at + k) ≤ cap (word s texts_place) text_limit = leb-true (k + 4 + word s (texts_at + k)) (cap (word s texts_place) text_limit) (sym h ∙ e) in
      let fits : leb (k + 4 + word s (texts_at + k)) (word s texts_place) ≡ true = le-leb (k + 4 + word s (texts_at + k)) (word s texts_place) (omega (arith, within, cap_less (word s texts_place) text_limit (word s texts_place) (inr (omega arith)))) in
      record { same = refl; fits = or_second (eqb k absent) _ fits }
    where
      or_second : (x y : Bool) → y ≡ true → (x || y) ≡ true
      or_second true y q = refl
      or_second false y q = q

  pub held_mark : b ≡ false → Held k s absent
  unfolding text_fits
  held_mark e = record { same = text_absent s ∙ sym (text_unheld s k (sym h ∙ e)); fits = refl }
