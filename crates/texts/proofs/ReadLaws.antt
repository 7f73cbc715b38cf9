-- Where a text lies, and how long it is. Assumes nothing.
use mathlib.Core.Path.{◌≡◌}
use mathlib.Core.Bool.{true, false}
use mathlib.Core.List.{List}
use Prim.Native.Nat.{ℕ, ◌+◌, ◌-◌, ◌≤◌}
use native.Mathlib.Omega.{arith}
use borrow.Author.Tests.{le-leb, leb-true}
use Rattle.words.specs.Runs.{run}
use Rattle.words.specs.Words.{word}
use Rattle.layout.specs.Layout.{text_limit, texts_place, texts_at, Long}
use Rattle.layout.specs.Texts.{texts_used, text_of, text_in, text_held}
use Rattle.texts.specs.Reads.{Lies}
use Rattle.layout.proofs.RowLaws.{cap_le, cap_lim}
use Rattle.texts.proofs.HeldLaws.{text_held_lem, text_unheld}

pub used_few : (s : List ℕ) → texts_used s ≤ text_limit
unfolding texts_used
used_few s = cap_lim (word s texts_place) text_limit

pub used_is : (s : List ℕ) (n : ℕ) → word s texts_place ≡ n → n ≤ text_limit → texts_used s ≡ n
unfolding texts_used
used_is s n e h = rw e (cap_le n text_limit h)

module _ (s : List ℕ) (k : ℕ) where
  pub text_in_lem : k + 4 + word s (texts_at + k) ≤ texts_used s → text_in s k ≡ run s (texts_at + k + 4) (word s (texts_at + k))
  unfolding text_in text_of
  text_in_lem h = rw (le-leb (k + 4 + word s (texts_at + k)) (texts_used s) h)

  module _ (h : text_held s k ≡ true) where
    -- its length and its bytes are in the region
    pub held_inside : k + 4 + word s (texts_at + k) ≤ text_limit
    unfolding text_held
    held_inside = omega (arith, leb-true (k + 4 + word s (texts_at + k)) (texts_used s) h, used_few s)

    pub lies_there : Long s → (n : ℕ) → n ≡ word s (texts_at + k) → Lies s k (texts_at + k + 4) (texts_at + k + 4 + n)
    lies_there l n e =
        let m : texts_at + k + 4 + n - (texts_at + k + 4) ≡ word s (texts_at + k) = omega (arith, e) in
        record {
          ordered = omega arith;
          inside = omega (arith, l, e, held_inside);
          short = rw m (omega (arith, held_inside));
          same = rw m (text_held_lem s k h);
        }

  pub lies_nowhere : text_held s k ≡ false → Lies s k 0 0
  unfolding run
  lies_nowhere h =
      record {
        ordered = omega arith;
        inside = omega arith;
        short = omega arith;
        same = text_unheld s k h;
      }
