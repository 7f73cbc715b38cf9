-- What a fit store is: long enough, sound, and not empty. Assumes nothing.
use mathlib.Core.Path.{◌≡◌, refl, sym, ap}
use mathlib.Core.Bool.{Bool, true, false, not}
use mathlib.Core.List.{List}
use Prim.Native.Nat.{ℕ}
use lib.ListN.{length}
use borrow.Author.Tests.{le-ltb, ltb-false, ne_eqb, eqb-false}
use Rattle.words.specs.Words.{word}
use Rattle.spec.specs.Calls.{Condition, fit}
use Rattle.layout.specs.Layout.{expr_count, store_bytes, Long}
use Rattle.soundness.specs.Sound.{sound, condition_of}

pub fit_of : (t : List ℕ) → Long t → sound t ≡ true → (word t expr_count ≡ 0 → ⊥) → condition_of t ≡ fit
unfolding condition_of
fit_of t long is_sound some = rw (le-ltb (length t) store_bytes long, is_sound, ne_eqb (word t expr_count) 0 some)

pub fit_long : (s : List ℕ) → condition_of s ≡ fit → Long s
unfolding condition_of
fit_long s e = ltb-false (length s) store_bytes (ap (λ (c : Condition). c.short) e)

pub fit_sound : (s : List ℕ) → condition_of s ≡ fit → sound s ≡ true
unfolding condition_of
fit_sound s e = unnot (sound s) (ap (λ (c : Condition). c.unsound) e)
  where
    unnot : (b : Bool) → not b ≡ false → b ≡ true
    unnot true h = refl
    unnot false h = sym h

pub fit_loaded : (s : List ℕ) → condition_of s ≡ fit → word s expr_count ≡ 0 → ⊥
unfolding condition_of
fit_loaded s e = eqb-false (word s expr_count) 0 (ap (λ (c : Condition). c.unloaded) e)
