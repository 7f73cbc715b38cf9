-- The condition of a store of zeros. Assumes nothing.
use Rattle.std.specs.Prelude.{Err}
use mathlib.Core.Path.{◌≡◌}
use mathlib.Core.Bool.{true}
use mathlib.Core.List.{List}
use Prim.Native.Nat.{ℕ, ◌+◌, ◌≤◌}
use native.Mathlib.Omega.{arith}
use lib.ListN.{length, get_or}
use borrow.Author.Tests.{le-ltb}
use Rattle.words.specs.Words.{word}
use Rattle.words.proofs.WordLaws.{word_bytes}
use Rattle.layout.specs.Layout.{exprs_at, scopes_at, firsts_at, store_bytes, Long}
use Rattle.layout.specs.Exprs.{first_item}
use Rattle.layout.specs.Keeps.{first_reference, first_entered}
use Rattle.soundness.specs.Sound.{all_to, ascends, counts_fit, entry_fits, exprs_fit, names_fit, diagnostics_fit, scopes_fit, kept_fits, sound, condition_of}
use Rattle.soundness.specs.Verdict.{verdict}
use Rattle.soundness.specs.declared.conditions.Unfit.TheVariants.{Unloaded}

-- It has nothing loaded, and is sound.
module _ (s : List ℕ) (long : Long s) (zero : (i : ℕ) → get_or s i 0 ≡ 0) where
  word_zero : (k : ℕ) → k + 4 ≤ store_bytes → word s k ≡ 0
  word_zero k l = rw (word_bytes s k (omega arith), zero k, zero (k + 1), zero (k + 2), zero (k + 3))

  zeros_sound : sound s ≡ true
  unfolding sound counts_fit entry_fits exprs_fit names_fit diagnostics_fit scopes_fit kept_fits ascends first_item first_entered first_reference all_to
  zeros_sound =
      rw (
        word_zero 0 (omega arith),
        word_zero 4 (omega arith),
        word_zero 8 (omega arith),
        word_zero 12 (omega arith),
        word_zero 20 (omega arith),
        word_zero 24 (omega arith),
        word_zero 28 (omega arith),
        word_zero exprs_at (omega arith),
        word_zero scopes_at (omega arith),
        word_zero firsts_at (omega arith),
      )

  pub zeros_unloaded : verdict (condition_of s) ≡ Err Unloaded
  unfolding verdict condition_of
  zeros_unloaded = rw (le-ltb (length s) store_bytes long, zeros_sound, word_zero 0 (omega arith))
