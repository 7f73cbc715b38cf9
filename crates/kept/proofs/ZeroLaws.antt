-- Rows of a table cleared one by one. Assumes nothing.
use mathlib.Core.Path.{◌≡◌, refl, ◌∙◌}
use mathlib.Core.Logic.{◌⊎◌, inl, inr, ⊎_elim}
use mathlib.Core.Bool.{Bool, true, false}
use mathlib.Core.List.{List}
use Prim.Native.Nat.{ℕ, ◌+◌, ◌*◌, ◌≤◌, ◌<◌}
use native.Mathlib.Omega.{arith}
use Rattle.std.proofs.Math.Nat.{mul-le-mul_left, mul-add}
use lib.Dec.{ltb}
use borrow.Author.Tests.{ltb-true, ltb-false}
use Rattle.words.specs.Words.{word, set_word}
use Rattle.words.proofs.WordLaws.{length_set_word, word_set_word_same, word_set_word_other}
use Rattle.layout.specs.Layout.{exprs_at, sheet_at, Long}
use Rattle.layout.specs.Changes.{Outside}
use Rattle.layout.proofs.Frames.{clear_of}
use Rattle.layout.proofs.WriteLaws.{still_set_word, still_then}
use Rattle.kept.specs.Zeroes.{Zeroed}

-- one row more
row_more : (row i : ℕ) → row * (i + 1) ≡ row * i + row
row_more row i = mul-add row i 1 ∙ (omega arith)

-- a row lies before the end of the rows up to a later one
pub row_before : (row i n : ℕ) → i < n → row * i + row ≤ row * n
row_before row i n h = let m : row * (i + 1) ≤ row * n = mul-le-mul_left row (omega arith) in rw (row_more row i) at m

pub zeroed_more : (s u t : List ℕ) (table row i n : ℕ) → Long s → exprs_at ≤ table → 4 ≤ row → table + row * n ≤ sheet_at → i < n → Zeroed table row i s u → t ≡ set_word u (table + row * i) 0 → Zeroed table row (i + 1) s t
unfolding Outside
zeroed_more s u t table row i n l lo wide fits h d et =
    let at = table + row * i in
    let b = row_before row i n h in
    let e = row_more row i in
    let other : (j : ℕ) → (j + 4 ≤ at) ⊎ (at + 4 ≤ j) → word t j ≡ word u j = λ j o. rw et (word_set_word_other u at 0 j o) in
    record {
      wrote =
          record {
            size = rw et (length_set_word u at 0) ∙ d.wrote.size;
            other = λ j o. other j (clear_of at 4 table (table + row * (i + 1)) j (omega arith) (omega (arith, e)) o.0) ∙ d.wrote.other j (⊎_elim (λ z. inl z) (λ z. inr (omega (arith, e))) o.0, tt);
          };
      still = still_then d.still (rw et (still_set_word u at 0 (omega arith) (λ z. omega arith)));
      gone = λ k z. gone k (ltb k i) refl z;
    }
  where
    gone : (k : ℕ) (b : Bool) → ltb k i ≡ b → k < i + 1 → word t (table + row * k) ≡ 0
    gone k true q z =
        let m = ltb-true k i q in
        let c = row_before row k i m in
        rw et (word_set_word_other u (table + row * i) 0 (table + row * k) (inl (omega arith)) ∙ d.gone k m)
    gone k false q z =
        let m : k ≡ i = omega (arith, ltb-false k i q) in
        let c = row_before row i n h in
        rw (m, et) (word_set_word_same u (table + row * i) 0 (omega (arith, d.wrote.size)) (omega arith))
