-- What a write leaves of the bytes: `Wrote` speaks of words, and the words that are as they were have the bytes that
-- they had. Assumes nothing.
use mathlib.Core.Path.{◌≡◌, refl, sym, ap, ◌∙◌}
use mathlib.Core.Logic.{◌⊎◌, inl, inr, ⊎_elim}
use mathlib.Core.Bool.{Bool, true, ◌&&◌, and-eq-true_iff}
use mathlib.Core.List.{List, [], ◌∷◌}
use Prim.Native.Nat.{ℕ, zero, suc, ◌+◌, ◌*◌, ◌/◌, ◌%◌, ◌≤◌, ◌<◌}
use native.Mathlib.Omega.{arith}
use lib.ListN.{get_or, drop, length-drop}
use lib.Seq.{get_or-drop, ext_get_or}
use lib.Dec.{eqb, leb}
use borrow.Author.Tests.{eqb-true, leb-true}
use Rattle.words.specs.Runs.{run}
use Rattle.words.specs.Words.{number, word}
use Rattle.words.proofs.RunLaws.{get_d_run}
use Rattle.layout.specs.Changes.{Range, Outside, Wrote}

-- ---- the bytes of a word
-- bytes that spell the same number are the same
digits_same : (xs ys : List ℕ) → number xs ≡ number ys → (i : ℕ) → get_or xs i 0 % 256 ≡ get_or ys i 0 % 256
unfolding number
digits_same [] [] e i = refl
digits_same [] (y ∷ ys) e zero = omega arith
digits_same [] (y ∷ ys) e (suc i) = digits_same [] ys (omega arith) i
digits_same (x ∷ xs) [] e zero = omega arith
digits_same (x ∷ xs) [] e (suc i) = digits_same xs [] (omega arith) i
digits_same (x ∷ xs) (y ∷ ys) e zero = omega arith
digits_same (x ∷ xs) (y ∷ ys) e (suc i) = digits_same xs ys (omega arith) i

-- the four bytes of a word that is as it was
pub byte_of_word : (s t : List ℕ) (j i : ℕ) → i < 4 → word t j ≡ word s j → get_or t (j + i) 0 % 256 ≡ get_or s (j + i) 0 % 256
unfolding word
byte_of_word s t j i h e =
    ap (λ (b : ℕ). b % 256) (sym (get_d_run t j 4 i h)) ∙ digits_same (run t j 4) (run s j 4) e i ∙ ap (λ (b : ℕ). b % 256) (get_d_run s j 4 i h)

-- ---- a byte outside what was written
-- as a slice's elements are: the toolchain gives this of every slice of bytes
abbrev pub Bytes : List ℕ → Type 0
Bytes s = (i : ℕ) → get_or s i 0 < 256

-- whether ranges begin and end between words
abbrev pub aligned : List Range → Bool
aligned [] = true
aligned (r ∷ rs) = eqb (r.0 % 4) 0 && (eqb (r.1 % 4) 0 && aligned rs)

-- whether ranges end at a place or before it
abbrev pub end_by : ℕ → List Range → Bool
end_by k [] = true
end_by k (r ∷ rs) = leb r.1 k && end_by k rs

-- a byte is in none of the ranges
unfoldable pub Spared : ℕ → List Range → Type 0
Spared b [] = Unit {0}
Spared b (r ∷ rs) = ((b < r.0) ⊎ (r.1 ≤ b)) × Spared b rs

-- nor is any byte of its word
word_spared : (rs : List Range) → aligned rs ≡ true → (b : ℕ) → Spared b rs → Outside (4 * (b / 4)) rs
unfolding Outside Spared
word_spared [] a b o = tt
word_spared (r ∷ rs) a b o =
    let x = (and-eq-true_iff (eqb (r.0 % 4) 0) (eqb (r.1 % 4) 0 && aligned rs)).0 a in
    let y = (and-eq-true_iff (eqb (r.1 % 4) 0) (aligned rs)).0 x.1 in
    let lo = eqb-true (r.0 % 4) 0 x.0 in
    let hi = eqb-true (r.1 % 4) 0 y.0 in
    (⊎_elim (λ z. inl (omega arith)) (λ z. inr (omega arith)) o.0, word_spared rs y.1 b o.1)

past_all : (rs : List Range) (k : ℕ) → end_by k rs ≡ true → (b : ℕ) → k ≤ b → Outside b rs
unfolding Outside
past_all [] k e b h = tt
past_all (r ∷ rs) k e b h =
    let x = (and-eq-true_iff (leb r.1 k) (end_by k rs)).0 e in
    (inr (omega (arith, leb-true r.1 k x.0)), past_all rs k x.1 b h)

module _ {rs : List Range} {s t : List ℕ} (w : Wrote rs s t) (hs : Bytes s) (ht : Bytes t) where
  whole_byte : (b : ℕ) → get_or t b 0 % 256 ≡ get_or s b 0 % 256 → get_or t b 0 ≡ get_or s b 0
  whole_byte b e = let x = hs b in let y = ht b in omega arith

  pub byte_kept : aligned rs ≡ true → (b : ℕ) → Spared b rs → get_or t b 0 ≡ get_or s b 0
  byte_kept a b o =
      let p : 4 * (b / 4) + b % 4 ≡ b = omega arith in
      whole_byte b (rw p at (byte_of_word s t (4 * (b / 4)) (b % 4) (omega arith) (w.other (4 * (b / 4)) (word_spared rs a b o))))

  -- all bytes past the ranges
  pub past_kept : (k : ℕ) → end_by k rs ≡ true → drop k t ≡ drop k s
  past_kept k e =
      ext_get_or 0 (drop k t) (drop k s) (simp (length-drop, w.size)) (λ i h.
      let z : k + i + 0 ≡ k + i = omega arith in
      get_or-drop k t i 0
      ∙ whole_byte (k + i) (rw z at (byte_of_word s t (k + i) 0 (omega arith) (w.other (k + i) (past_all rs k e (k + i) (omega arith)))))
      ∙ sym (get_or-drop k s i 0))
