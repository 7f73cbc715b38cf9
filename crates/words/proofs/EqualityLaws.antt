-- `equalb` is the library's test of two lists of bytes: true of equal lists and of no others. Assumes nothing.
use mathlib.Core.Path.{◌≡◌, refl, ap, ◌∙◌, sym}
use mathlib.Core.Bool.{Bool, true, false, ◌&&◌}
use mathlib.Core.List.{List, [], ◌∷◌}
use Prim.Native.Nat.{ℕ}
use lib.Dec.{eqb}
use Rattle.std.specs.Str.{bytes_eq}
use Rattle.std.specs.Cmp.Lexicographic.{same_text, other_text}
use Rattle.std.proofs.lemmas.Cmp.{nat_list_eq_equiv}
use Rattle.words.specs.Equality.{equalb}

pub equalb_is : (xs ys : List ℕ) → equalb xs ys ≡ bytes_eq xs ys
unfolding equalb
equalb_is [] [] = refl
equalb_is [] (y ∷ ys) = refl
equalb_is (x ∷ xs) [] = refl
equalb_is (x ∷ xs) (y ∷ ys) = ap (λ b. eqb x y && b) (equalb_is xs ys)

pub equalb_refl : (xs : List ℕ) → equalb xs xs ≡ true
equalb_refl xs = equalb_is xs xs ∙ nat_list_eq_equiv.refl xs

pub equalb_true : (xs ys : List ℕ) → equalb xs ys ≡ true → xs ≡ ys
equalb_true xs ys h = same_text xs ys (sym h ∙ equalb_is xs ys)

pub equalb_false : (xs ys : List ℕ) → equalb xs ys ≡ false → xs ≡ ys → ⊥
equalb_false xs ys h = other_text xs ys (sym h ∙ equalb_is xs ys)

pub equalb_other : (xs ys : List ℕ) → (xs ≡ ys → ⊥) → equalb xs ys ≡ false
equalb_other xs ys h = go (equalb xs ys) refl
  where
    go : (b : Bool) → equalb xs ys ≡ b → b ≡ false
    go true p = absurd (h (equalb_true xs ys p))
    go false p = refl

-- which of the two lists comes first does not matter
pub equalb_sym : (xs ys : List ℕ) → equalb xs ys ≡ equalb ys xs
equalb_sym xs ys = equalb_is xs ys ∙ nat_list_eq_equiv.symm xs ys ∙ sym (equalb_is ys xs)
