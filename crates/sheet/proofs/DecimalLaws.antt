-- Laws of decimal numbers. Assumes nothing.
use Rattle.std.specs.Prelude.{if◌then◌else◌}
use Rattle.std.specs.Char.{is_ascii_digit}
use mathlib.Core.Path.{◌≡◌, refl, sym, ap, ◌∙◌}
use mathlib.Core.Bool.{Bool, true, false, ◌&&◌, not}
use mathlib.Core.List.{[], ◌∷◌}
use mathlib.Core.Option.{Option, none, some, map}
use Prim.Native.Nat.{ℕ, ◌+◌, ◌-◌, ◌*◌, ◌≤◌, ◌<◌}
use native.Mathlib.Omega.{arith}
use native.Mathlib.Numerals.{add-one}
use lib.ListN.{length, get_or, drop, drop_of_length-le}
use lib.Seq.{drop-cons}
use lib.Dec.{eqb}
use borrow.Author.Tests.{le-leb, eq-eqb, ne_eqb, eqb-true}
use Rattle.spec.specs.Basics.{Text}
use Rattle.spec.specs.Sheet.{is_digit, all_digits, value_from, decimal}
use Rattle.sheet.specs.Decimals.{capped, capped_from}

-- ---- a digit
pub digit_is : (c : ℕ) → 48 ≤ c → c ≤ 57 → is_digit c ≡ true
unfolding is_digit
digit_is c h k = rw (le-leb 48 c, le-leb c 57)

-- the library's test is that of the definitions
pub same_digit : (c : ℕ) → is_ascii_digit c ≡ is_digit c
unfolding is_digit
same_digit c = refl

-- ---- the capped value is that of the whole number, capped
pub capped_is : (d : Text) (v : ℕ) → capped_from (capped v) d ≡ (if all_digits d then some (capped (value_from v d)) else none)
unfolding capped_from all_digits value_from
capped_is [] v = refl
capped_is (c ∷ d) v = go (is_digit c) (capped_is d (10 * v + (c - 48)))
  where
    e : capped (10 * capped v + (c - 48)) ≡ capped (10 * v + (c - 48))
    e = omega arith

    go : (t : Bool) → capped_from (capped (10 * v + (c - 48))) d ≡ (if all_digits d then some (capped (value_from (10 * v + (c - 48)) d)) else none)
        → (if t then capped_from (capped (10 * capped v + (c - 48))) d else none) ≡ (if t && all_digits d then some (capped (value_from (10 * v + (c - 48)) d)) else none)
    go true q = rw e q
    go false q = refl

-- ---- the loop over the digits of a text: i of them are read
pub record Digits (text : Text) (value i : ℕ) : Type 0 where
  pub small : value ≤ 4294967296
  pub same : capped_from 0 text ≡ capped_from value (drop i text)

module _ (text : Text) (value i : ℕ) (r : Digits text value i) where
  pub digits_other : i < length text → is_digit (get_or text i 0) ≡ false → none ≡ capped_from 0 text
  unfolding capped_from
  digits_other k e = sym (r.same ∙ rw (drop-cons text i 0, e))

  pub digits_more : i < length text → is_digit (get_or text i 0) ≡ true → (w : ℕ) → w ≡ capped (10 * value + (get_or text i 0 - 48)) → Digits text w (i + 1)
  unfolding capped_from
  digits_more k e w f = record { small = omega (arith, f); same = r.same ∙ rw (drop-cons text i 0, e, f, add-one i) }

  pub digits_end : length text ≤ i → some value ≡ capped_from 0 text
  unfolding capped_from
  digits_end k = sym (r.same ∙ rw (drop_of_length-le text))

-- ---- the number of a text
pub no_text : (t : Text) → length t ≡ 0 → none ≡ map capped (decimal t)
unfolding decimal
no_text [] h = refl
no_text (c ∷ l) h = absurd (omega (arith, h))

module _ (c : ℕ) where
  pub zero_first : (l : Text) → c ≡ 48 → false ≡ eqb (length l) 0 → none ≡ map capped (decimal (c ∷ l))
  unfolding decimal
  zero_first [] e h = let z : ◌≡◌ {A = ℕ} 0 1 = cc in absurd (omega arith)
  zero_first (d ∷ l) e h = go (all_digits (c ∷ d ∷ l)) (eqb c 48) (eq-eqb c 48 e)
    where
      go : (a b : Bool) → b ≡ true → none ≡ map capped (if a && not b then some (value_from 0 (c ∷ d ∷ l)) else none)
      go true true q = refl
      go false true q = refl
      go a false q = cc

  pub one_digit : (l : Text) → true ≡ eqb (length l) 0 → capped_from 0 (c ∷ l) ≡ map capped (decimal (c ∷ l))
  unfolding decimal all_digits value_from
  one_digit [] h = capped_is (c ∷ []) 0 ∙ one (is_digit c)
    where
      one : (t : Bool) → (if t && true then some (capped (10 * 0 + (c - 48))) else none) ≡ map capped (if t then some (c - 48) else none)
      one true = ap some (omega arith)
      one false = refl
  one_digit (d ∷ l) h = let q = eqb-true (length (d ∷ l)) 0 (sym h) in absurd (omega arith)

  pub other_first : (l : Text) → (c ≡ 48 → ⊥) → capped_from 0 (c ∷ l) ≡ map capped (decimal (c ∷ l))
  unfolding decimal all_digits value_from
  other_first [] n = one_digit [] refl
  other_first (d ∷ l) n = capped_is (c ∷ d ∷ l) 0 ∙ go (all_digits (c ∷ d ∷ l)) (eqb c 48) (ne_eqb c 48 n)
    where
      go : (a b : Bool) → b ≡ false → (if a then some (capped (value_from 0 (c ∷ d ∷ l))) else none) ≡ map capped (if a && not b then some (value_from 0 (c ∷ d ∷ l)) else none)
      go true false q = refl
      go false false q = refl
      go a true q = cc

-- ---- the number by its capped value
pub exact : (o : Option ℕ) (v : ℕ) → some v ≡ map capped o → v < 4294967296 → o ≡ some v
exact none v e h = cc
exact (some w) v e h = let q : v ≡ capped w = cc in ap some (omega arith)

pub spelled_none : (o : Option ℕ) → none ≡ map capped o → o ≡ none
spelled_none none e = refl
spelled_none (some w) e = cc
