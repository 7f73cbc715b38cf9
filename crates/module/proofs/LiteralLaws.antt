-- Floats by their bits, and integers that are not negative.
-- Assumes nothing.
use mathlib.Core.Path.{◌≡◌, refl, sym, ap, subst, ◌∙◌}
use mathlib.Core.Bool.{Bool, true, false, not}
use Prim.Native.Nat.{ℕ, ◌≤◌, ◌%◌}
use native.Mathlib.Nat.{le_trans, lt_of_le_of_lt, mod-le, not-suc-le-zero}
use lib.Dec.{T, le→leb, lit<}
use lib.IntN.{ℤ, pos, negsuc, nat_abs}
use lib.Signed.{lt_z, non_neg, nat_abs-le}
use lib.Ieee.{Float, nan, inf, fin, binary64, top, fits, is_nan, nan_bits, to_bits, of_bits}
use lib.Ieee.Bits.{of_bits-to_bits, to_bits-of_bits, nan_bits_is, nan_bits_above}
use borrow.Author.Tests.{le-ltb, ltb-true}
use mir.Syntax.{w64}
use mir.Val.{Fits, SFits, to_z, of_z}
use mir.ValLaws.{to_z-of_z}
use Rattle.module.specs.Literals.{float_bits, nat_of, Unsigned, NotNegative, Valid}
use Rattle.module.specs.declared.literal.Literal.{Literal}
use Rattle.module.specs.declared.literal.Literal.TheVariants as code

-- ---- floats

pub unsigned_no_nan : (x : Float) → Unsigned x → T (not (is_nan x))
unfolding Unsigned float_bits to_bits is_nan
unsigned_no_nan nan h = absurd (le→leb _ _ h)
unsigned_no_nan (inf s) h = tt
unsigned_no_nan (fin s m e) h = tt

pub low_no_nan : (bits : ℕ) → bits ≤ 9218868437227405312 → T (not (nan_bits binary64 bits))
low_no_nan bits h =
    subst (λ (b : Bool). T (not b)) (sym (nan_bits_above binary64 bits ∙ le-ltb 9218868437227405312 (bits % top binary64) (le_trans (mod-le bits (top binary64)) h))) tt

pub bits_back : (bits : ℕ) → bits ≤ 9218868437227405312 → float_bits (of_bits binary64 bits) ≡ bits
unfolding float_bits
bits_back bits h =
    to_bits-of_bits binary64 bits (lt_of_le_of_lt h (lit< tt)) (subst (λ (b : Bool). T (not b)) (nan_bits_is binary64 bits) (low_no_nan bits h))

-- an f64 is told by its bits, so an equation on them says which float it is
pub float_told : (x y : Float) → T (fits binary64 x) → T (fits binary64 y) → float_bits x ≡ float_bits y → x ≡ y
unfolding float_bits
float_told x y fx fy e = sym (of_bits-to_bits binary64 x fx) ∙ ap (of_bits binary64) e ∙ of_bits-to_bits binary64 y fy

pub float_valid : (bits : ℕ) (x : Float) → bits ≤ 9218868437227405312 → float_bits x ≡ bits → Valid (code.Float x)
unfolding Valid Unsigned
float_valid bits x h e = subst (λ (b : ℕ). b ≤ 9218868437227405312) (sym e) h

-- ---- a literal as a match takes it apart

pub unsigned_in : (l : Literal) (x : Float) → l ≡ code.Float x → Valid l → Unsigned x
unfolding Valid
unsigned_in l x e v = subst Valid e v

pub not_negative_in : (l : Literal) (n : ℤ) → l ≡ code.Integer n → Valid l → NotNegative n
unfolding Valid
not_negative_in l n e v = subst Valid e v

-- ---- integers

pub integer_is : (value : ℕ) → value ≤ 9223372036854775807 → to_z w64 value ≡ pos value
integer_is value h = to_z-of_z w64 (pos value) (record { sfits = lt_of_le_of_lt h (lit< tt) })

pub integer_value : (n : ℤ) (value : ℕ) → value ≤ 9223372036854775807 → n ≡ pos value → (nat_of n ≡ value) × NotNegative n
unfolding nat_of NotNegative
integer_value n value h e = (ap nat_of e, (subst (λ (z : ℤ). z ≡ pos (nat_of z)) (sym e) refl, subst (λ (z : ℤ). nat_of z ≤ 9223372036854775807) (sym e) h))

pub integer_told : (n : ℤ) (value : ℕ) → nat_of n ≡ value → NotNegative n → n ≡ pos value
unfolding NotNegative
integer_told n value e p = p.0 ∙ ap pos e

-- an integer of a literal is read back from its bits as it was
pub integer_back : (n : ℤ) → NotNegative n → to_z w64 (of_z w64 n) ≡ n
unfolding NotNegative
integer_back n p = to_z-of_z w64 n (subst (SFits w64) (sym p.0) (record { sfits = lt_of_le_of_lt p.1 (lit< tt) }))

not_below : (n : ℤ) → SFits w64 n → lt_z n (pos 0) ≡ false → T (non_neg n) × Fits w64 (nat_abs n)
not_below (pos a) f e = (tt, record { fits = lt_of_le_of_lt (nat_abs-le (pos a) f.sfits) (lit< tt) })
not_below (negsuc a) f e = absurd (subst T e tt)

is_below : (n : ℤ) → lt_z n (pos 0) ≡ true → 0 ≡ nat_of n
unfolding nat_of
is_below (pos a) e = absurd (not-suc-le-zero (ltb-true a 0 e))
is_below (negsuc a) e = refl

is_itself : (n : ℤ) → lt_z n (pos 0) ≡ false → nat_abs n ≡ nat_of n
unfolding nat_of
is_itself (pos a) e = refl
is_itself (negsuc a) e = absurd (subst T e tt)

-- ---- the same of an i64 as the code reads it back from its bits

module _ (n : ℤ) (f : SFits w64 n) where
  abbrev back : ℤ
  back = to_z w64 (of_z w64 n)

  pub value_cast : lt_z back (pos 0) ≡ false → T (non_neg back) × Fits w64 (nat_abs back)
  value_cast e = not_below back (subst (SFits w64) (sym (to_z-of_z w64 n f)) f) e

  pub value_zero : lt_z back (pos 0) ≡ true → 0 ≡ nat_of n
  value_zero e = is_below n (ap (λ (z : ℤ). lt_z z (pos 0)) (sym (to_z-of_z w64 n f)) ∙ e)

  pub value_itself : lt_z back (pos 0) ≡ false → nat_abs back ≡ nat_of n
  value_itself e = is_itself back e ∙ ap nat_of (to_z-of_z w64 n f)
