-- `all` over the numbers of a range, where each call of its closure answers as a test f: it answers for the rows from the
-- first number on, before the last. Assumes nothing.
use denote.Param.Members.{Mut}
use Rattle.std.specs.Bool.{MatchBool}
use Rattle.std.specs.Fn.{Called}
use Rattle.std.specs.Iterator.{ChecksAll}
use Rattle.std.specs.List.{range_with_len, AllWithin, HoldsAt}
use Rattle.std.specs.declared.ops.Range.{Range}
use Rattle.std.proofs.iter.Yields.{nat_range_steps}
use Rattle.std.proofs.lemmas.Iterator.{YieldsList-from_range, cases_from_all}
use Rattle.std.proofs.lemmas.List.FromFn.{length-range_with_len, get_or-range_with_len}
use mathlib.Core.Path.{◌≡◌, refl, sym, ◌∙◌}
use mathlib.Core.Bool.{Bool, true, false}
use Prim.Native.Nat.{ℕ, zero, suc, ◌+◌, ◌-◌, ◌≤◌, ◌<◌}
use native.Mathlib.Omega.{arith}
use lib.ListN.{length, get_or}
use borrow.Author.Tests.{le-ltb}
use Rattle.soundness.specs.Sound.{all_to, all_from}
use Rattle.soundness.proofs.SoundLaws.{from_each, from_fails}

module _ (f : ℕ → Bool) where
  -- what `all` over the numbers from i on, before j, comes to
  all_numbers : (i j : ℕ) (b : Bool) → MatchBool b (AllWithin (λ x. f x ≡ true) (range_with_len i (j - i)) 0 (length (range_with_len i (j - i)))) ((k : ℕ) × (k < length (range_with_len i (j - i))) × HoldsAt (λ x. f x ≡ false) (range_with_len i (j - i)) k) → b ≡ all_from f i j
  all_numbers i j true h = sym (from_each f i j (λ k l m. passes k l m))
    where
      passes : (k : ℕ) → i ≤ k → k < j → f k ≡ true
      passes k l m =
          let within : k - i < j - i = omega arith in
          let there : get_or (range_with_len i (j - i)) (k - i) 0 ≡ k = get_or-range_with_len i (j - i) (k - i) 0 within ∙ omega arith in
          rw there at (h (k - i) 0 (omega arith) (rw (length-range_with_len i (j - i)) within))
  all_numbers i j false (k, l, h) =
      let within : k < j - i = rw (length-range_with_len i (j - i)) at l in
      sym (from_fails f i j (i + k) (omega arith) (omega arith) (rw (get_or-range_with_len i (j - i) k 0 within) at (h 0)))

  -- those from 0 on are all
  from_zero : (j : ℕ) → all_from f 0 j ≡ all_to f j
  unfolding all_from all_to
  from_zero zero = refl
  from_zero (suc j) = rw (from_zero j, le-ltb j 0 (omega arith))

  -- from its clause `ran`, at a closure c that no call changes
  module _ {F : Type 0} {g : Mut F (ℕ × Unit {0}) Bool} {s u : Range ℕ} (c : F) (r : Bool) (ran : ChecksAll nat_range_steps g s c r u) (answers : (x : ℕ) (b : Bool) (q : F) → Called g c (x, tt) b q → (q ≡ c) × (b ≡ f x)) where
    pub all_of_range : (i j : ℕ) → s ≡ record { start = i; end = j } → r ≡ all_from f i j
    all_of_range i j over =
        all_numbers i j r (cases_from_all u c r (λ x. f x ≡ true) (λ x. f x ≡ false) ran (YieldsList-from_range i j (j - i) over refl) (λ x q k. ((answers x true q k).0, sym (answers x true q k).1)) (λ x q k. sym (answers x false q k).1))

    pub all_of_rows : (j : ℕ) → s ≡ record { start = 0; end = j } → r ≡ all_to f j
    all_of_rows j over = all_of_range 0 j over ∙ from_zero j
