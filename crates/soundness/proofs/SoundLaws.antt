-- Laws of the tests over rows, for any test: all rows up to one, those from one on, and firsts that ascend. Assumes
-- nothing.
use mathlib.Core.Path.{◌≡◌, refl, sym, ◌∙◌}
use mathlib.Core.Bool.{Bool, true, false, ◌&&◌, ◌||◌}
use mathlib.Mathlib.Data.Bool.Basic.{and_elim_left, and_elim_right, and_intro}
use Prim.Native.Nat.{ℕ, zero, suc, ◌+◌, ◌≤◌, ◌<◌}
use native.Mathlib.Nat.{not-suc-le-zero}
use native.Mathlib.Numerals.{add-one}
use native.Mathlib.Omega.{arith}
use lib.Dec.{eqb, leb, ltb}
use borrow.Author.Tests.{eqb-true, eqb-false, leb-true, ltb-false, le-ltb, le-leb, lt-leb, eq-eqb, ne_eqb}
use Rattle.soundness.specs.Sound.{all_to, all_from, ascends}

-- ---- two tests, one of which fails
pub second_fails : (a b : Bool) → b ≡ false → (a && b) ≡ false
second_fails true b h = h
second_fails false b h = refl

pub first_fails : (a b : Bool) → a ≡ false → (a && b) ≡ false
first_fails a b h = rw h

-- a number is another, or below it
at_or_below : {A : Type 0} (i n : ℕ) → i ≤ n → (i ≡ n → A) → (i < n → A) → A
at_or_below {A} i n l same below = by (eqb i n) refl
  where
    by : (b : Bool) → eqb i n ≡ b → A
    by true e = same (eqb-true i n e)
    by false e = let other : i ≡ n → ⊥ = eqb-false i n e in below (omega (arith, other))

-- ---- all of 0, 1, .., n - 1
module _ (f : ℕ → Bool) where
  pub all_none : all_to f 0 ≡ true
  unfolding all_to
  all_none = refl

  pub all_more : (i : ℕ) → all_to f i ≡ true → f i ≡ true → all_to f (i + 1) ≡ true
  unfolding all_to
  all_more i a h = rw (add-one i) (and_intro a h)

  -- one of them fails
  pub all_fails : (n i : ℕ) → i < n → f i ≡ false → all_to f n ≡ false
  unfolding all_to
  all_fails zero i l h = absurd (not-suc-le-zero l)
  all_fails (suc n) i l h =
      at_or_below i n (omega arith)
      (λ e. second_fails (all_to f n) (f n) (rw (sym e) h))
      (λ m. first_fails (all_to f n) (f n) (all_fails n i m h))

  pub all_fewer : (i n : ℕ) → n ≤ i → all_to f i ≡ true → all_to f n ≡ true
  unfolding all_to
  all_fewer zero n l h = let z : n ≡ 0 = omega arith in rw z
  all_fewer (suc i) n l h =
      at_or_below n (suc i) l
      (λ e. rw e h)
      (λ m. all_fewer i n (omega arith) (and_elim_left (all_to f i) (f i) h))

  pub all_each : (n i : ℕ) → all_to f n ≡ true → i < n → f i ≡ true
  unfolding all_to
  all_each n i h l = and_elim_right (all_to f i) (f i) (all_fewer n (suc i) (omega arith) h)

  pub all_from_each : (n : ℕ) → ((i : ℕ) → i < n → f i ≡ true) → all_to f n ≡ true
  unfolding all_to
  all_from_each zero h = refl
  all_from_each (suc n) h = and_intro (all_from_each n (λ i l. h i (omega arith))) (h n (omega arith))

-- ---- those from i on, before j
module _ (f : ℕ → Bool) (i : ℕ) where
  pub from_fails : (n j : ℕ) → i ≤ j → j < n → f j ≡ false → all_from f i n ≡ false
  unfolding all_from
  from_fails n j l m h = all_fails (λ k. ltb k i || f k) n j m (rw (le-ltb j i l) h)

  pub from_each : (j : ℕ) → ((k : ℕ) → i ≤ k → k < j → f k ≡ true) → all_from f i j ≡ true
  unfolding all_from
  from_each j h = all_from_each (λ k. ltb k i || f k) j (λ k l. by k l (ltb k i) refl)
    where
      by : (k : ℕ) → k < j → (b : Bool) → ltb k i ≡ b → (b || f k) ≡ true
      by k l true e = refl
      by k l false e = h k (ltb-false k i e) l

-- ---- firsts that ascend
abbrev rises : (ℕ → ℕ) → ℕ → Bool
rises first i = leb (first i) (first (i + 1))

-- as far as the first of the row i, which is `last`
pub record Climbs (first : ℕ → ℕ) (i last : ℕ) : Type 0 where
  pub base : first 0 ≡ 0
  pub steps : all_to (rises first) i ≡ true
  pub here : last ≡ first i

module _ (first : ℕ → ℕ) where
  pub climbs_none : (last : ℕ) → last ≡ first 0 → last ≡ 0 → Climbs first 0 last
  climbs_none last e z = record { base = sym e ∙ z; steps = all_none (rises first); here = e }

  pub climbs_more : (i last next : ℕ) → Climbs first i last → next ≡ first (i + 1) → last ≤ next → Climbs first (i + 1) next
  climbs_more i last next h e l =
      record {
        base = h.base;
        steps = all_more (rises first) i h.steps (rw (← h.here, ← e) (le-leb last next l));
        here = e;
      }

  module _ (n limit : ℕ) where
    pub starts_above : (last : ℕ) → last ≡ first 0 → (last ≡ 0 → ⊥) → ascends first n limit ≡ false
    unfolding ascends
    starts_above last e z = first_fails (eqb (first 0) 0) (all_to (rises first) n && leb (first n) limit) (rw (sym e) (ne_eqb last 0 z))

    pub falls : (i last next : ℕ) → Climbs first i last → i < n → next ≡ first (i + 1) → next < last → ascends first n limit ≡ false
    unfolding ascends
    falls i last next h l e m =
        second_fails (eqb (first 0) 0) (all_to (rises first) n && leb (first n) limit)
        (first_fails (all_to (rises first) n) (leb (first n) limit) (all_fails (rises first) n i l (rw (← h.here, ← e) (lt-leb last next m))))

    pub climbs_end : (i last : ℕ) → Climbs first i last → i ≡ n → ascends first n limit ≡ leb last limit
    unfolding ascends
    climbs_end i last h e = rw (eq-eqb (first 0) 0 h.base, ← e, h.steps, h.here)

    up : all_to (rises first) n ≡ true → (m : ℕ) → m ≤ n → (i : ℕ) → i ≤ m → first i ≤ first m
    up s zero k i l = let z : i ≡ 0 = omega arith in rw z (omega arith)
    up s (suc m) k i l =
        at_or_below i (suc m) l
        (λ e. rw e (omega arith))
        (λ b.
        let one : first m ≤ first (m + 1) = leb-true (first m) (first (m + 1)) (all_each (rises first) n m s k) in
        rw (sym (add-one m)) (omega (arith, up s m (omega arith) i (omega arith))))

    pub ascends_from : first 0 ≡ 0 → ((i : ℕ) → i < n → first i ≤ first (i + 1)) → first n ≤ limit → ascends first n limit ≡ true
    unfolding ascends
    ascends_from base steps top =
        rw (eq-eqb (first 0) 0 base, all_from_each (rises first) n (λ i l. le-leb (first i) (first (i + 1)) (steps i l)), le-leb (first n) limit top)

    pub below_limit : ascends first n limit ≡ true → (i : ℕ) → i ≤ n → first i ≤ limit
    unfolding ascends
    below_limit h i l =
        let rest : (all_to (rises first) n && leb (first n) limit) ≡ true = and_elim_right (eqb (first 0) 0) (all_to (rises first) n && leb (first n) limit) h in
        let top : first n ≤ limit = leb-true (first n) limit (and_elim_right (all_to (rises first) n) (leb (first n) limit) rest) in
        omega (arith, up (and_elim_left (all_to (rises first) n) (leb (first n) limit) rest) n (omega arith) i l)

    -- where the last list ends
    pub last_within : (r : Bool) → r ≡ ascends first n limit → r ≡ true → (last : ℕ) → last ≡ first n → last ≤ limit
    last_within r f t last e = rw e (below_limit (sym f ∙ t) n (omega arith))
