-- The same functions written in other forms, each of which comes to what stands in src/. Must-fail edits that plant a
-- wrong operand in such a form cite them in their answers, so that the operand is what is refused. Assumes nothing.
use mathlib.Core.Path.{◌≡◌, refl, sym, ap, ◌∙◌}
use mathlib.Core.Logic.{◌⊎◌, inl, inr}
use mathlib.Core.Bool.{Bool, true, false, ◌&&◌}
use mathlib.Core.List.{List, [], ◌∷◌, ◌++◌}
use Prim.Native.Nat.{ℕ, zero, suc, min, ◌+◌, ◌-◌, ◌≤◌, ◌<◌}
use Prim.Native.Nat.compare.{suc-suc}
use native.Mathlib.Omega.{arith}
use lib.Dec.{eqb}
use lib.ListN.{length, take, get_or, set}
use Rattle.std.proofs.Math.Bool.{and-false}
use Rattle.std.specs.declared.cmp.Ordering.{Ordering}
use Rattle.std.specs.declared.cmp.Ordering.TheVariants.{Less, Equal, Greater}
use Rattle.std.specs.Ordering.{nat_cmp, ordering_then}
use Rattle.std.specs.Cmp.{nat_cmp_is}
use Rattle.std.specs.Cmp.Lexicographic.{slice_cmp}
use Rattle.words.specs.Equality.{equalb}
use Rattle.words.specs.Order.{order}
use Rattle.words.specs.Runs.{run, splice}
use Rattle.words.proofs.RunLaws.{length_run, run_cons, run_splice_other}

-- ---- the lengths first, then the bytes
eqb_suc : (m n : ℕ) → eqb (suc m) (suc n) ≡ eqb m n
eqb_suc m n = rw (suc-suc m n)

pub long : (xs ys : List ℕ) → (eqb (length xs) (length ys) && equalb xs ys) ≡ equalb xs ys
unfolding equalb
long [] [] = refl
long [] (y ∷ ys) = and-false (eqb 0 (length (y ∷ ys)))
long (x ∷ xs) [] = and-false (eqb (length (x ∷ xs)) 0)
long (x ∷ xs) (y ∷ ys) = rw (eqb_suc (length xs) (length ys)) (go (eqb x y) (long xs ys))
  where
    go : (b : Bool) → (eqb (length xs) (length ys) && equalb xs ys) ≡ equalb xs ys → (eqb (length xs) (length ys) && (b && equalb xs ys)) ≡ (b && equalb xs ys)
    go true h = h
    go false h = and-false (eqb (length xs) (length ys))

-- ---- the bytes up to the shorter length, then the lengths
then_then : (p q r : Ordering) → ordering_then (ordering_then p q) r ≡ ordering_then p (ordering_then q r)
then_then Less q r = refl
then_then Equal q r = refl
then_then Greater q r = refl

nat_suc : (m n : ℕ) → nat_cmp (suc m) (suc n) ≡ nat_cmp m n
nat_suc m n = rw (suc-suc (suc m) n, suc-suc m n)

pub cut : (m : ℕ) (xs ys : List ℕ) → m ≡ min (length xs) (length ys) → ordering_then (slice_cmp nat_cmp (take m xs) (take m ys)) (nat_cmp (length xs) (length ys)) ≡ order xs ys
unfolding order
cut zero [] [] e = refl
cut zero [] (y ∷ ys) e = sym (nat_cmp_is zero (suc (length ys)) Less (omega arith))
cut zero (x ∷ xs) [] e = sym (nat_cmp_is (suc (length xs)) zero Greater (omega arith))
cut zero (x ∷ xs) (y ∷ ys) e = absurd (omega arith)
cut (suc m) [] ys e = absurd (omega arith)
cut (suc m) (x ∷ xs) [] e = absurd (omega arith)
cut (suc m) (x ∷ xs) (y ∷ ys) e = rw (nat_suc (length xs) (length ys)) (then_then (nat_cmp x y) (slice_cmp nat_cmp (take m xs) (take m ys)) (nat_cmp (length xs) (length ys)) ∙ ap (ordering_then (nat_cmp x y)) (cut m xs ys (omega (arith, e))))

-- ---- two parts, one after the other
splice_more : (s : List ℕ) (at : ℕ) (xs ys : List ℕ) → splice (splice s at xs) (at + length xs) ys ≡ splice s at (xs ++ ys)
unfolding splice
splice_more s at [] ys = let z : at + 0 ≡ at = omega arith in rw z
splice_more s at (x ∷ xs) ys =
    let z : at + suc (length xs) ≡ suc at + length xs = omega arith in
    rw z (splice_more (set s at x) (suc at) xs ys)

run_nil : (s : List ℕ) (at m : ℕ) → run s at 0 ++ run s at m ≡ run s at m
unfolding run
run_nil s at m = refl

run_more : (s : List ℕ) (at k m : ℕ) → at + k + m ≤ length s → run s at k ++ run s (at + k) m ≡ run s at (k + m)
run_more s at zero m h =
    let z : at + 0 ≡ at = omega arith in
    let y : 0 + m ≡ m = omega arith in
    rw (z, y) (run_nil s at m)
run_more s at (suc k) m h =
    let z : at + suc k ≡ at + 1 + k = omega arith in
    let y : suc k + m ≡ suc (k + m) = omega arith in
    rw (z, y, run_cons s at k (omega arith), run_cons s at (k + m) (omega arith)) (ap (λ l. get_or s at 0 ∷ l) (run_more s (at + 1) k m (omega arith)))

-- the first part first, to a place at or below
pub halves_low : (s t u : List ℕ) (from to n k : ℕ) → from + n ≤ length s → to + n ≤ length s → to ≤ from → k ≤ n → t ≡ splice s to (run s from k) → u ≡ splice t (to + k) (run t (from + k) (n - k)) → u ≡ splice s to (run s from n)
halves_low s t u from to n k h g l q e f =
    let a : length (run s from k) ≡ k = length_run s from k (omega arith) in
    let b : run t (from + k) (n - k) ≡ run s (from + k) (n - k) = rw e (run_splice_other s to (run s from k) (from + k) (n - k) (inr (rw a (omega arith)))) in
    let d : k + (n - k) ≡ n = omega arith in
    f ∙ rw (b, e) (rw a at (splice_more s to (run s from k) (run s (from + k) (n - k))) ∙ ap (splice s to) (run_more s from k (n - k) (omega arith) ∙ ap (run s from) d))

nothing_more : (t : List ℕ) (at from m : ℕ) → m ≡ 0 → splice t at (run t from m) ≡ t
unfolding splice run
nothing_more t at from m e = rw e

-- in two parts, the lower first: to a place at or below, or with no second part
pub in_parts : (s t u : List ℕ) (from to n k : ℕ) → from + n ≤ length s → to + n ≤ length s → k ≤ n → (to ≤ from) ⊎ (k ≡ n) → t ≡ splice s to (run s from k) → u ≡ splice t (to + k) (run t (from + k) (n - k)) → u ≡ splice s to (run s from n)
in_parts s t u from to n k h g q (inl l) e f = halves_low s t u from to n k h g l q e f
in_parts s t u from to n k h g q (inr l) e f = f ∙ nothing_more t (to + k) (from + k) (n - k) (omega arith) ∙ e ∙ ap (λ j. splice s to (run s from j)) l

-- what is written over two parts that lie apart, in either order
set_splice : (s : List ℕ) (at p : ℕ) (x : ℕ) (ys : List ℕ) → at < p → set (splice s p ys) at x ≡ splice (set s at x) p ys
unfolding splice
set_splice s at p x [] h = refl
set_splice s at p x (y ∷ ys) h = set_splice (set s p y) at (suc p) x ys (omega arith) ∙ ap (λ l. splice l (suc p) ys) (set_set s at p x y h)
  where
    set_set : (s : List ℕ) (at p x y : ℕ) → at < p → set (set s p y) at x ≡ set (set s at x) p y
    set_set [] at p x y h = refl
    set_set (z ∷ s) zero zero x y h = absurd (omega arith)
    set_set (z ∷ s) (suc at) zero x y h = absurd (omega arith)
    set_set (z ∷ s) zero (suc p) x y h = refl
    set_set (z ∷ s) (suc at) (suc p) x y h = ap (λ l. z ∷ l) (set_set s at p x y (omega arith))

splice_splice : (s : List ℕ) (at p : ℕ) (xs ys : List ℕ) → at + length xs ≤ p → splice (splice s p ys) at xs ≡ splice (splice s at xs) p ys
unfolding splice
splice_splice s at p [] ys h = refl
splice_splice s at p (x ∷ xs) ys h =
    ap (λ l. splice l (suc at) xs) (set_splice s at p x ys (omega arith)) ∙ splice_splice (set s at x) (suc at) p xs ys (omega arith)

-- in two parts, the higher first: to a place at or above, or with no first part
pub parts_high : (s t u : List ℕ) (from to n k : ℕ) → from + n ≤ length s → to + n ≤ length s → k ≤ n → (from ≤ to) ⊎ (k ≡ 0) → t ≡ splice s (to + k) (run s (from + k) (n - k)) → u ≡ splice t to (run t from k) → u ≡ splice s to (run s from n)
parts_high s t u from to n k h g q (inl l) e f =
    let a : length (run s from k) ≡ k = length_run s from k (omega arith) in
    let d : k + (n - k) ≡ n = omega arith in
    let b : run t from k ≡ run s from k = rw e (run_splice_other s (to + k) (run s (from + k) (n - k)) from k (inl (omega arith))) in
    f ∙ rw (b, e) (splice_splice s to (to + k) (run s from k) (run s (from + k) (n - k)) (rw a (omega arith)) ∙ rw a at (splice_more s to (run s from k) (run s (from + k) (n - k))) ∙ ap (splice s to) (run_more s from k (n - k) (omega arith) ∙ ap (run s from) d))
parts_high s t u from to n k h g q (inr z) e f =
    let x : to + k ≡ to = omega (arith, z) in
    let y : from + k ≡ from = omega (arith, z) in
    let w : n - k ≡ n = omega (arith, z) in
    f ∙ nothing_more t to from k z ∙ (rw (x, y, w) at e)
