-- Laws of `run` and `splice`. Two runs lie apart where one ends before the other starts. Assumes nothing.
use mathlib.Core.Path.{◌≡◌, refl, sym, ap, ◌∙◌}
use mathlib.Core.Logic.{◌≢◌, ◌⊎◌, inl, inr, ⊎_elim}
use mathlib.Core.List.{List, [], ◌∷◌, ◌++◌}
use Prim.Native.Nat.{ℕ, zero, suc, ◌+◌, ◌-◌, ◌≤◌, ◌<◌}
use native.Mathlib.Numerals.{add-one}
use native.Mathlib.Omega.{arith}
use lib.ListN.{length, get_or, take, drop, set, length-take, length-drop, length-set}
use lib.Seq.{take-suc, drop-cons, take-length, get_or-take, get_or-drop, get_or-set_same, get_or-set_other, sets-eq, length-sets, ext_get_or}
use Rattle.std.specs.List.{copy_within}
use Rattle.words.specs.Runs.{run, splice}

-- ---- a run
pub length_run : (s : List ℕ) (at n : ℕ) → at + n ≤ length s → length (run s at n) ≡ n
unfolding run
length_run s at n h = simp (length-take, length-drop) (omega arith)

pub get_d_run : (s : List ℕ) (at n i : ℕ) → i < n → get_or (run s at n) i 0 ≡ get_or s (at + i) 0
unfolding run
get_d_run s at n i h = get_or-take n (drop at s) i 0 h ∙ get_or-drop at s i 0

-- the whole list
pub run_whole : (s : List ℕ) → run s 0 (length s) ≡ s
unfolding run
run_whole s = take-length s

-- by its first byte
pub run_cons : (s : List ℕ) (at n : ℕ) → at < length s → run s at (suc n) ≡ get_or s at 0 ∷ run s (at + 1) n
unfolding run
run_cons s at n h = rw (add-one at, drop-cons s at 0 h)

-- by its last byte
pub run_snoc : (s : List ℕ) (at n : ℕ) → at + n < length s → run s at (n + 1) ≡ run s at n ++ (get_or s (at + n) 0 ∷ [])
unfolding run
run_snoc s at n h =
    let l : n < length (drop at s) = rw (length-drop at s) (omega arith) in
    rw (add-one n, take-suc (drop at s) n 0 l, get_or-drop at s n 0)

-- what is left of a run past its end
pub run_none : (s : List ℕ) (at n i : ℕ) → n ≤ i → run s at (n - i) ≡ []
unfolding run
run_none s at n i h = let l : n - i ≡ 0 = omega arith in rw l

-- a run of lists of the same length whose bytes are the same there
run_ext : (s t : List ℕ) (at n : ℕ) → length s ≡ length t → ((i : ℕ) → i < n → get_or s (at + i) 0 ≡ get_or t (at + i) 0) → run s at n ≡ run t at n
unfolding run
run_ext s t at n l f =
    let e : length (run s at n) ≡ length (run t at n) = simp (length-take, length-drop, l) in
    ext_get_or 0 (run s at n) (run t at n) e (λ i h.
    let k : i < n = omega (arith, simp length-take at h) in
    get_d_run s at n i k ∙ f i k ∙ sym (get_d_run t at n i k))

-- a run of a run
pub run_run : (s : List ℕ) (at n i m : ℕ) → at + n ≤ length s → i + m ≤ n → run (run s at n) i m ≡ run s (at + i) m
run_run s at n i m h k =
    let a = length_run s at n h in
    let b = length_run (run s at n) i m (omega arith) in
    let d = length_run s (at + i) m (omega arith) in
    ext_get_or 0 (run (run s at n) i m) (run s (at + i) m) (b ∙ sym d) (λ j q.
    let e : at + (i + j) ≡ at + i + j = omega arith in
    get_d_run (run s at n) i m j (omega arith) ∙ get_d_run s at n (i + j) (omega arith) ∙ ap (λ p. get_or s p 0) e ∙ sym (get_d_run s (at + i) m j (omega arith)))

-- ---- a list with a part written over
pub length_splice : (s : List ℕ) (at : ℕ) (xs : List ℕ) → length (splice s at xs) ≡ length s
unfolding splice
length_splice s at xs = length-sets s at xs

-- by its three parts, where what is written fits
pub splice_is : (s : List ℕ) (at : ℕ) (xs : List ℕ) (n : ℕ) → n ≡ length xs → at + n ≤ length s → splice s at xs ≡ take at s ++ xs ++ drop (at + n) s
unfolding splice
splice_is s at xs n e h = rw e (sets-eq xs s at (omega arith))

-- what the library's move within a list leaves
pub moved_is : (s t : List ℕ) (from to n : ℕ) → from + n ≤ length s → to + n ≤ length s → t ≡ copy_within s from (from + n) to → t ≡ splice s to (run s from n)
unfolding run
moved_is s t from to n h k e =
    let same : from + n - from ≡ n = omega arith in
    e ∙ rw same (sym (splice_is s to (run s from n) n (sym (length_run s from n h)) k))

-- a byte outside is as it was
pub get_d_splice_other : (s : List ℕ) (at : ℕ) (xs : List ℕ) (j : ℕ) → (j < at) ⊎ (at + length xs ≤ j) → get_or (splice s at xs) j 0 ≡ get_or s j 0
unfolding splice
get_d_splice_other s at [] j h = refl
get_d_splice_other s at (x ∷ xs) j h =
    let ne : j ≢ at = λ e. ⊎_elim (λ l. omega arith) (λ l. omega arith) h in
    get_d_splice_other (set s at x) (suc at) xs j (⊎_elim (λ l. inl (omega arith)) (λ l. inr (omega arith)) h) ∙ get_or-set_other s at j x 0 ne

-- a byte inside is what was written
pub get_d_splice_same : (s : List ℕ) (at : ℕ) (xs : List ℕ) (i : ℕ) → i < length xs → at + i < length s → get_or (splice s at xs) (at + i) 0 ≡ get_or xs i 0
unfolding splice
get_d_splice_same s at [] i h k = absurd (omega arith)
get_d_splice_same s at (x ∷ xs) zero h k =
    let z : at + 0 ≡ at = omega arith in
    rw z (get_d_splice_other (set s at x) (suc at) xs at (inl (omega arith)) ∙ get_or-set_same s at x 0 (omega arith))
get_d_splice_same s at (x ∷ xs) (suc i) h k =
    let z : at + suc i ≡ suc at + i = omega arith in
    rw z (get_d_splice_same (set s at x) (suc at) xs i (omega arith) (rw (length-set s at x) (omega arith)))

-- a run apart from what was written is as it was
pub run_splice_other : (s : List ℕ) (at : ℕ) (xs : List ℕ) (j n : ℕ) → (j + n ≤ at) ⊎ (at + length xs ≤ j) → run (splice s at xs) j n ≡ run s j n
run_splice_other s at xs j n h =
    run_ext (splice s at xs) s j n (length_splice s at xs) (λ i k.
    get_d_splice_other s at xs (j + i) (⊎_elim (λ l. inl (omega arith)) (λ l. inr (omega arith)) h))

-- a run within what was written is a run of that
pub run_splice_within : (s : List ℕ) (at : ℕ) (xs : List ℕ) (i n : ℕ) → at + length xs ≤ length s → i + n ≤ length xs → run (splice s at xs) (at + i) n ≡ run xs i n
run_splice_within s at xs i n h k =
    let l = length_splice s at xs in
    let a = length_run (splice s at xs) (at + i) n (omega arith) in
    let b = length_run xs i n k in
    ext_get_or 0 (run (splice s at xs) (at + i) n) (run xs i n) (a ∙ sym b) (λ j q.
    let e : at + i + j ≡ at + (i + j) = omega arith in
    get_d_run (splice s at xs) (at + i) n j (omega arith) ∙ ap (λ p. get_or (splice s at xs) p 0) e ∙ get_d_splice_same s at xs (i + j) (omega arith) (omega arith) ∙ sym (get_d_run xs i n j (omega arith)))

pub run_splice_same : (s : List ℕ) (at : ℕ) (xs : List ℕ) → at + length xs ≤ length s → run (splice s at xs) at (length xs) ≡ xs
run_splice_same s at xs h =
    let z : at + 0 ≡ at = omega arith in
    (rw z at (run_splice_within s at xs 0 (length xs) h (omega arith))) ∙ run_whole xs

-- ---- one byte more, after what was written
pub splice_after : (s : List ℕ) (at : ℕ) (xs : List ℕ) (y : ℕ) → set (splice s at xs) (at + length xs) y ≡ splice s at (xs ++ (y ∷ []))
unfolding splice
splice_after s at [] y = let z : at + 0 ≡ at = omega arith in rw z
splice_after s at (x ∷ xs) y =
    let z : at + suc (length xs) ≡ suc at + length xs = omega arith in
    rw z (splice_after (set s at x) (suc at) xs y)
